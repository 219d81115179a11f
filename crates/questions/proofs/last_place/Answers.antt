-- A list without a line has no place; otherwise none of its places is above that of the last line.
use Rattle.questions.proofs.BinWalk.{above_none, above_last}
use Rattle.questions.proofs.last_place.Goals as goal

pub returns-in_default : goal.returns-in_default
returns-in_default c = above_none c.args.bin.now c.requires c.in_default.len_below

pub returns-in-len2-up : goal.returns-in-len2-up
returns-in-len2-up c = above_last c.args.bin.now c.requires c.in-len2-up.len_at_least
