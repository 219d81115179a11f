use lib.ListN.{drop}
use Rattle.desk_replies.specs.Replies.{tags_text}
use Rattle.ground.proofs.Put.{Rest}
use Rattle.desk_replies.proofs.put_tags.Given as goal

abbrev pub invariant-loop-tag : goal.invariant-loop-tag
invariant-loop-tag l = Rest l.initial.out l.from (tags_text l.tags) l.out l.at (tags_text (drop l.tag-index l.tags))
