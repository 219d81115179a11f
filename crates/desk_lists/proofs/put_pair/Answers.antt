-- Two words set side by side are the pair laid there.
use native.Mathlib.Omega.{arith}
use lib.ListN.{length-set}
use Rattle.desk_lists.proofs.Typing.{two_set}
use Rattle.desk_lists.proofs.put_pair.Goals as goal

pub bounds-list-at-2 : goal.bounds-list-at-2
bounds-list-at-2 c = rw length-set (omega arith)

pub returns : goal.returns
returns c = two_set c.args.list.now c.args.at c.args.place c.args.quantity
