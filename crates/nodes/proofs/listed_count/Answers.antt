-- The root's number has its own kit, which has no unit, and all that have one.
use native.Mathlib.Omega.{arith}
use Rattle.nodes.proofs.Units.{own_and_listed}
use Rattle.nodes.proofs.listed_count.Goals as goal

pub overflow_sub-result : goal.overflow_sub-result
overflow_sub-result c =
    omega (arith, c.from.ensures, own_and_listed c.requires c.tag_at-own.ensures c.tally_at.ensures)

pub returns : goal.returns
returns c =
    omega (arith, c.from.ensures, own_and_listed c.requires c.tag_at-own.ensures c.tally_at.ensures)
