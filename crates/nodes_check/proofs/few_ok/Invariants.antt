use Prim.Native.Nat.{◌-◌}
use Rattle.kits.specs.Kits.{most_quantity}
use Rattle.nodes_check.proofs.Paths.{Climbing}
use Rattle.nodes_check.proofs.few_ok.Given as goal

abbrev pub invariant-loop-i : goal.invariant-loop-i
invariant-loop-i l = Climbing l.nodes l.i l.l l.at l.m

abbrev pub decreases-loop-i : goal.decreases-loop-i
decreases-loop-i l = most_quantity - l.m
