use Prim.Native.Nat.{◌-◌}
use Rattle.nodes.specs.Nodes.{depth}
use Rattle.index_append.proofs.Fork.{Climbing}
use Rattle.index_append.proofs.append.Given as goal

abbrev pub invariant-loop-b : goal.invariant-loop-b
invariant-loop-b l = Climbing l.nodes (l.n - 1) l.shared l.p l.b

abbrev pub decreases-loop-b : goal.decreases-loop-b
decreases-loop-b l = depth l.nodes l.p
