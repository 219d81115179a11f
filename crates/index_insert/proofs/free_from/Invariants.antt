use mathlib.Core.Path.{◌≡◌}
use Prim.Native.Nat.{◌-◌}
use Rattle.ground.specs.Lists.{from, first_or}
use Rattle.nodes.specs.Nodes.{size, is_free}
use Rattle.index_insert.proofs.free_from.Given as goal

-- no node passed is free
abbrev pub invariant-loop-i : goal.invariant-loop-i
invariant-loop-i l =
    first_or (size l.nodes) (is_free l.nodes) (from l.i (size l.nodes - l.i)) ≡ first_or (size l.nodes) (is_free l.nodes)
    (from l.a (size l.nodes - l.a))
