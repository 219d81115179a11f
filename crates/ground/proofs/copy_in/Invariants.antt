use mathlib.Core.Path.{◌≡◌}
use Prim.Native.Nat.{◌≤◌, ◌+◌}
use lib.ListN.{length, drop}
use Rattle.ground.specs.Laid.{laid}
use Rattle.ground.proofs.copy_in.Given as goal

abbrev pub invariant-loop-i : goal.invariant-loop-i
invariant-loop-i l =
    (l.at + length l.bytes ≤ length l.initial.out) × (length l.out ≡ length l.initial.out)
    × (laid l.out (l.at + l.i) (drop l.i l.bytes) ≡ laid l.initial.out l.at l.bytes)
