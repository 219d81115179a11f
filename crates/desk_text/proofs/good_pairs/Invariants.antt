use mathlib.Core.Path.{◌≡◌}
use Prim.Native.Nat.{◌+◌, ◌-◌, ◌≤◌}
use lib.ListN.{length}
use Rattle.desk_text.specs.Lines.{fields_from, good_pairs}
use Rattle.desk_text.proofs.good_pairs.Given as goal

abbrev pub invariant-loop-at : goal.invariant-loop-at
invariant-loop-at l = (l.at ≤ length l.line + 1) × (good_pairs (fields_from l.line l.at) ≡ good_pairs (fields_from l.line l.from))

abbrev pub decreases-loop-at : goal.decreases-loop-at
decreases-loop-at l = length l.line + 1 - l.at
