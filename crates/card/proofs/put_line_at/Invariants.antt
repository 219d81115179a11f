use mathlib.Core.Path.{◌≡◌}
use Prim.Native.Nat.{◌≤◌, ◌+◌}
use lib.ListN.{length}
use Rattle.sheet.specs.Sheet.{line_words}
use Rattle.card.proofs.Moved.{moved}
use Rattle.card.proofs.put_line_at.Given as goal

abbrev pub invariant-loop-i : goal.invariant-loop-i
invariant-loop-i l =
    (l.at ≤ l.i) × (l.words + line_words ≤ length l.initial.list) × (length l.list ≡ length l.initial.list)
    × (l.list ≡ moved l.initial.list l.words l.i)
