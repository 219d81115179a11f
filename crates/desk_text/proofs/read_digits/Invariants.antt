use mathlib.Core.Path.{◌≡◌}
use Prim.Native.Nat.{◌≤◌}
use lib.ListN.{drop}
use Rattle.ground.specs.Lists.{allb}
use Rattle.desk_text.specs.Amounts.{is_digit, spelt, amount_of, largest_amount}
use Rattle.desk_text.proofs.read_digits.Given as goal

abbrev pub invariant-loop-b : goal.invariant-loop-b
invariant-loop-b l =
    (l.v ≤ largest_amount) × (allb is_digit (drop l.b-index l.f) ≡ allb is_digit l.f) × (spelt l.v (drop l.b-index l.f) ≡ amount_of l.f)
