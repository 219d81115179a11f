use mathlib.Core.Path.{◌≡◌}
use Prim.Native.Nat.{◌≤◌}
use lib.ListN.{drop}
use Rattle.kits.specs.Kits.{most_quantity}
use Rattle.pages.specs.Pages.{good_units}
use Rattle.pages.specs.Inner.{good_along}
use Rattle.pages.proofs.good_units.Given as goal

abbrev pub invariant-loop-place : goal.invariant-loop-place
invariant-loop-place l = record {
  few : l.had ≤ most_quantity;
  rest : good_along l.parts l.last l.had (drop l.place-index l.units) ≡ good_units l.parts l.units;
}
