-- Behind the number stands the quantity.
use mathlib.Core.Path.{◌≡◌, ap, ◌∙◌}
use Prim.Native.Nat.{ℕ, ◌+◌}
use native.Mathlib.Omega.{arith}
use lib.ListN.{get_or}
use Rattle.repeats.specs.Inner.{next_place}
use Rattle.card_judge.proofs.quantity_here.Goals as goal

pub returns : goal.returns
returns c =
    let e : c.args.at + c.item_size.result ≡ next_place c.args.s.now c.args.at = omega
    (arith, c.item_size.ensures.0) in
    record {
      value = c.from.ensures ∙ ap (λ (i : ℕ). get_or c.args.s.now i 0) e;
      byte = omega (arith, c.from.ensures);
    }
