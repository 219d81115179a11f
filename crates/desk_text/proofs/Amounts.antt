-- Laws of tags and quantities.
use mathlib.Core.Path.{◌≡◌, refl, ap, sym, ◌∙◌}
use Rattle.std.proofs.Common.{Option, Some}
use Rattle.std.specs.Option.{is_some}
use Rattle.std.proofs.lemmas.Option.{cond_some}
use mathlib.Core.Bool.{Bool, true, false, and-false, and-true}
use mathlib.Core.List.{List, [], ◌∷◌}
use Prim.Native.Nat.{ℕ, ◌+◌, ◌-◌, ◌*◌, ◌≤◌, ◌<◌}
use native.Mathlib.Numerals.{add-one}
use native.Mathlib.Omega.{arith}
use lib.ListN.{length, get_or, drop, drop_of_length-le}
use lib.Seq.{drop-cons}
use lib.Dec.{leb}
use borrow.Author.Tests.{le-leb, lt-leb, leb-true}
use Rattle.ground.specs.Lists.{allb, every}
use Rattle.ground.proofs.Laws.{and_left}
use Rattle.desk_text.specs.Inner.{amount_where, amount_in}
use Rattle.desk_text.specs.Amounts.{zero_digit, largest_amount, is_digit, spelt, amount_of, leading_zero, small, good_amount}

-- the digits walked by position
module _ (v : ℕ) (f : List ℕ) (i : ℕ) where
  pub spelt_step : i < length f → spelt v (drop i f) ≡ spelt (v * 10 + (get_or f i 0 - zero_digit)) (drop (i + 1) f)
  unfolding spelt
  spelt_step h = rw (add-one, drop-cons f i 0 h)

  pub spelt_end : length f ≤ i → spelt v (drop i f) ≡ v
  unfolding spelt
  spelt_end h = rw (drop_of_length-le f h)

-- more digits spell no less
pub spelt_grows : (v : ℕ) (l : List ℕ) → v ≤ spelt v l
unfolding spelt
spelt_grows v [] = omega arith
spelt_grows v (d ∷ ds) = let h = spelt_grows (v * 10 + (d - zero_digit)) ds in omega arith

module _ (f : List ℕ) where
  pub small_other : allb is_digit f ≡ false → small f ≡ false
  unfolding small every
  small_other e = rw e

  pub small_over : largest_amount < amount_of f → small f ≡ false
  unfolding small every
  small_over h = rw (lt-leb (amount_of f) largest_amount h) (and-false (allb is_digit f))

  pub small_yes : allb is_digit f ≡ true → amount_of f ≤ largest_amount → small f ≡ true
  unfolding small every
  small_yes e h = rw (e, le-leb (amount_of f) largest_amount h)

  pub amount_empty : length f < 1 → good_amount f ≡ false
  unfolding good_amount every
  amount_empty h = rw (lt-leb 1 (length f) h)

  pub amount_long : 5 < length f → good_amount f ≡ false
  unfolding good_amount every
  amount_long h = rw (lt-leb (length f) 5 h) (and-false (leb 1 (length f)))

  module _ (low : 1 ≤ length f) (high : length f ≤ 5) where
    pub amount_zero : leading_zero f ≡ true → good_amount f ≡ false
    unfolding good_amount every
    amount_zero e = rw (le-leb 1 (length f) low, le-leb (length f) 5 high, e)

    pub amount_small : leading_zero f ≡ false → good_amount f ≡ small f
    unfolding good_amount every
    amount_small e = rw (le-leb 1 (length f) low, le-leb (length f) 5 high, e) (and-true (small f))

-- an amount as it is read, and the field
module _ (f : List ℕ) (o : Option ℕ) (e : o ≡ amount_in f) where
  pub good_if_some : is_some o ≡ good_amount f
  good_if_some = ap is_some e ∙ go (good_amount f)
    where
      go : (b : Bool) → is_some (amount_where b (amount_of f)) ≡ b
      go true = refl
      go false = refl

  pub amount_value : (v : ℕ) → o ≡ Some v → (good_amount f ≡ true) × (v ≡ amount_of f)
  amount_value v q = let h = cond_some (good_amount f) (amount_of f) v (sym e ∙ q) in (h.0, sym h.1)
