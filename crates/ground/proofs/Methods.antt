-- What std's methods on slices and ranges give, in the words of specs/.
use mathlib.Core.Path.{◌≡◌, ap, refl}
use mathlib.Core.Bool.{Bool, ◌&&◌, ◌||◌}
use mathlib.Core.List.{List, [], ◌∷◌}
use Prim.Native.Nat.{ℕ, zero, suc}
use native.Mathlib.Numerals.{add-one}
use lib.Dec.{eqb}
use lib.Pointwise.{pointwise}
use Rattle.std.specs.List.{list_all, list_any, range_with_len}
use Rattle.ground.specs.Lists.{allb, anyb, eq_list, from}

-- `iter().all(..)` and `iter().any(..)`
pub all_is : {A : Type 0} (p : A → Bool) (l : List A) → list_all p l ≡ allb p l
unfolding allb
all_is p [] = refl
all_is p (x ∷ l) = ap (λ b. p x && b) (all_is p l)

pub any_is : {A : Type 0} (p : A → Bool) (l : List A) → list_any p l ≡ anyb p l
unfolding anyb
any_is p [] = refl
any_is p (x ∷ l) = ap (λ b. p x || b) (any_is p l)

-- `a == b`
pub same_is : (a b : List ℕ) → pointwise eqb a b ≡ eq_list a b
unfolding eq_list
same_is [] [] = refl
same_is [] (y ∷ b) = refl
same_is (x ∷ a) [] = refl
same_is (x ∷ a) (y ∷ b) = ap (λ t. eqb x y && t) (same_is a b)

-- `a..a + n`
pub range_is : (a n : ℕ) → range_with_len a n ≡ from a n
unfolding from
range_is a zero = refl
range_is a (suc n) = rw add-one (ap (◌∷◌ a) (range_is (suc a) n))
