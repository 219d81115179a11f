-- Inner: no promise of the house rests on what stands here; inner contracts and proofs speak by it.
-- Good rows, rows of 64 places, and inclusion decided label by label.
use Rattle.std.specs.Prelude.{◌≡◌, Bool, true, false, ◌&&◌, cond, List, [], ◌∷◌, map, ℕ, suc, ◌+◌, ◌≤◌, ◌<◌, length, get_or, ltb, eqb}
use Rattle.ground.specs.Lists.{eq_list, from}
use Rattle.kits.specs.Kits.{most_quantity, most_units, most_place, count, before}
use Rattle.std.specs.declared.cmp.Ordering.{Ordering}
use Rattle.std.specs.declared.cmp.Ordering.TheVariants.{Less, Equal, Greater}

------------------------------------------------------------------------
-- Lists and rows of units

-- how many of a place a list has, all its lines together
unfoldable pub quantity : List ℕ → ℕ → ℕ
quantity [] p = 0
quantity (x ∷ []) p = 0
quantity (x ∷ q ∷ l) p = cond (eqb p x) q 0 + quantity l p

-- a set: "a kit with every quantity 1"
unfoldable pub one_each : List ℕ → Bool
one_each [] = true
one_each (p ∷ []) = true
one_each (p ∷ q ∷ l) = eqb q 1 && one_each l

-- in how many places at their front two rows agree
unfoldable pub agreed : List ℕ → List ℕ → ℕ
agreed [] b = 0
agreed (x ∷ a) [] = 0
agreed (x ∷ a) (y ∷ b) = cond (eqb x y) (suc (agreed a b)) 0

-- The unit row of a kit, with n parts registered: at most 64 units, in rising order, each the place of a part, and of none more than 15
pub record GoodRow (n : ℕ) (r : List ℕ) : Type 0 where
  pub short : length r ≤ most_units
  pub rises : (i : ℕ) → i + 1 < length r → get_or r i 0 ≤ get_or r (i + 1) 0
  pub some_place : (i : ℕ) → i < length r → 0 < get_or r i 0
  pub a_place : (i : ℕ) → i < length r → get_or r i 0 ≤ n
  pub few : (p : ℕ) → count p r ≤ most_quantity

------------------------------------------------------------------------
-- A kit "held once a checked list as a fixed row of 64 places with its length": rows, and their order

-- how two rows of units stand in listing order
unfoldable pub compared : List ℕ → List ℕ → Ordering
compared a b = cond (before a b) Less (cond (eq_list a b) Equal Greater)

-- a bin's quantity at each place, from 0 on
unfoldable pub quantities : List ℕ → List ℕ
quantities l = map (quantity l) (from 0 (most_place + 1))

------------------------------------------------------------------------
-- Inclusion decided label by label along a row: what a walk over rows keeps of the labels that it has passed

-- Q has, at each place, how often the units have it
abbrev pub Counts : List ℕ → List ℕ → Type 0
Counts Q us = (p : ℕ) → get_or Q p 0 ≡ count p us

-- a row within a bin whose quantities are Q: each label in turn must not be used up; `last` has come `had` times
unfoldable pub fits_along : List ℕ → ℕ → ℕ → List ℕ → Bool
fits_along Q last had [] = true
fits_along Q last had (x ∷ r) = cond (eqb x last)
    (ltb had (get_or Q x 0) && fits_along Q last (suc had) r)
    (ltb 0 (get_or Q x 0) && fits_along Q x 1 r)

-- a row that contains some units, both rising: the first of them is wanted; smaller labels pass, and none may come above it
unfoldable pub covers_along : List ℕ → List ℕ → Bool
covers_along [] r = true
covers_along (u ∷ us) [] = false
covers_along (u ∷ us) (x ∷ r) = cond (ltb x u) (covers_along (u ∷ us) r) (eqb x u && covers_along us r)
