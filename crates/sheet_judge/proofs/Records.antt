-- Laws of the kit records of a sheet: the record at a place, and the walk over all of them.
use mathlib.Core.Path.{◌≡◌, refl, ◌∙◌}
use mathlib.Core.Bool.{Bool, true, false, ◌&&◌, ◌||◌, cond, not, and-false, and-true}
use mathlib.Core.List.{List, [], ◌∷◌}
use Rattle.std.specs.Prelude.{Some, None}
use Prim.Native.Nat.{ℕ, ◌+◌, ◌≤◌, ◌<◌}
use native.Mathlib.Omega.{arith}
use lib.ListN.{length, take, drop, get_or}
use lib.Dec.{leb}
use borrow.Author.Tests.{leb-true, leb-false, eq-eqb, ne_eqb}
use Rattle.ground.specs.Limits.{two_limit}
use Rattle.ground.specs.Lists.{every, is_zero, eq_list}
use Rattle.ground.proofs.Laws.{and_right}
use Rattle.kits.specs.Kits.{good_list, units, before, most_units, units_in}
use Rattle.kits.specs.Inner.{compared}
use Rattle.kits.specs.declared.Row.{Row}
use Rattle.std.specs.Ordering.{is_lt}
use Rattle.std.specs.declared.cmp.Ordering.TheVariants.{Less, Equal, Greater}
use Rattle.nodes.specs.Held.{Kit}
use Rattle.sheet.specs.Bytes.{from_bytes, two_bytes}
use Rattle.sheet.specs.Reading.{fault, one, record_size, follows, new_kit}
use Rattle.sheet.specs.Inner.{record_at, record_end, list_at}
use Rattle.sheet.proofs.Items.{one_short}
use Rattle.sheet.proofs.Places.{list_is, tag_is, row_is}
use Rattle.sheet_judge.specs.Inner.{good_lines, Tags, new_tag, Latest}

regroup : (a b c d e : Bool) → (a && (not (not b) && (c && (d && (e && true))))) ≡ (((a && b) && (c && d)) && e)
regroup false b c d e = refl
regroup true false c d e = refl
regroup true true false d e = refl
regroup true true true false e = refl
regroup true true true true e = and-true e

-- The record at a place
module _ (w : ℕ) (s : List ℕ) (at : ℕ) where
  pub end_none : (good : List ℕ → Bool) → None ≡ record_end w s at → one (record_size w) good (drop at s) at ≡ fault at
  unfolding record_end
  end_none good e = go (leb (record_size w (drop at s)) (length (drop at s))) refl e
    where
      go : (x : Bool) → leb (record_size w (drop at s)) (length (drop at s)) ≡ x →
          None ≡ cond x (Some (at + record_size w (drop at s))) None → one (record_size w) good (drop at s) at ≡ fault at
      go true l g = absurd (let z : ◌≡◌ {A = Bool} true false = cc in cc)
      go false l g =
          one_short (record_size w) good (drop at s) at (leb-false (record_size w (drop at s)) (length (drop at s)) l)

  module _ (parts : ℕ) (seen : List Kit) where
    abbrev T : ℕ
    T = from_bytes (take two_bytes (drop at s))

    abbrev U : List ℕ
    U = units (list_at w s at)

    pub new_is : (marks : List ℕ) (t : ℕ) → Tags marks seen → t ≡ T → t < two_limit →
        new_kit w parts seen (record_at w s at) ≡ ((new_tag marks t && good_lines parts (list_at w s at)) && follows U seen)
    unfolding new_kit every new_tag good_lines
    new_is marks t k e small =
        rw (tag_is w s at, row_is w s at, list_is w s at, ← e, k t small)
        (regroup (not (is_zero t)) (is_zero (get_or marks t 0)) (good_list parts (list_at w s at)) (leb (length U) most_units) (follows U seen))

pub first_bad : {x : Bool} (a b : Bool) → x ≡ (a && b) → a ≡ false → x ≡ false
first_bad a b e f = e ∙ rw f

pub second_bad : {x : Bool} (a b : Bool) → x ≡ (a && b) → b ≡ false → x ≡ false
second_bad a b e f = e ∙ rw (f, and-false)

-- the row before
pub latest_follows : (prev : Row) (k : ℕ) (seen : List Kit) (u : List ℕ) → Latest prev k seen →
    follows u seen ≡ (is_zero k || before (units_in prev) u)
unfolding Latest follows
latest_follows prev k [] u l = rw (eq-eqb k 0 l)
latest_follows prev k (x ∷ seen) u l = rw (ne_eqb k 0 (λ z. omega (arith, l.0)), l.1)

pub later_told : {r : Bool} (k : ℕ) (after : Bool) → (k ≡ 0 → ⊥) → r ≡ after → r ≡ (is_zero k || after)
later_told k after f e = rw (ne_eqb k 0 f) e

pub lines_short_lem : (n : ℕ) (l : List ℕ) → good_lines n l ≡ true → length (units l) ≤ most_units
unfolding good_lines
lines_short_lem n l e = leb-true (length (units l)) most_units (and_right (good_list n l) (leb (length (units l)) most_units) e)

-- a row is before another where it compares as less
pub compared_less : (a b : List ℕ) → is_lt (compared a b) ≡ before a b
unfolding compared
compared_less a b = go (before a b) (eq_list a b)
  where
    go : (s t : Bool) → is_lt (cond s Less (cond t Equal Greater)) ≡ s
    go true t = refl
    go false true = refl
    go false false = refl

-- a tag that is none before it leaves it to the lines
pub lines-decide : (marks : List ℕ) (t : ℕ) (lines : Bool) → (t ≡ 0 → ⊥) → get_or marks t 0 ≡ 0 → lines ≡ (new_tag marks t && lines)
unfolding new_tag
lines-decide marks t lines f z = rw (ne_eqb t 0 f, eq-eqb (get_or marks t 0) 0 z)
