-- The first of the kits read, which alone can be empty: which of them have a unit where it is, and where it is not.
use Rattle.std.specs.Prelude.{Some}
use mathlib.Core.Path.{◌≡◌, refl, ap, sym, ◌∙◌}
use mathlib.Core.Bool.{Bool, true, false, ◌&&◌, ◌||◌, cond}
use mathlib.Core.List.{List, [], ◌∷◌}
use Prim.Native.Nat.{ℕ, zero, suc, ◌+◌, ◌-◌, ◌≤◌, ◌<◌}
use native.Mathlib.Nat.{sub-zero}
use native.Mathlib.Omega.{arith}
use lib.ListN.{length, drop}
use lib.Dec.{ltb}
use borrow.Author.Tests.{le-ltb, ltb-true, ltb-false, eqb-true, eqb-false}
use Rattle.ground.specs.Lists.{is_zero, keep}
use Rattle.ground.specs.Laid.{zeroed}
use Rattle.ground.proofs.Laws.{and_left, and_right}
use Rattle.kits.specs.Kits.{most_units, units, fixed_row}
use Rattle.kits.proofs.Rows.{row_back}
use Rattle.nodes.specs.Held.{Kit, all_beginnings, some_unit, with_units}
use Rattle.nodes.proofs.Lists.{never}
use Rattle.nodes.proofs.Units.{is_some_unit, no_unit, units_beginnings}
use Rattle.index_insert.specs.Enter.{enter_all}
use Rattle.sheet.specs.Bytes.{two_bytes}
use Rattle.sheet.specs.Reading.{record_size, kit_in}
use Rattle.sheet.specs.Inner.{record_at, list_at, WholeAt, record_end}
use Rattle.sheet.proofs.Places.{row_is, end_whole}
use Rattle.sheet.proofs.Emptied.{first_without, good_with_units, unlike_with_units, rising_with_units}
use Rattle.sheet_read.specs.Inner.{kits_read, empty_first, KitsStand}
use Rattle.sheet_read.proofs.Kits.{Filling, kits_step, kits_none, end_step, filling_start, record_whole, units_short}

kits_many : (w : ℕ) (s : List ℕ) (at m : ℕ) → length (kits_read w s at m) ≡ m
unfolding kits_read
kits_many w s at zero = refl
kits_many w s at (suc m) = ap suc (kits_many w s (at + record_size w (drop at s)) m)

-- kits that are the n read from a place on are n, and were entered with these
pub entered_are : (w : ℕ) (s : List ℕ) (from n : ℕ) (ks : List Kit) (Z : List ℕ) {M : List ℕ} → ks ≡ kits_read w s from n →
    M ≡ enter_all Z (kits_read w s from n) → (n ≡ length ks) × (M ≡ enter_all Z ks)
entered_are w s from n ks Z e h = (sym (ap length e ∙ kits_many w s from n), h ∙ ap (enter_all Z) (sym e))

module _ {w : ℕ} {s : List ℕ} {at m : ℕ} {N : List ℕ} (K : KitsStand w s at m N) where
  abbrev ks : List Kit
  ks = kits_read w s at m

  start : Filling w s at m (zeroed N) (zeroed N) (fixed_row []) at 1 0
  start = filling_start K refl (refl, row_back [])

  pub first_whole : 0 < m → WholeAt w s at × (length (units (list_at w s at)) ≤ most_units)
  first_whole h = (record_whole start h, units_short start h)

  abbrev first : Kit
  first = kit_in w (record_at w s at)

  abbrev place : ℕ
  place = at + record_size w (drop at s)

  kits_first : 0 < m → kits_read w s at m ≡ kit_in w (record_at w s at) ∷ kits_read w s (at + record_size w (drop at s)) (m - 1)
  kits_first h = rw sub-zero at (kits_step w s at 0 m h)

  units_read : 0 < m → with_units (kits_read w s at m) ≡
      cond (some_unit (kit_in w (record_at w s at))) (kits_read w s at m) (kits_read w s (at + record_size w (drop at s)) (m - 1))
  units_read h =
      let e = kits_first h in
      let t = kits_read w s place (m - 1) in
      ap with_units e ∙ first_without first t (rw e at K.rises) ∙ ap (λ (l : List Kit). cond (some_unit first) l t) (sym e)

  -- an empty one is left out
  module _ (e : empty_first w s at m ≡ true) where
    pub some_kit : 0 < m
    some_kit = ltb-true 0 m (and_left (ltb 0 m) (is_zero (length (units (list_at w s at)))) e)

    no_units : length (kit_in w (record_at w s at)).row ≡ 0
    no_units = ap length (row_is w s at) ∙ eqb-true _ _ (and_right (ltb 0 m) (is_zero (length (units (list_at w s at)))) e)

    -- where its record ends
    behind_first_lem : (r : ℕ) → Some r ≡ record_end w s at → r ≡ at + record_size w (drop at s)
    behind_first_lem r q = let e = end_whole w s at (first_whole some_kit).0 in cc

    module _ {r : ℕ} (q : r ≡ at + record_size w (drop at s)) where
      pub units_of_rest : with_units (kits_read w s at m) ≡ kits_read w s r (m - 1)
      units_of_rest =
          let n = no_unit first no_units in
          rw q (units_read some_kit ∙ rw n refl)

      pub rest_stands : KitsStand w s r (m - 1) N
      rest_stands =
          let u = units_of_rest in
          record {
            width = K.width;
            parts = K.parts;
            few = K.few;
            inside = rw q (omega (arith, K.inside, rw sub-zero at (end_step w s at 0 m some_kit)));
            good = rw u at (good_with_units K.parts ks K.good);
            unlike = rw u at (unlike_with_units ks K.unlike);
            rises = rw u at (rising_with_units ks K.rises);
            fits = K.fits;
            room = omega (arith, K.room, ap length (units_beginnings ks), ap (λ (l : List Kit). length (all_beginnings l)) u);
          }

  -- and otherwise all have a unit
  pub all_with_units : empty_first w s at m ≡ false → with_units (kits_read w s at m) ≡ kits_read w s at m
  unfolding keep
  all_with_units e = go (ltb 0 m) (is_zero (length (units (list_at w s at)))) refl refl e
    where
      go : (a b : Bool) → ltb 0 m ≡ a → is_zero (length (units (list_at w s at))) ≡ b → (a && b) ≡ false →
          with_units (kits_read w s at m) ≡ kits_read w s at m
      go false b x y z =
          let i : m ≡ 0 = omega (arith, ltb-false 0 m x) in
          let none : kits_read w s at m ≡ [] = rw i (kits_none w s at) in
          rw none refl
      go true true x y z = absurd (never z)
      go true false x y z =
          let h : 0 < m = ltb-true 0 m x in
          let u : 0 < length first.row = omega (arith, ap length (row_is w s at), eqb-false (length (units (list_at w s at))) 0 y) in
          let some = is_some_unit first u in
          units_read h ∙ rw some refl

------------------------------------------------------------------------
-- What is torn, and what stands where it was computed

pub none-missing : (kept n announced : ℕ) → n ≡ announced → (remains : Bool) → n ≤ kept → remains ≡ (ltb kept announced || remains)
none-missing kept n announced is remains h = rw (← is, le-ltb kept n h)

pub stand-there : {w v at end : ℕ} → w ≡ v → at ≡ end → (s : List ℕ) (m : ℕ) (N : List ℕ) →
    KitsStand v s (end + two_bytes) m N → KitsStand w s (at + two_bytes) m N
stand-there wide ends s m N K = rw (wide, ends) K
