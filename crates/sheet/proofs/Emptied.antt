-- Contents without an empty kit: in listing order it can only be the first, and what is left fits the format as before.
use mathlib.Core.Path.{◌≡◌, refl, ap}
use mathlib.Core.Bool.{true, cond}
use mathlib.Core.List.{List, ◌∷◌}
use Prim.Native.Nat.{ℕ, ◌+◌}
use native.Mathlib.Omega.{arith}
use lib.ListN.{length}
use lib.Dec.{eqb}
use Rattle.ground.specs.Lists.{allb, distinct, keep}
use Rattle.nodes.specs.Held.{Kit, some_unit, with_units, listed, tags_of}
use Rattle.nodes.proofs.Sorted.{rising_keep, keep_short, keep_all, allb_mem, mem_allb}
use Rattle.nodes.proofs.Units.{is_some_unit, units_mem, units_behind, units_beginnings, listed_mem}
use Rattle.sheet.specs.Sheet.{Contents, contents_of, without_empty, nodes_needed}
use Rattle.sheet.specs.Inner.{good_kit, rising, fits_sheet}
use Rattle.sheet.proofs.Fits.{Fits, fitting_fits, fits_fitting, rising_earlier, earlier_rising, tags_apart, apart_tags}

-- a table's contents have none
pub contents_without : (R N : List ℕ) → without_empty (contents_of R N) ≡ contents_of R N
contents_without R N =
    let e = keep_all some_unit (listed N) (λ k m. is_some_unit k ((listed_mem N k).0 m).1) in
    rw e refl

-- it takes no node
pub needed_without : (c : Contents) → nodes_needed (without_empty c) ≡ nodes_needed c
needed_without c = ap (λ bs. 1 + length bs) (units_beginnings c.kits)

-- in listing order only the first can be empty
pub first_without : (k : Kit) (ks : List Kit) → rising (k ∷ ks) ≡ true → with_units (k ∷ ks) ≡ cond (some_unit k) (k ∷ ks) ks
unfolding keep
first_without k ks h = ap (λ (us : List Kit). cond (some_unit k) (k ∷ us) us) (units_behind (rising_earlier (k ∷ ks) h))

-- what the format asks of kits it asks of those with a unit among them
pub good_with_units : (n : ℕ) (ks : List Kit) → allb (good_kit n) ks ≡ true → allb (good_kit n) (with_units ks) ≡ true
good_with_units n ks g = mem_allb (good_kit n) (with_units ks) (λ k m. allb_mem (good_kit n) ks k g ((units_mem k ks).0 m).0)

pub unlike_with_units : (ks : List Kit) → distinct eqb (tags_of ks) ≡ true → distinct eqb (tags_of (with_units ks)) ≡ true
unlike_with_units ks d = apart_tags (rising_keep some_unit ks (tags_apart ks d))

pub rising_with_units : (ks : List Kit) → rising ks ≡ true → rising (with_units ks) ≡ true
rising_with_units ks r = earlier_rising (rising_keep some_unit ks (rising_earlier ks r))

pub fits_without : (c : Contents) → fits_sheet c ≡ true → fits_sheet (without_empty c) ≡ true
fits_without c h =
    let f : Fits c = fitting_fits c h in
    fits_fitting (without_empty c) (record {
      few_parts_lem = f.few_parts_lem;
      numbers_good = f.numbers_good;
      numbers_once = f.numbers_once;
      few_kits = omega (arith, f.few_kits, keep_short some_unit c.kits);
      kits_good = good_with_units (length c.parts) c.kits f.kits_good;
      tags_once = unlike_with_units c.kits f.tags_once;
      kits_rise = rising_with_units c.kits f.kits_rise;
    })
