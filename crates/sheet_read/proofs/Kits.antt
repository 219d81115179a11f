-- The loop over the kit records: what is known behind k of them, and the next kit.
use mathlib.Core.Path.{◌≡◌, refl, ap, sym, subst, ◌∙◌}
use mathlib.Core.List.Memᴰ
use mathlib.Core.List.{List, [], ◌∷◌, ◌++◌}
use Prim.Native.Nat.{ℕ, zero, suc, ◌+◌, ◌-◌, ◌≤◌, ◌<◌}
use native.Mathlib.Nat.{sub-zero}
use native.Mathlib.Omega.{arith}
use lib.ListN.{length, take, drop}
use Rattle.ground.specs.Laid.{zeroed}
use Rattle.kits.specs.Kits.{most_units, most_place, units, units_in, fixed_row}
use Rattle.kits.specs.Inner.{GoodRow}
use Rattle.kits.specs.declared.Row.{Row}
use Rattle.kits.proofs.Rows.{row_back}
use Rattle.nodes.specs.Inner.{Shape}
use Rattle.nodes.specs.Held.{Kit}
use Rattle.nodes.proofs.Fields.{length_sized}
use Rattle.nodes.proofs.Rows.{climb, row_root}
use Rattle.nodes.proofs.Sorted.{every_mem}
use Rattle.nodes.proofs.Tallies.{tally_few}
use Rattle.index_insert.specs.Enter.{enter, enter_all}
use Rattle.index_insert.specs.Inner.{Enters}
use Rattle.index_append.specs.Inner.{LastEntered, Appendable}
use Rattle.index_append.proofs.Upcoming.{Upcoming, upcoming_start, upcoming_ready, upcoming_next}
use Rattle.index_counts.proofs.Filled.{Fit, Fillable, acceptable, fill_next}
use Rattle.sheet.specs.Bytes.{from_bytes, two_bytes}
use Rattle.sheet.specs.Reading.{record_size, kit_in}
use Rattle.sheet.specs.Inner.{Width, record_at, list_at, WholeAt}
use Rattle.sheet.proofs.Fits.{rising_earlier}
use Rattle.sheet.proofs.Places.{size_at, tag_is, row_is}
use Rattle.sheet_read.specs.Inner.{kits_read, end_read, KitsStand}
use Rattle.sheet_read.proofs.Listed.{kits_fillable}

module _ (w : ℕ) (s : List ℕ) where
  pub kits_step : (at k m : ℕ) → k < m →
      kits_read w s at (m - k) ≡ kit_in w (record_at w s at) ∷ kits_read w s (at + record_size w (drop at s)) (m - (k + 1))
  unfolding kits_read
  kits_step at k m h = let e : m - k ≡ suc (m - (k + 1)) = omega arith in rw e

  pub kits_none : (at : ℕ) → kits_read w s at 0 ≡ []
  unfolding kits_read
  kits_none at = refl

  pub end_step : (at k m : ℕ) → k < m → end_read w s at (m - k) ≡ end_read w s (at + record_size w (drop at s)) (m - (k + 1))
  unfolding end_read
  end_step at k m h = let e : m - k ≡ suc (m - (k + 1)) = omega arith in rw e

  end_behind : (at m : ℕ) → at ≤ end_read w s at m
  unfolding end_read
  end_behind at zero = omega arith
  end_behind at (suc m) = omega (arith, end_behind (at + record_size w (drop at s)) m)

enter_none : (N : List ℕ) → enter_all N [] ≡ N
unfolding enter_all
enter_none N = refl

enter_first : (N : List ℕ) (k : Kit) (ks : List Kit) → enter_all N (k ∷ ks) ≡ enter_all (enter N k.row k.tag) ks
unfolding enter_all
enter_first N k ks = refl

-- k of m records are entered in the first n nodes, prev is the row of the last one, and the next starts at a place: the rest can be entered, and
-- then the table is what all of them make of the table Z
pub record Filling (w : ℕ) (s : List ℕ) (from m : ℕ) (Z nodes : List ℕ) (prev : Row) (at n k : ℕ) : Type 0 where
  pub width : Width w
  pub rest : Fillable most_place (kits_read w s from m) nodes (kits_read w s at (m - k))
  pub goes : enter_all nodes (kits_read w s at (m - k)) ≡ enter_all Z (kits_read w s from m)
  pub upcoming : Upcoming nodes n (units_in prev) (kits_read w s at (m - k))
  pub short : prev.len ≤ most_units
  pub inside : end_read w s at (m - k) ≤ length s

pub filling_start : {w : ℕ} {s : List ℕ} {from m : ℕ} {N Z : List ℕ} {prev : Row} → KitsStand w s from m N → Z ≡ zeroed N →
    (prev.len ≡ 0) × (units_in prev ≡ []) → Filling w s from m Z Z prev from 1 0
filling_start {w} {s} {from} {m} {N} {Z} K e none = record {
  width = K.width;
  rest =
      rw (e, sub-zero) (kits_fillable K.parts most_place (kits_read w s from m) N K.few K.good K.unlike K.rises K.fits
      K.room);
  goes = rw sub-zero;
  upcoming =
      rw (e, none.1, sub-zero)
      (upcoming_start N (kits_read w s from m) (length_sized N K.fits) (rising_earlier (kits_read w s from m) K.rises));
  short = omega (arith, none.0);
  inside = rw sub-zero K.inside;
}

module _ {w : ℕ} {s : List ℕ} {from m : ℕ} {Z nodes : List ℕ} {prev : Row} {at n k : ℕ} (F : Filling w s from m Z nodes prev at n k) where
  pub filling_end : m ≡ k → nodes ≡ enter_all Z (kits_read w s from m)
  filling_end e =
      let z : m - k ≡ 0 = omega arith in
      let a : kits_read w s at (m - k) ≡ [] = rw z (kits_none w s at) in
      sym (enter_none nodes) ∙ ap (enter_all nodes) (sym a) ∙ F.goes

  module _ (h : k < m) where
    abbrev kit : Kit
    kit = kit_in w (record_at w s at)

    abbrev place : ℕ
    place = at + record_size w (drop at s)

    next : Fillable most_place (kits_read w s from m) nodes (kit ∷ kits_read w s place (m - (k + 1)))
    next = subst (Fillable most_place (kits_read w s from m) nodes) (kits_step w s at k m h) F.rest

    fit : Fit most_place kit
    fit = every_mem next.fit (Memᴰ.head refl)

    pub record_whole : WholeAt w s at
    record_whole = omega (arith, F.inside, end_step w s at k m h, end_behind w s place (m - (k + 1)), size_at w s at)

    pub units_short : length (units (list_at w s at)) ≤ most_units
    units_short = rw (← row_is w s at) fit.row.short

    enters : Enters most_place nodes 0 kit.row
    enters =
        let S : Shape most_place nodes = F.rest.sound.shape in
        record {
          shape = S;
          live = λ g. absurd (omega arith);
          row = subst (GoodRow most_place) (sym (ap (λ (r : List ℕ). r ++ kit.row) (row_root (climb S)))) fit.row;
          room = (acceptable next).room;
        }

    upcoming_now : Upcoming nodes n (units_in prev) (kit ∷ kits_read w s place (m - (k + 1)))
    upcoming_now = subst (Upcoming nodes n (units_in prev)) (kits_step w s at k m h) F.upcoming

    -- the record's row and tag, as they are read
    module _ (row : Row) (e : row ≡ fixed_row (units (list_at w s at))) (t : ℕ) (f : t ≡ from_bytes (take two_bytes (drop at s))) where
      is_row : units_in row ≡ kit.row
      is_row = rw e (row_back (units (list_at w s at))) ∙ sym (row_is w s at)

      is_tag : t ≡ kit.tag
      is_tag = f ∙ sym (tag_is w s at)

      may_be : row.len ≤ most_units
      may_be = rw e units_short

      pub may_append : ((prev.len ≤ most_units) × (row.len ≤ most_units)) × Appendable nodes n (units_in prev) (units_in row)
      may_append =
          ((F.short, may_be), subst (Appendable nodes n (units_in prev)) (sym is_row) (upcoming_ready upcoming_now enters (tally_few F.rest.sound)))

      pub filling_on : {M : List ℕ} {n' : ℕ} → M ≡ enter nodes (units_in row) t → LastEntered M n' (units_in row) → (r : ℕ) →
          r ≡ record_size w (drop at s) → Filling w s from m Z M row (at + r) n' (k + 1)
      filling_on {M} {n'} p l r u =
          let v : M ≡ enter nodes kit.row kit.tag = rw (is_row, is_tag) at p in
          rw u (record {
            width = F.width;
            rest = rw v (fill_next next);
            goes =
                ap (λ (x : List ℕ). enter_all x (kits_read w s place (m - (k + 1)))) v
                ∙ sym (enter_first nodes kit (kits_read w s place (m - (k + 1)))) ∙ ap (enter_all nodes) (sym (kits_step w s at k m h)) ∙ F.goes;
            upcoming =
                subst (λ (x : List ℕ). Upcoming M n' x (kits_read w s place (m - (k + 1)))) (sym is_row)
                (upcoming_next upcoming_now (subst (LastEntered M n') is_row l));
            short = may_be;
            inside = omega (arith, F.inside, end_step w s at k m h);
          })
