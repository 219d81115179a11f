-- Kits that the format has room for can be entered, and are inserted, one after the other.
use mathlib.Core.Path.{◌≡◌, refl, sym, ap, ◌∙◌}
use mathlib.Core.Logic.{◌≢◌}
use mathlib.Core.Bool.{true}
use mathlib.Core.List.Memᴰ
use mathlib.Core.List.{List, [], ◌∷◌}
use Prim.Native.Nat.{ℕ, ◌+◌, ◌≤◌, ◌<◌}
use native.Mathlib.Omega.{arith}
use lib.ListN.{length, length-replicate}
use lib.Dec.{eqb}
use borrow.Author.Tests.{leb-true, le-leb, lt-ltb}
use Rattle.ground.specs.Limits.{two_limit}
use Rattle.ground.specs.Lists.{allb, every, distinct}
use Rattle.ground.specs.Laid.{zeroed}
use Rattle.ground.specs.Calls.{answer, memory}
use Rattle.ground.proofs.Calls.{leaves_done}
use Rattle.ground.proofs.Laws.{every_at}
use Rattle.kits.specs.Kits.{most_units, list_of, good_list}
use Rattle.kits.specs.Inner.{GoodRow}
use Rattle.kits.proofs.Units.{good_row, units_back, row_list_good}
use Rattle.nodes.specs.Nodes.{size, nodes_length}
use Rattle.nodes.specs.Held.{Kit, tags_of, held, some_unit, with_units, all_beginnings}
use Rattle.nodes.proofs.Fields.{length_sized}
use Rattle.nodes.proofs.Sorted.{Every, Rising, none, also, ahead, mem_every, every_map2, keep_mem, allb_mem}
use Rattle.nodes.proofs.Listing.{Earlier, OtherTag, earlier_other}
use Rattle.nodes.proofs.Units.{some_unit_is}
use Rattle.nodes.proofs.Empty.{zeros_sound, zeros_hold_nothing}
use Rattle.index_insert.specs.Enter.{enter, lacks, enter_all}
use Rattle.index.specs.Inner.{inserting_row}
use Rattle.index.proofs.Answers.{inserting_done}
use Rattle.index.proofs.Kept.{Accepted}
use Rattle.index_counts.proofs.Filled.{Fit, Apart, Fillable, acceptable, fill_next}
use Rattle.sheet.specs.Inner.{good_kit, rising}
use Rattle.sheet.proofs.Fits.{rising_earlier, tags_apart}

-- a good kit may be entered
pub kit_fits : (n p : ℕ) (k : Kit) → n ≤ p → good_kit n k ≡ true → Fit p k
unfolding good_kit
kit_fits n p k h g =
    let u = units_back k.row in
    let l : good_list n (list_of k.row) ≡ true = every_at _ 2 g in
    let s : length k.row ≤ most_units = leb-true (length k.row) most_units (every_at _ 3 g) in
    let r : GoodRow n k.row = rw u at (good_row n (list_of k.row) l (rw u s)) in
    record {
      row =
          record {
            short = r.short;
            rises = r.rises;
            some_place = r.some_place;
            a_place = λ i v. omega (arith, r.a_place i v);
            few =
                r.few;
          };
      some_tag_lem = leb-true 1 k.tag (every_at _ 0 g);
    }

pub fits_kit : (n : ℕ) (k : Kit) → Fit n k → k.tag < two_limit → good_kit n k ≡ true
unfolding good_kit every
fits_kit n k f h =
    let a = le-leb 1 k.tag f.some_tag_lem in
    let b = lt-ltb k.tag two_limit h in
    let c = row_list_good n k.row f.row in
    let d = le-leb (length k.row) most_units f.row.short in
    rw (a, b, c, d)

-- two kits in listing order with different tags can be held together
both_apart : {ks : List Kit} → Rising Earlier ks → Rising OtherTag ks → Rising Apart ks
both_apart none none = none
both_apart (ahead {x = k} d s) (ahead e t) =
    ahead (every_map2 (λ y a b. record { rows = earlier_other k y a; tags = b }) d e) (both_apart s t)

-- Kits that the format has room for can be entered one after the other in an emptied table that has nodes for them
pub kits_fillable : (n p : ℕ) (ks : List Kit) (N : List ℕ) → n ≤ p → allb (good_kit n) ks ≡ true → distinct eqb (tags_of ks) ≡ true →
    rising ks ≡ true → nodes_length N ≡ true → 1 + length (all_beginnings ks) ≤ size N → Fillable p ks (zeroed N) ks
kits_fillable n p ks N h g d r l room =
    let e : held (zeroed N) ≡ [] = zeros_hold_nothing N l in
    record {
      sound = zeros_sound N p (length_sized N l);
      fit = mem_every ks (λ k m. kit_fits n p k h (allb_mem (good_kit n) ks k g m));
      differ = both_apart (rising_earlier ks r) (tags_apart ks d);
      new = λ a b m. absurd (Memᴰ.not-nil (rw e at m));
      held_in = λ k m. absurd (Memᴰ.not-nil (rw e at m));
      all_in = λ k m. m;
      room = omega (arith, length-replicate {A = ℕ} (length N) 0);
    }

-- a kit with a unit, which insertion does not refuse for want of one
abbrev pub HasUnit : Kit → Type 0
HasUnit k = some_unit k ≡ true

pub have_units : (ks : List Kit) → Every HasUnit (with_units ks)
have_units ks = mem_every (with_units ks) (λ k m. (keep_mem some_unit k ks m).1)

-- The next of them is inserted, so that the table is what it enters
inserting_enters : {p : ℕ} {T : List Kit} {N : List ℕ} {k : Kit} {ks : List Kit} → Fillable p T N (k ∷ ks) → HasUnit k →
    memory (inserting_row k.row k.tag N) N ≡ enter N k.row k.tag
unfolding inserting_row memory
inserting_enters {N = N} {k = k} F u =
    let A : Accepted k.row k.tag N = acceptable F in
    let some : length k.row ≢ 0 = λ e. omega (arith, some_unit_is k u) in
    leaves_done (answer (inserting_row k.row k.tag N)) (lacks N 0 k.row) N (enter N k.row k.tag)
    (inserting_done k.row N k.tag some A.fresh A.unborne A.room)

-- kits inserted one after the other
unfoldable pub insert_all : List ℕ → List Kit → List ℕ
insert_all N [] = N
insert_all N (k ∷ ks) = insert_all (memory (inserting_row k.row k.tag N) N) ks

pub inserted_in_order : {p : ℕ} {T : List Kit} (ks : List Kit) (N : List ℕ) → Fillable p T N ks → Every HasUnit ks →
    enter_all N ks ≡ insert_all N ks
unfolding enter_all insert_all
inserted_in_order [] N F us = refl
inserted_in_order (k ∷ ks) N F (also u us) =
    inserted_in_order ks (enter N k.row k.tag) (fill_next F) us ∙ ap (λ (M : List ℕ). insert_all M ks) (sym (inserting_enters F u))
