-- Request 14: what is answered of the empty list, of tables that hold an empty kit, and of tables that were not begun empty.
use mathlib.Core.Path.{◌≡◌, refl, sym, ap, subst, ◌∙◌}
use mathlib.Core.Logic.{◌≢◌}
use mathlib.Core.Bool.{Bool, true, false, cond, false≢true}
use mathlib.Core.List.{List, [], ◌∷◌, ◌++◌, append-nil, Memᴰ}
use Prim.Native.Nat.{ℕ, ◌<◌}
use native.Mathlib.Omega.{arith}
use lib.ListN.{length}
use lib.Dec.{eqb}
use borrow.Author.Tests.{eqb-true, eqb-false, le-ltb, ne_eqb}
use Rattle.ground.specs.Lists.{anyb, is_zero}
use Rattle.ground.specs.Calls.{Case, given, done, refused, is_refused, number_of, value_of, decide, answer, memory}
use Rattle.ground.specs.Tables.{Tables, tables}
use Rattle.ground.proofs.Calls.{leaves_done, decide_behind}
use Rattle.register.specs.Register.{parts_of}
use Rattle.kits.specs.Kits.{most_units, list_of, units, lines_faults, list_faults}
use Rattle.kits.proofs.Units.{list_back}
use Rattle.nodes.specs.Held.{Kit, drop_kit, tag_in, tags_of, held, some_unit, with_units, listed}
use Rattle.nodes.specs.Inner.{Sound}
use Rattle.nodes.proofs.Lists.{never}
use Rattle.nodes.proofs.Sorted.{Every, Rising, none, also, mem_every, keep_all, eqb_anyb}
use Rattle.nodes.proofs.Listing.{Earlier, drop_mem, drop_none, mem_tags, tag_in_lem}
use Rattle.nodes.proofs.Held.{held_rises, held_rows_differ, held_tagged}
use Rattle.nodes.proofs.Tallies.{count_all}
use Rattle.nodes.proofs.Units.{is_some_unit, units_mem, units_drop, listed_mem, root_lists}
use Rattle.index_delete.specs.Strike.{strike}
use Rattle.index.specs.Index.{entry_refusals, missing_refusals}
use Rattle.index.proofs.Kept.{held_after_delete, listed_after_delete}
use Rattle.tables.specs.Lent.{part_count, lengths, lent_both, lent_list}
use Rattle.tables.proofs.Lent.{list_passed}
use Rattle.catalogue.specs.Calls.{contents, inserting, finding, deleting}
use Rattle.catalogue.proofs.Kept.{done_parts}
use Rattle.demands.specs.Model.{has, empty_kit}
use Rattle.demands.specs.Demand2.{Asked}
use Rattle.demands.specs.NoKit.{NineteenExactly, EmptyFound, EmptyStruck, EmptyBears, EmptyListCounts, HasWhatWasLeft}
use Rattle.demands.proofs.Questions.{asked_tables}
use Rattle.demands.proofs.Brought.{has_its_own, calls_keep}
use Rattle.demands.proofs.Answers.{has_contents}
use Rattle.demands.proofs.Beginning.{count_says}
use Rattle.demands.proofs.LaidDown.{NumberIn, list_in_lem}

------------------------------------------------------------------------
-- 19

-- a refusal with another number than a case has comes from behind it
pub pass_one : (c : Case) (cs : List Case) (w n v : ℕ) → c.number ≢ n → decide (c ∷ cs) w ≡ refused n v →
    (c.test ≡ false) × (decide cs w ≡ refused n v)
unfolding decide
pass_one c cs w n v other e = go c.test refl e
  where
    go : (b : Bool) → c.test ≡ b → cond b (refused c.number c.value) (decide cs w) ≡ refused n v → (c.test ≡ false) × (decide cs w ≡ refused n v)
    go true t f = absurd (other (ap number_of f))
    go false t f = (t, f)

-- and with a number that none of some cases has, from behind all of them
pub pass_all : (ns : List ℕ) (cs ds : List Case) (w n v : ℕ) → Every (NumberIn ns) cs → anyb (eqb n) ns ≡ false → decide (cs ++ ds) w ≡ refused n v →
    (decide cs 0 ≡ done 0) × (decide ds w ≡ refused n v)
unfolding decide
pass_all ns [] ds w n v none out e = (refl, e)
pass_all ns (c ∷ cs) ds w n v (also i is) out e =
    let a = pass_one c (cs ++ ds) w n v (λ q. never (sym i ∙ ap (λ (x : ℕ). anyb (eqb x) ns) q ∙ out)) e in
    let b = pass_all ns cs ds w n v is out a.1 in
    let t = a.0 in
    (rw t b.0, b.1)

-- and with one that no case has there is none
pub not_among : (ns : List ℕ) (cs : List Case) (w n v : ℕ) → Every (NumberIn ns) cs → anyb (eqb n) ns ≡ false → decide cs w ≡ refused n v → ⊥
unfolding decide
not_among ns cs w n v is out e = false≢true (ap is_refused (pass_all ns cs [] w n v is out (rw append-nil e)).1)

pub both_in : (T : Tables) → Every (NumberIn (1 ∷ 2 ∷ [])) (lent_both T)
unfolding anyb lengths lent_both
both_in T = also refl (also refl (also refl (also refl none)))

-- a good list without a unit has no line
no_line : (n : ℕ) (l : List ℕ) → is_refused (decide (list_faults n l) 0) ≡ false → length (units l) ≡ 0 → l ≡ []
unfolding list_of
no_line n l good z = sym (list_back n l (list_passed n l good)) ∙ go (units l) z
  where
    go : (r : List ℕ) → length r ≡ 0 → list_of r ≡ []
    go [] e = refl
    go (x ∷ r) e = absurd (omega arith)

-- the first of the cases that look at the nodes is the only one with this number
first_says : (z : Bool) (cs : List Case) (w v : ℕ) → Every (NumberIn (9 ∷ 10 ∷ 12 ∷ [])) cs → decide (given z 19 0 ∷ cs) w ≡ refused 19 v →
    (z ≡ true) × (v ≡ 0)
unfolding anyb decide
first_says true cs w v is e = (refl, sym (ap value_of e))
first_says false cs w v is e = absurd (not_among (9 ∷ 10 ∷ 12 ∷ []) cs w 19 v is refl e)

nineteen_only : (l : List ℕ) (t v : ℕ) (T : Tables) → answer (inserting l t T) ≡ refused 19 v → Asked T l × (0 < t) × (l ≡ []) × (v ≡ 0)
unfolding anyb answer inserting entry_refusals lent_list
nineteen_only l t v T e =
    let a = pass_all (1 ∷ 2 ∷ []) (lent_both T) _ _ 19 v (both_in T) refl e in
    let b = pass_one _ _ _ 19 v (λ q. omega arith) a.1 in
    let c = pass_all (4 ∷ 5 ∷ 6 ∷ []) (list_faults (part_count T) l) _ _ 19 v (list_in_lem (4 ∷ 5 ∷ 6 ∷ []) refl refl refl (part_count T) l) refl b.1 in
    let d = pass_one _ _ _ 19 v (λ q. omega arith) c.1 in
    let f = first_says _ _ _ v (also refl (also refl (also refl none))) d.1 in (
      decide_behind (lent_both T) (list_faults (part_count T) l) 0 0 a.0 ∙ c.0,
      omega (arith, eqb-false t 0 b.0),
      no_line (part_count T) l (ap is_refused c.0) (eqb-true (length (units l)) 0 f.0),
      f.1,
    )

nineteen_says : (t : ℕ) (T : Tables) → Asked T [] → 0 < t → answer (inserting [] t T) ≡ refused 19 0
unfolding answer inserting entry_refusals lent_list list_faults lines_faults units decide
nineteen_says t T a h =
    let z : is_zero t ≡ false = ne_eqb t 0 (λ e. omega arith) in
    decide_behind (lent_both T) _ 0 _ (done_parts (lent_both T) (list_faults (part_count T) []) 0 0 0 a).0 ∙ rw z refl

pub nineteen_exactly : NineteenExactly
nineteen_exactly l t v T = (
  nineteen_only l t v T,
  λ h. ap (λ (x : List ℕ). answer (inserting x t T)) h.2 ∙ nineteen_says t T (subst (Asked T) h.2 h.0) h.1 ∙ ap (refused 19) (sym h.3),
)

------------------------------------------------------------------------
-- An empty kit that is held

module _ (T : Tables) (t : ℕ) (a : Asked T []) (m : Memᴰ (empty_kit t) (held T.nodes)) where
  abbrev N : List ℕ
  N = T.nodes

  S : Sound (part_count T) T.nodes
  S = (asked_tables T [] a).sound

  its_tag : tag_in [] (held T.nodes) ≡ t
  its_tag = tag_in_lem (empty_kit t) (held N) (held_rows_differ S.shape) m

  some_tag_lem : is_zero t ≡ false
  some_tag_lem = ne_eqb t 0 (λ e. omega (arith, held_tagged S.shape (empty_kit t) m))

  is_held : tag_in [] (held T.nodes) ≢ 0
  is_held e = omega (arith, its_tag, held_tagged S.shape (empty_kit t) m)

  tag_answered : decide (lent_list T [] ++ missing_refusals [] T.nodes) (tag_in [] (held T.nodes)) ≡ done t
  unfolding missing_refusals decide
  tag_answered = decide_behind (lent_list T []) _ 0 _ a ∙ rw its_tag (rw some_tag_lem refl)

pub empty_found : EmptyFound
unfolding answer finding units
empty_found T t a m = tag_answered T t a m

-- in listing order, all but the empty kit are those with a unit
drop_empty : (ks : List Kit) → Rising Earlier ks → drop_kit [] ks ≡ with_units ks
drop_empty ks r =
    sym (keep_all some_unit (drop_kit [] ks) (λ k m. is_some_unit k (some k.row (drop_mem [] k ks r m).1))) ∙ units_drop [] ks
    ∙ drop_none [] (with_units ks) (λ k m e. omega (arith, ((units_mem k ks).0 m).1, ap length e))
  where
    some : (r : List ℕ) → [] ≢ r → 0 < length r
    some [] f = absurd (f refl)
    some (x ∷ r) f = omega arith

module _ {parts : ℕ} {N : List ℕ} (S : Sound parts N) (n : tag_in [] (held N) ≢ 0) where
  held_struck : held (strike N []) ≡ listed N
  unfolding listed
  held_struck = held_after_delete S [] n ∙ drop_empty (held N) (held_rises S.shape)

  listed_struck : listed (strike N []) ≡ listed N
  listed_struck =
      listed_after_delete S [] n ∙ drop_none [] (listed N) (λ k m e. omega (arith, ((listed_mem N k).0 m).1, ap length e))

pub empty_struck : EmptyStruck
unfolding answer memory deleting units
empty_struck T t a m =
    let n = is_held T t a m in
    let e = tag_answered T t a m in
    let S = (asked_tables T [] a).sound in
    let M = leaves_done (answer (deleting [] T)) t T (tables T.register (strike T.nodes [])) e in (
      e,
      ap (λ (U : Tables). held U.nodes) M ∙ held_struck S n,
      ap contents M ∙ ap (has (parts_of T.register)) (listed_struck S n),
    )

pub empty_bears : EmptyBears
unfolding answer inserting entry_refusals lent_list decide
empty_bears T l t a some few fresh m =
    let S = (asked_tables T l a).sound.shape in
    let p = done_parts (lent_both T) (list_faults (part_count T) l) 0 0 0 a in
    let tag_8 : is_zero t ≡ false = ne_eqb t 0 (λ e. omega (arith, held_tagged S (empty_kit t) m)) in
    let units-7 = le-ltb most_units (length (units l)) few in
    let units_19 : is_zero (length (units l)) ≡ false = ne_eqb (length (units l)) 0 (λ e. omega arith) in
    let borne-10 = eqb_anyb t (tags_of (held T.nodes)) (mem_tags (empty_kit t) (held T.nodes) m) in
    decide_behind (lent_both T) _ 0 _ p.0 ∙ rw tag_8 (decide_behind (list_faults (part_count T) l) _ 0 _ p.1 ∙ rw (units-7, units_19, fresh, borne-10) refl)

------------------------------------------------------------------------
-- Counts, and tables from before

pub empty_list_counts : EmptyListCounts
unfolding units
empty_list_counts T a = (count_says [] T a ∙ ap done (count_all (listed T.nodes)), root_lists (asked_tables T [] a).sound)

pub has_what_was_left : HasWhatWasLeft
has_what_was_left T cs a words typed =
    has_contents (calls_keep cs T (contents T) (mem_every cs typed) (has_its_own T (asked_tables T [] a) words))
