-- Kits with at least one unit: those of a list, and those that a table lists, which are all that end below the root.
use mathlib.Core.Path.{◌≡◌, refl, sym, ap, ◌∙◌}
use mathlib.Core.Logic.{◌↔◌}
use mathlib.Core.Bool.{Bool, true, false, cond, not}
use mathlib.Core.List.Memᴰ
use mathlib.Core.List.{List, [], ◌∷◌, map, Memᴰ}
use Prim.Native.Nat.{ℕ, ◌+◌, ◌<◌}
use native.Mathlib.Omega.{arith}
use lib.ListN.{length}
use lib.Dec.{eqb}
use mir.Val.{bool_byte}
use borrow.Author.Tests.{lt-ltb, ltb-true, le-ltb}
use Rattle.ground.specs.Lists.{keep, eq_list, put_by}
use Rattle.ground.proofs.Laws.{eq_list_true}
use Rattle.kits.specs.Kits.{before, begins}
use Rattle.kits.specs.Inner.{GoodRow}
use Rattle.nodes.specs.Nodes.{child, tag, tally, tagged}
use Rattle.nodes.specs.Inner.{Shape, Sound, walk, walk_all}
use Rattle.nodes.specs.Held.{Kit, comes_before, put_kit, drop_kit, kit_at, held, listed, some_unit, with_units}
use Rattle.nodes.specs.Held.{begins_with, count_beginning, beginnings, add_new, all_beginnings}
use Rattle.nodes.proofs.Lists.{never}
use Rattle.nodes.proofs.Sorted.{Rising, ahead, every_mem, keep_all, keep_twice, keep_mem, mem_keep, rising_keep}
use Rattle.nodes.proofs.Rows.{climb, row_root, row_length}
use Rattle.nodes.proofs.Order.{walk_only_used}
use Rattle.nodes.proofs.Listing.{Earlier, drop_none}
use Rattle.nodes.proofs.Held.{held_rises, held_is_walk, held_good, held_tagged}
use Rattle.nodes.proofs.Tallies.{one_if, one_byte, root_counts}

------------------------------------------------------------------------
-- One kit

pub some_unit_is : (k : Kit) → some_unit k ≡ true → 0 < length k.row
unfolding some_unit
some_unit_is k e = ltb-true 0 (length k.row) e

pub is_some_unit : (k : Kit) → 0 < length k.row → some_unit k ≡ true
unfolding some_unit
is_some_unit k h = lt-ltb 0 (length k.row) h

pub no_unit : (k : Kit) → length k.row ≡ 0 → some_unit k ≡ false
unfolding some_unit
no_unit k h = le-ltb 0 (length k.row) (omega (arith, h))

-- what comes behind a row has a unit, and nothing comes before the empty row
pub behind_some_unit : (r : List ℕ) (k : Kit) → before r k.row ≡ true → some_unit k ≡ true
unfolding before
behind_some_unit r k e = is_some_unit k (go r k.row e)
  where
    go : (r s : List ℕ) → before r s ≡ true → 0 < length s
    go [] [] e = absurd (never (sym e))
    go (x ∷ r) [] e = absurd (never (sym e))
    go [] (y ∷ s) e = omega arith
    go (x ∷ r) (y ∷ s) e = omega arith

------------------------------------------------------------------------
-- Of a list

-- one step of it
pub units_yes : (k : Kit) (ks : List Kit) → some_unit k ≡ true → with_units (k ∷ ks) ≡ k ∷ with_units ks
unfolding keep
units_yes k ks e = rw e refl

pub units_no : (k : Kit) (ks : List Kit) → some_unit k ≡ false → with_units (k ∷ ks) ≡ with_units ks
unfolding keep
units_no k ks e = rw e refl

-- a member has a unit
pub units_mem : (k : Kit) (ks : List Kit) → Memᴰ k (with_units ks) ↔ (Memᴰ k ks × (0 < length k.row))
units_mem k ks = (
  λ m. let o = keep_mem some_unit k ks m in (o.0, some_unit_is k o.1),
  λ o. mem_keep some_unit k ks (is_some_unit k o.1) o.0,
)

-- in listing order only the first can be without one
pub units_behind : {k : Kit} {ks : List Kit} → Rising Earlier (k ∷ ks) → with_units ks ≡ ks
units_behind {k} {ks} (ahead e s) = keep_all some_unit ks (λ x m. behind_some_unit k.row x (every_mem e m))

-- a kit with a unit put in its place
pub units_put : (k : Kit) (ks : List Kit) → some_unit k ≡ true → with_units (put_kit k ks) ≡ put_kit k (with_units ks)
unfolding put_by keep
units_put k [] u = units_yes k [] u
units_put k (x ∷ xs) u = go (comes_before k x) (some_unit x) refl refl (units_put k xs u)
  where
    go : (b c : Bool) → comes_before k x ≡ b → some_unit x ≡ c → with_units (put_kit k xs) ≡ put_kit k (with_units xs) →
        with_units (cond b (k ∷ x ∷ xs) (x ∷ put_kit k xs)) ≡ put_kit k (with_units (x ∷ xs))
    go true true p q h = units_yes k (x ∷ xs) u ∙ ap (◌∷◌ k) (units_yes x xs q) ∙ sym (ap (put_kit k) (units_yes x xs q) ∙ rw p refl)
    go false true p q h = units_yes x (put_kit k xs) q ∙ ap (◌∷◌ x) h ∙ sym (ap (put_kit k) (units_yes x xs q) ∙ rw p refl)
    go false false p q h = units_no x (put_kit k xs) q ∙ h ∙ ap (put_kit k) (sym (units_no x xs q))
    go true false p q h = absurd (never (sym (behind_some_unit k.row x p) ∙ q))

-- a kit taken out
pub units_drop : (r : List ℕ) (ks : List Kit) → with_units (drop_kit r ks) ≡ drop_kit r (with_units ks)
unfolding drop_kit keep
units_drop r [] = refl
units_drop r (x ∷ xs) = go (eq_list r x.row) (some_unit x) refl refl (units_drop r xs)
  where
    go : (b c : Bool) → eq_list r x.row ≡ b → some_unit x ≡ c → with_units (drop_kit r xs) ≡ drop_kit r (with_units xs) →
        with_units (cond b xs (x ∷ drop_kit r xs)) ≡ drop_kit r (with_units (x ∷ xs))
    go true true p q h = rw (units_yes x xs q) (rw p refl)
    go false true p q h = rw (units_yes x xs q) (rw p (units_yes x (drop_kit r xs) q ∙ ap (◌∷◌ x) h))
    go false false p q h = units_no x (drop_kit r xs) q ∙ h ∙ ap (drop_kit r) (sym (units_no x xs q))
    go true false p q h = rw (units_no x xs q) (sym (drop_none r (with_units xs) (λ k m e.
        absurd (never (sym (is_some_unit x (omega (arith, ((units_mem k xs).0 m).1, ap length e, ap length (eq_list_true r x.row p)))) ∙ q)))))

-- an empty kit has no nonempty beginning
pub units_beginnings : (ks : List Kit) → all_beginnings (with_units ks) ≡ all_beginnings ks
unfolding all_beginnings beginnings add_new keep
units_beginnings [] = refl
units_beginnings (k ∷ ks) = go k.row refl (units_beginnings ks)
  where
    go : (r : List ℕ) → k.row ≡ r → all_beginnings (with_units ks) ≡ all_beginnings ks →
        all_beginnings (with_units (k ∷ ks)) ≡ add_new (beginnings k.row) (all_beginnings ks)
    go [] e h = rw (units_no k ks (no_unit k (ap length e))) (rw e h)
    go (x ∷ r) e h = rw (units_yes k ks (is_some_unit k (rw e (omega arith)))) (ap (add_new (beginnings k.row)) h)

-- what begins with a unit has one
pub units_count : (r : List ℕ) (ks : List Kit) → 0 < length r → count_beginning r (with_units ks) ≡ count_beginning r ks
unfolding count_beginning begins_with begins
units_count r ks h = ap length (keep_twice (begins_with r) some_unit (λ k e. is_some_unit k (go r k.row h e)) ks)
  where
    go : (r s : List ℕ) → 0 < length r → begins r s ≡ true → 0 < length s
    go [] s h e = absurd (omega arith)
    go (x ∷ r) [] h e = absurd (never (sym e))
    go (x ∷ r) (y ∷ s) h e = omega arith

------------------------------------------------------------------------
-- Of a table

-- where none is empty, all that is held is listed
pub listed_mem : (N : List ℕ) (k : Kit) → Memᴰ k (listed N) ↔ (Memᴰ k (held N) × (0 < length k.row))
unfolding listed
listed_mem N k = units_mem k (held N)

module _ {parts : ℕ} {N : List ℕ} (S : Shape parts N) where
  -- all that ends below the root
  abbrev below_root : List Kit
  below_root = map (kit_at N) (keep (tagged N) (walk N (child N 0)))

  root_empty : some_unit (kit_at N 0) ≡ false
  unfolding kit_at
  root_empty = no_unit (kit_at N 0) (ap length (row_root (climb S)))

  below_units : with_units below_root ≡ below_root
  unfolding kit_at
  below_units = keep_all some_unit below_root (λ k m.
      let j = Memᴰ.of_map (kit_at N) (keep (tagged N) (walk N (child N 0))) m in
      let u = walk_only_used S j.0 (keep_mem (tagged N) j.0 (walk N (child N 0)) j.1).0 in
      is_some_unit k (omega (arith, ap (λ (p : Kit). length p.row) j.2, row_length (climb S) j.0 (λ _. u), (S.good j.0 u).deeper)))

  -- what is held is the root's own kit, where it has a tag, and what is below it
  pub held_from_root : held N ≡ cond (tagged N 0) (kit_at N 0 ∷ below_root) below_root
  unfolding walk_all keep
  held_from_root = held_is_walk S ∙ go (tagged N 0)
    where
      go : (b : Bool) → map (kit_at N) (cond b (0 ∷ keep (tagged N) (walk N (child N 0))) (keep (tagged N) (walk N (child N 0)))) ≡
          cond b (kit_at N 0 ∷ below_root) below_root
      go true = refl
      go false = refl

  -- the list is the walk's from the root's first child on
  pub listed_is_walk : listed N ≡ map (kit_at N) (keep (tagged N) (walk N (child N 0)))
  unfolding listed
  listed_is_walk = ap with_units held_from_root ∙ go (tagged N 0)
    where
      go : (b : Bool) → with_units (cond b (kit_at N 0 ∷ below_root) below_root) ≡ below_root
      go true = units_no (kit_at N 0) below_root root_empty ∙ below_units
      go false = below_units

  -- one more is held than is listed where the root has a tag
  pub held_and_listed : one_if (tagged N 0) + length (listed N) ≡ length (held N)
  held_and_listed = rw listed_is_walk (rw held_from_root (go (tagged N 0)))
    where
      go : (b : Bool) → one_if b + length below_root ≡ length (cond b (kit_at N 0 ∷ below_root) below_root)
      go true = omega arith
      go false = omega arith

  pub listed_rises : Rising Earlier (listed N)
  unfolding listed
  listed_rises = rising_keep some_unit (held N) (held_rises S)

  pub listed_good : (k : Kit) → Memᴰ k (listed N) → GoodRow parts k.row
  listed_good k m = held_good S k ((listed_mem N k).0 m).0

  pub listed_tagged : (k : Kit) → Memᴰ k (listed N) → 0 < k.tag
  listed_tagged k m = held_tagged S k ((listed_mem N k).0 m).0

-- the root's number less one where it has a tag is that of all kits listed
pub root_lists : {parts : ℕ} {N : List ℕ} → Sound parts N → one_if (tagged N 0) + length (listed N) ≡ tally N 0
root_lists So = held_and_listed So.shape ∙ sym (root_counts So)

-- the same as code reads it
pub own_and_listed : {parts : ℕ} {N : List ℕ} → Sound parts N → {t w : ℕ} → t ≡ tag N 0 → w ≡ tally N 0 →
    bool_byte (not (eqb t 0)) + length (listed N) ≡ w
unfolding tagged
own_and_listed {N = N} So e f = rw (e, f) (ap (λ (own : ℕ). own + length (listed N)) (one_byte (tagged N 0)) ∙ root_lists So)
