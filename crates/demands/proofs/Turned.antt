-- Request 4, many steps: the whole listing, and steps with calls between.
use mathlib.Core.Path.{◌≡◌, refl, sym, ap, subst, ◌∙◌}
use mathlib.Core.Logic.{◌⊎◌, inl, inr, ⊎_elim}
use mathlib.Core.Bool.{true, false≢true}
use mathlib.Core.List.{List, [], ◌∷◌, ◌++◌, map, Memᴰ}
use Prim.Native.Nat.{ℕ, zero, suc, ◌≤◌, ◌<◌}
use native.Mathlib.Omega.{arith}
use lib.ListN.{length, replicate, take}
use Rattle.ground.specs.Lists.{keep}
use Rattle.ground.specs.Calls.{Reply, answer, decide, done, is_refused, leaves, memory, refused, value_of}
use Rattle.ground.specs.Tables.{Tables}
use Rattle.kits.specs.Kits.{before, list_faults}
use Rattle.kits.specs.Inner.{GoodRow}
use Rattle.kits.proofs.Order.{before_transitive, before_irreflexive}
use Rattle.kits.proofs.Rows.{row_back}
use Rattle.nodes.specs.Held.{Kit, first_tag, tags_of}
use Rattle.nodes.proofs.Sorted.{Every, Rising, none, also, ahead, every_map, every_mem, keep_all, keep_mem, keep_twice, rising_keep}
use Rattle.nodes.proofs.Listing.{Earlier}
use Rattle.questions.specs.Questions.{fitting}
use Rattle.questions.proofs.Meaning.{fitting_sorted}
use Rattle.pages.specs.Pages.{comes_after, following, good_bookmark, good_units, moved_on, row_shown, turn_page}
use Rattle.pages.specs.declared.Bookmark.{Bookmark}
use Rattle.pages.proofs.Bookmarks.{good_row_units, mark_not_begun, mark_units}
use Rattle.sheet.specs.Sheet.{Contents}
use Rattle.tables.specs.Lent.{lent_list, part_count}
use Rattle.catalogue.specs.Calls.{Call, Question, turning}
use Rattle.demands.specs.Demand2.{Asked}
use Rattle.demands.specs.Model.{run, tables_of}
use Rattle.demands.specs.Pages.{pages_among, shown_among, tables_among, pages_from, PagesAreTheListing, PagesAreEntered, NothingTwice, NothingMissed}
use Rattle.demands.proofs.Questions.{asked_tables, in_order}
use Rattle.demands.proofs.Brought.{Brought, brought}
use Rattle.demands.proofs.Answers.{behind_tables, the_fitting}
use Rattle.demands.proofs.Pages.{following_exactly, mark_at, shown_at, from_the_start, asked_step, step_value, following_rises, tagged_next}
use Rattle.demands.proofs.Pages.{good_next, page_says, moved_to, first_is, no_tag_first, stayed}

------------------------------------------------------------------------
-- The whole listing

-- behind the first of some kits in listing order are the others
others_follow : (r : List ℕ) (ks js : List Kit) (k : Kit) → Rising Earlier ks → keep (comes_after r) ks ≡ k ∷ js → keep (comes_after k.row) ks ≡ js
unfolding comes_after keep
others_follow r ks js k s e =
    let rest = subst (Rising Earlier) e (rising_keep (comes_after r) ks s) in
    let after = (keep_mem (comes_after r) k ks (subst (Memᴰ k) (sym e) (mathlib.Core.List.Memᴰ.head refl))).1 in
    sym (keep_twice (comes_after k.row) (comes_after r) (λ x h. before_transitive r k.row x.row after h) ks)
    ∙ ap (keep (comes_after k.row)) e ∙ go rest
  where
    go : Rising Earlier (k ∷ js) → keep (comes_after k.row) (k ∷ js) ≡ js
    go (ahead h t) = rw (before_irreflexive k.row) (keep_all (comes_after k.row) js (λ x m. every_mem h m))

cons_same : {A : Type 0} {x y : A} {xs ys : List A} → x ≡ y → xs ≡ ys → x ∷ xs ≡ y ∷ ys
cons_same {A} {x} {y} {xs} {ys} e f = ap (λ (z : A). z ∷ xs) e ∙ ap (◌∷◌ y) f

mark_good : (parts : ℕ) (r : List ℕ) → GoodRow parts r → good_bookmark parts (mark_at r) ≡ true
mark_good parts r g = sym (mark_units parts (mark_at r) refl g.short (sym (ap (good_units parts) (row_back r) ∙ good_row_units parts r g)))

-- the replies from some kits on, with m zeros behind them
abbrev page_replies : ℕ → ℕ → List Kit → List Reply
page_replies n m ks = take n (map done (tags_of ks) ++ replicate m (done 0))

module _ (question : Question) (l : List ℕ) (T : Tables) (a : Asked T l) where
  behind_moved : (b : Bookmark) (k : Kit) (ks : List Kit) → following question l b T.nodes ≡ k ∷ ks →
      following question l (mark_at k.row) T.nodes ≡ ks
  unfolding following
  behind_moved b k ks f =
      ap (λ (r : List ℕ). keep (comes_after r) (fitting question l T.nodes)) (shown_at k.row)
      ∙ others_follow (row_shown b) (fitting question l T.nodes) ks k
      (fitting_sorted question l T.nodes (asked_tables T l a).sound.shape) f

  -- one page, and those behind it, which are given
  page_and_rest : (n m : ℕ) (b : Bookmark) → n ≤ m → good_bookmark (part_count T) b ≡ true →
      ((i : ℕ) (c : Bookmark) → n ≤ i → good_bookmark (part_count T) c ≡ true →
      pages_from n question l T c ≡ page_replies n i (following question l c T.nodes)) →
      pages_from (suc n) question l T b ≡ page_replies (suc n) (suc m) (following question l b T.nodes)
  unfolding pages_among run tags_of
  page_and_rest n m b h g rest = go (following question l b T.nodes) refl
    where
      says : (answer (turning question l T b) ≡ done (first_tag (following question l b T.nodes)))
          × (memory (turning question l T b) b ≡ moved_on b (following question l b T.nodes))
      says = page_says question l T b a g

      go : (ks : List Kit) → following question l b T.nodes ≡ ks →
          answer (turning question l T b) ∷ pages_from n question l T (memory (turning question l T b) b) ≡ page_replies (suc n) (suc m) ks
      go [] f = cons_same (says.0 ∙ ap done (ap first_tag f ∙ no_tag_first))
          (ap (pages_from n question l T) (says.1 ∙ ap (moved_on b) f ∙ stayed b) ∙ rest m b h g ∙ ap (page_replies n m) f)
      go (k ∷ ks) f =
          let k-in = subst (Memᴰ k) (sym f) (mathlib.Core.List.Memᴰ.head refl) in
          cons_same (says.0 ∙ ap done (ap first_tag f ∙ first_is k ks))
          (ap (pages_from n question l T) (says.1 ∙ ap (moved_on b) f ∙ moved_to b k ks)
          ∙ rest (suc m) (mark_at k.row) (omega arith) (mark_good (part_count T) k.row (good_next question l T b a k k-in))
          ∙ ap (page_replies n (suc m)) (behind_moved b k ks f))

  pages_behind : (n m : ℕ) (b : Bookmark) → n ≤ m → good_bookmark (part_count T) b ≡ true →
      pages_from n question l T b ≡ page_replies n m (following question l b T.nodes)
  unfolding pages_among
  pages_behind zero m b h g = refl
  pages_behind (suc n) zero b h g = absurd (omega arith)
  pages_behind (suc n) (suc m) b h g = page_and_rest n m b (omega arith) g (λ i c. pages_behind n i c)

pub pages_are_the_listing : PagesAreTheListing
pages_are_the_listing n question l T b a e =
    pages_behind question l T a n n b (omega arith) (sym (mark_not_begun (part_count T) b e))
    ∙ ap (page_replies n n) (from_the_start question l b T.nodes e)

asked_of : {T : Tables} {m : Contents} → Brought T m → (l : List ℕ) → decide (list_faults (length m.parts) l) 0 ≡ done 0 → Asked T l
unfolding lent_list
asked_of {T} b l e =
    behind_tables b (list_faults (part_count T) l) 0 ∙ ap (λ (ps : List (List ℕ)). decide (list_faults (length ps) l) 0) b.parts ∙ e

pub pages_are_entered : PagesAreEntered
pages_are_entered n a question l b h good e =
    pages_are_the_listing n question l (tables_of a) b (asked_of (brought a h) l good) e ∙ ap (page_replies n n) (the_fitting (brought a h) question l)

------------------------------------------------------------------------
-- With calls between

-- a kit comes after a bookmark
abbrev AfterMark : Bookmark → Kit → Type 0
AfterMark b k = before (row_shown b) k.row ≡ true

-- what a step shows, and the bookmark behind it
data Stepped (b : Bookmark) : List Kit → Bookmark → Type 0 where
  stays : Stepped b [] b
  moves : (k : Kit) → AfterMark b k → Stepped b (k ∷ []) (mark_at k.row)

stepped : (question : Question) (l : List ℕ) (T : Tables) (b : Bookmark) →
    Stepped b (leaves (answer (turning question l T b)) [] (take 1 (following question l b T.nodes))) (memory (turning question l T b) b)
unfolding memory leaves turning turn_page moved_on
stepped question l T b = go (answer (turning question l T b)) (following question l b T.nodes) refl
  where
    go : (r : Reply) (ks : List Kit) → following question l b T.nodes ≡ ks → Stepped b (leaves r [] (take 1 ks)) (leaves r b (moved_on b ks))
    go (refused n v) ks e = stays
    go (done v) [] e = stays
    go (done v) (k ∷ ks) e =
        moves k ((following_exactly question l b T.nodes k).0 (subst (Memᴰ k) (sym e) (mathlib.Core.List.Memᴰ.head refl))).1

-- kits in order behind where a step leaves the bookmark, and what it shows before them
shown_joined : {b c : Bookmark} {xs : List Kit} (ys : List Kit) → Stepped b xs c → Every (AfterMark c) ys → Rising Earlier ys →
    Every (AfterMark b) (xs ++ ys) × Rising Earlier (xs ++ ys)
shown_joined ys stays e s = (e, s)
shown_joined {b} ys (moves k h) e s =
    let later : Every (Earlier k) ys = every_map (λ j g. sym (ap (λ (r : List ℕ). before r j.row) (shown_at k.row)) ∙ g) e in
    (also h (every_map (λ j g. before_transitive (row_shown b) k.row j.row h g) later), ahead later s)

shown_in_order : (css : List (List Call)) (question : Question) (l : List ℕ) (T : Tables) (b : Bookmark) →
    Every (AfterMark b) (shown_among css question l T b) × Rising Earlier (shown_among css question l T b)
unfolding shown_among
shown_in_order [] question l T b = (none, none)
shown_in_order (cs ∷ css) question l T b =
    let U = run cs T in
    let rest = shown_in_order css question l U (memory (turning question l U b) b) in
    shown_joined _ (stepped question l U b) rest.0 rest.1

pub nothing_twice : NothingTwice
nothing_twice css question l T b = in_order (shown_in_order css question l T b).1

-- a kit that answers and comes after the bookmark: a step shows it, or leaves the bookmark before it; and is not done with 0
record Passed (r : Reply) (shown : List Kit) (c : Bookmark) (k : Kit) : Type 0 where
  some : r ≡ done 0 → ⊥
  either : Memᴰ k shown ⊎ AfterMark c k

step_passes : (question : Question) (l : List ℕ) (T : Tables) (b : Bookmark) (k : Kit) → Memᴰ k (fitting question l T.nodes) → AfterMark b k →
    Passed (answer (turning question l T b)) (leaves (answer (turning question l T b)) [] (take 1 (following question l b T.nodes)))
    (memory (turning question l T b) b) k
unfolding memory leaves turning turn_page first_tag moved_on
step_passes question l T b k m h = go (answer (turning question l T b)) refl
  where
    here : Memᴰ k (following question l b T.nodes)
    here = (following_exactly question l b T.nodes k).1 (m, h)

    front : (v : ℕ) (js : List Kit) → Rising Earlier js → Memᴰ k js → ((j : Kit) → Memᴰ j js → 0 < j.tag) → first_tag js ≡ v →
        Passed (done v) (take 1 js) (moved_on b js) k
    front v [] s i f e = absurd (mathlib.Core.List.Memᴰ.not-nil i)
    front v (j ∷ js) (ahead o s) i f e = record {
      some = λ z. absurd (omega (arith, f j (mathlib.Core.List.Memᴰ.head refl), ap value_of z, e));
      either = ⊎_elim (λ q. inl (mathlib.Core.List.Memᴰ.head q)) (λ n. inr (ap (λ (r : List ℕ). before r k.row) (shown_at j.row) ∙ every_mem o n))
          (mathlib.Core.List.Memᴰ.cases_cons i);
    }

    go : (r : Reply) → answer (turning question l T b) ≡ r →
        Passed r (leaves r [] (take 1 (following question l b T.nodes))) (leaves r b (moved_on b (following question l b T.nodes))) k
    go (refused n v) e = record { some = λ z. false≢true (sym (ap is_refused z)); either = inr h }
    go (done v) e =
        let a = (asked_step question l T b v e).0 in
        front v (following question l b T.nodes) (following_rises question l T b a) here (tagged_next question l T b a) (step_value question l T b v e)

pub nothing_missed : NothingMissed
unfolding pages_among shown_among tables_among
nothing_missed [] question l T b k h f z = absurd (mathlib.Core.List.Memᴰ.not-nil z)
nothing_missed (cs ∷ css) question l T b k h f z =
    let U = run cs T in
    let c = memory (turning question l U b) b in
    let shown = leaves (answer (turning question l U b)) [] (take 1 (following question l b U.nodes)) in
    let p = step_passes question l U b k (f U (mathlib.Core.List.Memᴰ.head refl)) h in
    let zero_later : Memᴰ (done 0) (pages_among css question l U c) = ⊎_elim
    (λ (q : done 0 ≡ answer (turning question l U b)). absurd (p.some (sym q))) (λ i. i) (mathlib.Core.List.Memᴰ.cases_cons z) in
    ⊎_elim
    (λ (i : Memᴰ k shown). mathlib.Core.List.Memᴰ.append_left (shown_among css question l U c) i)
    (λ (g : AfterMark c k). mathlib.Core.List.Memᴰ.append_right shown (nothing_missed css question l U c k g (λ W m. f W (mathlib.Core.List.Memᴰ.tail m)) zero_later))
    p.either
