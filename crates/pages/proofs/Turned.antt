-- From the node found to the page: what a step answers, and where it leaves the bookmark.
use mathlib.Core.Path.{◌≡◌, refl, sym, ap, ◌∙◌}
use mathlib.Core.Bool.{Bool, true, false, cond, ◌&&◌}
use mathlib.Core.List.{List, [], ◌∷◌, map, Memᴰ}
use Prim.Native.Nat.{ℕ, zero, suc}
use native.Mathlib.Omega.{arith}
use lib.ListN.{take, get_or}
use Rattle.ground.specs.Lists.{keep}
use Rattle.ground.specs.Calls.{Promise, plan, answer, decide}
use Rattle.ground.proofs.Laws.{and_left}
use Rattle.ground.proofs.Calls.{promise_done}
use Rattle.answers.specs.Answers.{reply}
use Rattle.std.specs.Prelude.{Ok}
use Rattle.kits.specs.Kits.{most_place, good_list, units, fixed_row}
use Rattle.kits.specs.Inner.{quantities}
use Rattle.kits.specs.declared.Row.{Row}
use Rattle.nodes.specs.Nodes.{child, tag, row_of}
use Rattle.nodes.specs.Inner.{Live, Shape}
use Rattle.nodes.specs.Held.{Kit, first_tag, kit_at, listed}
use Rattle.nodes.proofs.Rows.{climb, used_pos}
use Rattle.nodes.proofs.Sorted.{Every, none, also, every_map, keep_same, keep_twice, keep_mem}
use Rattle.nodes.proofs.Walk.{root_child}
use Rattle.questions.specs.Questions.{is_within, is_containing, fitting}
use Rattle.questions.specs.Inner.{fits, covers, found_in}
use Rattle.questions.specs.Tests.{within_tests, containing_tests}
use Rattle.questions.proofs.Found.{found_used, first_live, kits_found}
use Rattle.pages.specs.declared.Bookmark.{Bookmark}
use Rattle.pages.specs.declared.Page.{Page}
use Rattle.pages.specs.Pages.{row_shown, comes_after, following, moved_on, turn_page}
use Rattle.pages.specs.Inner.{len_shown, page_at, passes_after, first_after}

-- The page at a node, and at none
module _ (N : List ℕ) (b : Bookmark) where
  pub page_none : {i : ℕ} → i ≡ 0 → record { answer = Ok 0; mark = b } ≡ page_at N b i
  unfolding page_at
  page_none e = rw e

  pub page_found : (i : ℕ) {v : ℕ} {row : Row} → (i ≡ 0 → ⊥) → row ≡ fixed_row (row_of N i) → v ≡ tag N i →
      record { answer = Ok v; mark = record { begun = true; row = row } } ≡ page_at N b i
  unfolding page_at
  page_found zero n e f = absurd (n refl)
  page_found (suc i) n e f = rw (e, f)

  -- of the first of some nodes, it is what a step over their kits promises
  abbrev PageOf : List ℕ → ℕ → Type 0
  PageOf ns i =
      Promise (plan [] (first_tag (map (kit_at N) ns)) (moved_on b (map (kit_at N) ns))) b (reply (page_at N b i).answer) (page_at N b i).mark

  one_page : (i : ℕ) (ns : List ℕ) → (i ≡ 0 → ⊥) → PageOf (i ∷ ns) i
  unfolding page_at first_tag moved_on kit_at answer decide
  one_page zero ns n = absurd (n refl)
  one_page (suc i) ns n = promise_done _ b (tag N (suc i)) _ refl refl

  first_page : {ns : List ℕ} → Every (λ (i : ℕ). i ≡ 0 → ⊥) ns → PageOf ns (get_or ns 0 0)
  unfolding page_at first_tag moved_on answer decide
  first_page none = promise_done _ b 0 b refl refl
  first_page (also {x = i} {xs = ns} n e) = one_page i ns n

-- Kits that pass two tests
keep_both : {A : Type 0} (p q : A → Bool) (xs : List A) → keep p (keep q xs) ≡ keep (λ (x : A). q x && p x) xs
keep_both {A} p q xs =
    keep_same p (λ (x : A). q x && p x) (keep q xs) (λ x m. ap (λ b. b && p x) (sym (keep_mem q x xs m).1))
    ∙ keep_twice (λ (x : A). q x && p x) q (λ x e. and_left (q x) (p x) e) xs

module _ {parts : ℕ} {N : List ℕ} (S : Shape parts N) (b : Bookmark) (l : List ℕ) (question : List ℕ → Kit → Bool) (test : List ℕ → Bool)
    (f : ((k : Kit) → Memᴰ k (listed N) → question (units l) k ≡ test k.row)) where
  -- the kits that follow are those at the nodes found
  following_found : following question l b N ≡ map (kit_at N) (found_in (passes_after (row_shown b) test) N)
  unfolding following fitting comes_after passes_after
  following_found =
      keep_both (comes_after (row_shown b)) (question (units l)) (listed N)
      ∙ kits_found S (passes_after (row_shown b) test) (λ (k : Kit). question (units l) k && comes_after (row_shown b) k)
      (λ k m. ap (λ t. t && comes_after (row_shown b) k) (f k m))

  pub page_turned : {r : ℕ} {p : Page} → r ≡ first_after (row_shown b) test N (child N 0) → p ≡ page_at N b r →
      Promise (turn_page [] question l N b) b (reply p.answer) p.mark
  unfolding turn_page
  page_turned e g =
      rw (g, e, following_found) (first_page N b (every_map (λ i u z. omega (arith, used_pos (climb S) i u, z))
      (found_used S (passes_after (row_shown b) test) (root_child S))))

-- a node that the walk found may be read
pub found_live : {parts : ℕ} {N : List ℕ} → Shape parts N → (r : List ℕ) (test : List ℕ → Bool) {i : ℕ} →
    i ≡ first_after r test N (child N 0) → Live N i
found_live S r test e = rw e (first_live S (passes_after r test) (root_child S))

-- the row that a bookmark's length counts is the row shown
row_shown_lem : (b : Bookmark) {n : ℕ} → n ≡ len_shown b → take n b.row.places ≡ row_shown b
unfolding len_shown row_shown
row_shown_lem b e = rw e (go b.begun)
  where
    go : (t : Bool) → take (cond t b.row.len 0) b.row.places ≡ cond t (take b.row.len b.row.places) []
    go true = refl
    go false = refl

-- The next page of each question: a walk from the row's places that count finds node i, and p is the page there
module _ {N : List ℕ} (l : List ℕ) (b : Bookmark) {i n : ℕ} {p : Page} (S : Shape most_place N) (g : good_list most_place l ≡ true)
    (e : n ≡ len_shown b) (h : p ≡ page_at N b i) where
  pub turned_within : i ≡ first_after (take n b.row.places) (fits (quantities l)) N (child N 0) →
      Promise (turn_page [] is_within l N b) b (reply p.answer) p.mark
  turned_within f = page_turned S b l is_within (fits (quantities l)) (within_tests.alike N l S g) (rw (row_shown_lem b e) at f) h

  pub turned_containing : i ≡ first_after (take n b.row.places) (covers l) N (child N 0) →
      Promise (turn_page [] is_containing l N b) b (reply p.answer) p.mark
  turned_containing f = page_turned S b l is_containing (covers l) (containing_tests.alike N l S g) (rw (row_shown_lem b e) at f) h
