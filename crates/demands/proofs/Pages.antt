-- Request 4, one step: which kit is shown and where the bookmark is left, of any tables and from any list of calls; and when a bookmark is at fault.
use mathlib.Core.Path.{◌≡◌, refl, sym, ap, subst, ◌∙◌}
use mathlib.Core.Logic.{inl, inr, ⊎_elim}
use mathlib.Core.Bool.{Bool, true, false, not, false≢true}
use mathlib.Core.List.Memᴰ
use mathlib.Core.List.{List, [], ◌∷◌, ◌++◌, append_assoc, Memᴰ}
use Prim.Native.Nat.{ℕ, ◌-◌, ◌+◌, ◌≤◌, ◌<◌}
use native.Mathlib.Omega.{arith}
use lib.ListN.{length, get_or, replicate}
use lib.Seq.{get_or-append-add}
use borrow.Author.Tests.{not-false}
use Rattle.ground.specs.Lists.{anyb, keep}
use Rattle.ground.specs.Calls.{Plan, answer, decide, done, given, is_refused, leaves, memory, plan, refused, value_of}
use Rattle.ground.specs.Tables.{Tables}
use Rattle.ground.proofs.Laws.{get_d_zeros, below_or}
use Rattle.ground.proofs.Calls.{decide_behind, done_passes, leaves_done}
use Rattle.kits.specs.Kits.{before, fixed_row, most_units, units_in}
use Rattle.kits.specs.Inner.{GoodRow}
use Rattle.kits.proofs.Rows.{row_back}
use Rattle.nodes.specs.Held.{Kit, first_tag, listed}
use Rattle.nodes.proofs.Sorted.{Every, Rising, also, ahead, every_mem, keep_all, keep_mem, mem_keep, rising_keep}
use Rattle.nodes.proofs.Listing.{Earlier}
use Rattle.nodes.proofs.Units.{listed_good, listed_mem, listed_tagged}
use Rattle.questions.specs.Questions.{fitting}
use Rattle.questions.proofs.Meaning.{fitting_exactly, fitting_sorted}
use Rattle.pages.specs.Pages.{comes_after, following, good_bookmark, moved_on, row_shown, turn_page}
use Rattle.pages.specs.declared.Bookmark.{Bookmark}
use Rattle.pages.proofs.Bookmarks.{good_units_is, mark_not_begun, mark_long, mark_units}
use Rattle.sheet.specs.Sheet.{Contents}
use Rattle.tables.specs.Lent.{lengths, lent_both, lent_list, part_count}
use Rattle.catalogue.specs.Calls.{Question, turning}
use Rattle.catalogue.proofs.Kept.{done_parts}
use Rattle.demands.specs.Demand2.{Asked}
use Rattle.demands.specs.Model.{page_of}
use Rattle.demands.specs.Pages.{FollowingExactly, FollowingInOrder, PageSays, NextKit, BookmarkMoves, BehindZeros, NoneLeft, BookmarkStays}
use Rattle.demands.specs.Pages.{PageAnswers, FaultlessRow, BookmarkGoodExactly, FifteenExactly, FromTheStart, TurnedAlike, NotBegunIgnored}
use Rattle.demands.specs.Pages.{BehindIgnored}
use Rattle.demands.proofs.Questions.{asked_tables, in_order}
use Rattle.demands.proofs.Brought.{Brought, brought}
use Rattle.demands.proofs.Answers.{behind_tables, no_first, the_fitting}
use Rattle.demands.proofs.LaidDown.{NumberIn, list_in_lem}
use Rattle.demands.proofs.NoKit.{pass_all}

------------------------------------------------------------------------
-- The kits behind a bookmark

pub following_exactly : FollowingExactly
unfolding following comes_after
following_exactly question l b N k =
    (keep_mem (comes_after (row_shown b)) k (fitting question l N), λ h. mem_keep (comes_after (row_shown b)) k (fitting question l N) h.1 h.0)

-- the bookmark that a kit's row leaves
abbrev pub mark_at : List ℕ → Bookmark
mark_at r = record { begun = true; row = fixed_row r }

pub shown_at : (r : List ℕ) → row_shown (mark_at r) ≡ r
unfolding row_shown
shown_at r = row_back r

-- every kit with a unit comes after the empty row
after_nothing : (r : List ℕ) → 0 < length r → before [] r ≡ true
unfolding before
after_nothing [] h = absurd (omega arith)
after_nothing (x ∷ r) h = refl

not_begun_row : (b : Bookmark) → b.begun ≡ false → row_shown b ≡ []
unfolding row_shown
not_begun_row b e = rw e

pub from_the_start : FromTheStart
unfolding following comes_after
from_the_start question l b N e =
    keep_all (comes_after (row_shown b)) (fitting question l N) (λ k m.
    ap (λ (r : List ℕ). before r k.row) (not_begun_row b e)
    ∙ after_nothing k.row ((listed_mem N k).0 ((fitting_exactly question l N k).0 m).0).1)

------------------------------------------------------------------------
-- One step

module _ (question : Question) (l : List ℕ) (T : Tables) (b : Bookmark) where
  abbrev behind_mark : List Kit
  behind_mark = following question l b T.nodes

  turned : Asked T l → good_bookmark (part_count T) b ≡ true → answer (turning question l T b) ≡ done (first_tag behind_mark)
  unfolding answer turning turn_page decide
  turned a g = decide_behind (lent_list T l) _ 0 _ a ∙ rw g refl

  -- a step that is done was not refused for tables, list or bookmark
  pub asked_step : (v : ℕ) → answer (turning question l T b) ≡ done v → Asked T l × (good_bookmark (part_count T) b ≡ true)
  unfolding answer turning turn_page
  asked_step v e = let p = done_parts (lent_list T l) _ 0 _ v e in (p.0, not-false _ (done_passes _ _ _ _ p.1).0)

  step_leaves : (v : ℕ) → answer (turning question l T b) ≡ done v → memory (turning question l T b) b ≡ moved_on b behind_mark
  unfolding memory turning turn_page
  step_leaves v e = leaves_done _ v b (moved_on b behind_mark) e

  pub step_value : (v : ℕ) → answer (turning question l T b) ≡ done v → first_tag behind_mark ≡ v
  step_value v e = let p = asked_step v e in ap value_of (sym (turned p.0 p.1) ∙ e)

  module _ (a : Asked T l) where
    pub following_rises : Rising Earlier behind_mark
    unfolding following
    following_rises = rising_keep (comes_after (row_shown b)) _ (fitting_sorted question l T.nodes (asked_tables T l a).sound.shape)

    listed_next : (k : Kit) → Memᴰ k behind_mark → Memᴰ k (listed T.nodes)
    listed_next k m = ((fitting_exactly question l T.nodes k).0 ((following_exactly question l b T.nodes k).0 m).0).0

    pub tagged_next : (k : Kit) → Memᴰ k behind_mark → 0 < k.tag
    tagged_next k m = listed_tagged (asked_tables T l a).sound.shape k (listed_next k m)

    pub good_next : (k : Kit) → Memᴰ k behind_mark → GoodRow (part_count T) k.row
    good_next k m = listed_good (asked_tables T l a).sound.shape k (listed_next k m)

pub following_in_order : FollowingInOrder
following_in_order question l b T a = in_order (following_rises question l T b a)

pub page_says : PageSays
page_says question l T b a g = let e = turned question l T b a g in (e, step_leaves question l T b _ e)

-- what stands at the front of the kits behind a bookmark is the next kit
next_kit : (question : Question) (l : List ℕ) (T : Tables) (b : Bookmark) (k : Kit) (ks : List Kit) → Asked T l →
    following question l b T.nodes ≡ k ∷ ks → NextKit question l b T.nodes k
next_kit question l T b k ks a e = go (subst (Rising Earlier) e (following_rises question l T b a))
  where
    there : (j : Kit) → Memᴰ j (k ∷ ks) → Memᴰ j (fitting question l T.nodes) × (before (row_shown b) j.row ≡ true)
    there j m = (following_exactly question l b T.nodes j).0 (subst (Memᴰ j) (sym e) m)

    go : Rising Earlier (k ∷ ks) → NextKit question l b T.nodes k
    go (ahead h s) = record {
      answers = (there k (Memᴰ.head refl)).0;
      after = (there k (Memᴰ.head refl)).1;
      first = λ j m after. ⊎_elim (λ q. inl q) (λ i. inr (every_mem h i))
          (Memᴰ.cases_cons (subst (Memᴰ j) e ((following_exactly question l b T.nodes j).1 (m, after))));
    }

pub moved_to : (b : Bookmark) (k : Kit) (ks : List Kit) → moved_on b (k ∷ ks) ≡ mark_at k.row
unfolding moved_on
moved_to b k ks = refl

pub first_is : (k : Kit) (ks : List Kit) → first_tag (k ∷ ks) ≡ k.tag
unfolding first_tag
first_is k ks = refl

pub no_tag_first : first_tag [] ≡ 0
unfolding first_tag
no_tag_first = refl

pub bookmark_moves : BookmarkMoves
bookmark_moves question l T b t e h = go (following question l b T.nodes) refl
  where
    go : (ks : List Kit) → following question l b T.nodes ≡ ks →
        (k : Kit) × NextKit question l b T.nodes k × (k.tag ≡ t) × (memory (turning question l T b) b ≡ mark_at k.row)
    go [] f = absurd (omega (arith, step_value question l T b t e, ap first_tag f, no_tag_first))
    go (k ∷ ks) f = (
      k,
      next_kit question l T b k ks (asked_step question l T b t e).0 f,
      sym (first_is k ks) ∙ sym (ap first_tag f) ∙ step_value question l T b t e,
      step_leaves question l T b t e ∙ ap (moved_on b) f ∙ moved_to b k ks,
    )

fixed_behind : (r : List ℕ) (i : ℕ) → length r ≤ i → get_or (fixed_row r).places i 0 ≡ 0
fixed_behind r i h =
    let z = replicate {A = ℕ} (most_units - length r) 0 in
    let s : i ≡ length r + (i - length r) = omega arith in
    ap (λ j. get_or (r ++ z) j 0) s ∙ get_or-append-add r z (i - length r) 0 ∙ get_d_zeros (most_units - length r) (i - length r)

pub behind_zeros : BehindZeros
behind_zeros question l T b t i e h =
    let m = bookmark_moves question l T b t e h in
    subst (λ (c : Bookmark). c.row.len ≤ i → get_or c.row.places i 0 ≡ 0) (sym m.3) (fixed_behind m.0.row i)

nobody : (ks : List Kit) → ((k : Kit) → Memᴰ k ks → ⊥) → ks ≡ []
nobody [] f = refl
nobody (k ∷ ks) f = absurd (f k (Memᴰ.head refl))

pub none_left : NoneLeft
none_left question l T b a g =
    let F = following question l b T.nodes in
    let x = no_first F (tagged_next question l T b a) in
    let e = turned question l T b a g in (
      λ d k m h.
          Memᴰ.not-nil (subst (Memᴰ k) (x.0 (step_value question l T b 0 d)) ((following_exactly question l b T.nodes k).1 (m, h))),
      λ f. e ∙ ap done (x.1 (nobody F (λ k m. let h = (following_exactly question l b T.nodes k).0 m in f k h.0 h.1))),
    )

pub stayed : (b : Bookmark) → moved_on b [] ≡ b
unfolding moved_on
stayed b = refl

pub bookmark_stays : BookmarkStays
bookmark_stays question l T b e =
    let x = no_first (following question l b T.nodes) (tagged_next question l T b (asked_step question l T b 0 e).0) in
    step_leaves question l T b 0 e ∙ ap (moved_on b) (x.0 (step_value question l T b 0 e)) ∙ stayed b

------------------------------------------------------------------------
-- From any list of calls

module _ {T : Tables} {m : Contents} (b : Brought T m) (question : Question) (l : List ℕ) (k : Bookmark) where
  -- its plan is that of what the catalogue has, behind the refusals of the tables
  behind_page : turning question l T k ≡ plan (lent_both T ++ (page_of question l m k).cases) (page_of question l m k).value (page_of question l m k).after
  unfolding turning turn_page following lent_list
  behind_page =
      let f = the_fitting b question l in
      let g = b.parts in
      rw (f, g, append_assoc)

  pub page_answer : answer (turning question l T k) ≡ answer (page_of question l m k)
  unfolding answer
  page_answer = ap answer behind_page ∙ behind_tables b (page_of question l m k).cases (page_of question l m k).value

  page_memory : memory (turning question l T k) k ≡ memory (page_of question l m k) k
  unfolding memory
  page_memory = rw page_answer (ap (λ (p : Plan Bookmark). leaves (answer (page_of question l m k)) k p.after) behind_page)

pub page_answers : PageAnswers
page_answers a question l b h = (page_answer (brought a h) question l b, page_memory (brought a h) question l b)

------------------------------------------------------------------------
-- The bookmark

module _ (parts : ℕ) (b : Bookmark) (begun : b.begun ≡ true) where
  good_not_longer : good_bookmark parts b ≡ true → b.row.len ≤ most_units
  good_not_longer g = ⊎_elim
      (λ (h : most_units < b.row.len). absurd (false≢true (mark_long parts b begun h ∙ g)))
      (λ (h : b.row.len ≤ most_units). h)
      (below_or most_units b.row.len)

  good_faultless : good_bookmark parts b ≡ true → FaultlessRow parts b.row
  good_faultless g =
      let h = good_not_longer g in
      let u = (good_units_is parts (units_in b.row)).0 (mark_units parts b begun h refl ∙ g) in
      record { not_longer = h; never_falls_lem = u.0; none_zero = u.1; none_beyond = u.2; few_equal_lem = u.3 }

  faultless_good : FaultlessRow parts b.row → good_bookmark parts b ≡ true
  faultless_good f =
      let u = (good_units_is parts (units_in b.row)).1 (f.never_falls_lem, f.none_zero, f.none_beyond, f.few_equal_lem) in
      sym (mark_units parts b begun f.not_longer (sym u))

pub bookmark_good_exactly : BookmarkGoodExactly
bookmark_good_exactly parts b = (λ g e. good_faultless parts b e g, λ f. go b.begun refl f)
  where
    go : (x : Bool) → b.begun ≡ x → (b.begun ≡ true → FaultlessRow parts b.row) → good_bookmark parts b ≡ true
    go true e f = faultless_good parts b e (f e)
    go false e f = sym (mark_not_begun parts b e)

list_numbers : (T : Tables) (l : List ℕ) → Every (NumberIn (1 ∷ 2 ∷ 4 ∷ 5 ∷ 6 ∷ [])) (lent_list T l)
unfolding anyb lengths lent_both lent_list
list_numbers T l = also refl (also refl (also refl (also refl (list_in_lem (1 ∷ 2 ∷ 4 ∷ 5 ∷ 6 ∷ []) refl refl refl (part_count T) l))))

last_says : (good : Bool) (w v : ℕ) → decide (given (not good) 15 0 ∷ []) w ≡ refused 15 v → (good ≡ false) × (v ≡ 0)
unfolding decide
last_says true w v e = absurd (false≢true (ap is_refused e))
last_says false w v e = (refl, sym (ap value_of e))

says_last : (good : Bool) (w : ℕ) → good ≡ false → decide (given (not good) 15 0 ∷ []) w ≡ refused 15 0
unfolding decide
says_last good w e = rw e

pub fifteen_exactly : FifteenExactly
unfolding answer turning turn_page anyb
fifteen_exactly question l T b v = (
  λ e.
      let p = pass_all (1 ∷ 2 ∷ 4 ∷ 5 ∷ 6 ∷ []) (lent_list T l) _ _ 15 v (list_numbers T l) refl e in
      let q = last_says (good_bookmark (part_count T) b) _ v p.1 in
      (p.0, q.0, q.1),
  λ h. decide_behind (lent_list T l) _ 0 _ h.0 ∙ says_last (good_bookmark (part_count T) b) _ h.1 ∙ ap (refused 15) (sym h.2),
)

-- two bookmarks that have shown the same, and are both good or both not
module _ (question : Question) (l : List ℕ) (T : Tables) (b c : Bookmark) (same : row_shown b ≡ row_shown c)
    (alike : good_bookmark (part_count T) b ≡ good_bookmark (part_count T) c) where
  same_next : following question l b T.nodes ≡ following question l c T.nodes
  unfolding following
  same_next = ap (λ (r : List ℕ). keep (comes_after r) (fitting question l T.nodes)) same

  same_answer : answer (turning question l T b) ≡ answer (turning question l T c)
  unfolding answer turning turn_page
  same_answer = rw (alike, same_next)

  same_moved : (ks : List Kit) → 0 < first_tag ks → moved_on b ks ≡ moved_on c ks
  unfolding first_tag moved_on
  same_moved [] h = absurd (omega arith)
  same_moved (k ∷ ks) h = refl

  turned_alike : TurnedAlike question l T b c
  turned_alike = (
    same_answer,
    λ t e h.
        let v : 0 < first_tag (following question l c T.nodes) = omega (arith, step_value question l T c t (sym same_answer ∙ e)) in
        step_leaves question l T b t e ∙ ap (moved_on b) same_next ∙ same_moved (following question l c T.nodes) v
        ∙ sym (step_leaves question l T c t (sym same_answer ∙ e)),
  )

pub not_begun_ignored : NotBegunIgnored
not_begun_ignored question l T b c e f =
    turned_alike question l T b c (not_begun_row b e ∙ sym (not_begun_row c f))
    (sym (mark_not_begun (part_count T) b e) ∙ mark_not_begun (part_count T) c f)

pub behind_ignored : BehindIgnored
unfolding row_shown good_bookmark
behind_ignored question l T b c e n u = turned_alike question l T b c (rw (e, u)) (rw (e, u, n))
