-- REQUEST 4: "A step shows the first kit held at that moment that answers the question and comes after that row; its value is that kit's tag, or 0 when
-- none is left, and then the bookmark stays where it was. If catalogue and question stay the same, the pages from a bookmark not begun are the whole
-- listing, each once." That a refused step leaves the bookmark as it was, and that nothing else could meet its promise, are `RefusalKeepsOutput` and
-- `OutputPinned` of a page.
use Rattle.std.specs.Prelude.{◌≡◌, ◌↔◌, ◌⊎◌, true, false, ◌+◌, ◌<◌, ◌≤◌, ℕ, get_or, length, replicate, take}
use mathlib.Core.List.{List, Memᴰ, [], ◌++◌, ◌∷◌, map}
use Rattle.ground.specs.Calls.{Reply, answer, decide, done, leaves, memory, refused}
use Rattle.ground.specs.Tables.{Tables}
use Rattle.kits.specs.Kits.{before, count, fixed_row, list_faults, units_in}
use Rattle.kits.specs.declared.Row.{Row}
use Rattle.nodes.specs.Held.{Kit, first_tag, tags_of}
use Rattle.questions.specs.Questions.{fitting}
use Rattle.pages.specs.Pages.{following, good_bookmark, moved_on, row_shown}
use Rattle.pages.specs.declared.Bookmark.{Bookmark}
use Rattle.tables.specs.Lent.{part_count}
use Rattle.catalogue.specs.Calls.{Call, Question, turning}
use Rattle.demands.specs.Demand2.{Asked, InOrder}
use Rattle.demands.specs.Model.{Allowed, Catalogue, answering, entered, page_of, run, tables_of}

------------------------------------------------------------------------
-- One step, of any tables

-- [14.35] the kits that answer and come after the bookmark's row: just these, in listing order. Proof: Pages, `following_exactly`, `following_in_order`
abbrev pub FollowingExactly : Type 0
FollowingExactly =
    (question : Question) (l : List ℕ) (b : Bookmark) (N : List ℕ) (k : Kit) → Memᴰ k (following question l b N) ↔
    (Memᴰ k (fitting question l N) × (before (row_shown b) k.row ≡ true))

-- [14.35]
abbrev pub FollowingInOrder : Type 0
FollowingInOrder = (question : Question) (l : List ℕ) (b : Bookmark) (T : Tables) → Asked T l → InOrder (following question l b T.nodes)

-- [14.35] where tables, list and bookmark are not refused: the tag of the first of them, and the bookmark moved on to it. Proof: Pages, `page_says`
abbrev pub PageSays : Type 0
PageSays =
    (question : Question) (l : List ℕ) (T : Tables) (b : Bookmark) → Asked T l → good_bookmark (part_count T) b ≡ true →
    let ks = following question l b T.nodes in
    (answer (turning question l T b) ≡ done (first_tag ks)) × (memory (turning question l T b) b ≡ moved_on b ks)

-- the first kit that answers and comes after the bookmark's row
pub record NextKit (question : Question) (l : List ℕ) (b : Bookmark) (N : List ℕ) (k : Kit) : Type 0 where
  pub answers : Memᴰ k (fitting question l N)
  pub after : before (row_shown b) k.row ≡ true
  pub first : (j : Kit) → Memᴰ j (fitting question l N) → before (row_shown b) j.row ≡ true →
      (j ≡ k) ⊎ (before k.row j.row ≡ true)

-- [14.35] a step that is done with a tag has shown the first such kit, and the bookmark holds its row. Proof: Pages, `bookmark_moves`
abbrev pub BookmarkMoves : Type 0
BookmarkMoves =
    (question : Question) (l : List ℕ) (T : Tables) (b : Bookmark) (t : ℕ) → answer (turning question l T b) ≡ done t → 0 < t →
    (k : Kit) × NextKit question l b T.nodes k × (k.tag ≡ t)
    × (memory (turning question l T b) b ≡ record { begun = true; row = fixed_row k.row })

-- [14.35] "after a step that shows a kit, the places behind the row's length are 0". Proof: Pages, `behind_zeros`
abbrev pub BehindZeros : Type 0
BehindZeros =
    (question : Question) (l : List ℕ) (T : Tables) (b : Bookmark) (t i : ℕ) → answer (turning question l T b) ≡ done t → 0 < t →
    let c = memory (turning question l T b) b in c.row.len ≤ i → get_or c.row.places i 0 ≡ 0

-- [14.35] "or 0 when none is left": exactly then. Proof: Pages, `none_left`
abbrev pub NoneLeft : Type 0
NoneLeft =
    (question : Question) (l : List ℕ) (T : Tables) (b : Bookmark) → Asked T l → good_bookmark (part_count T) b ≡ true →
    (answer (turning question l T b) ≡ done 0) ↔ ((k : Kit) → Memᴰ k (fitting question l T.nodes) → before (row_shown b) k.row ≡ true → ⊥)

-- [14.35] "and then the bookmark stays where it was": every word of it, one not begun too. Proof: Pages, `bookmark_stays`
abbrev pub BookmarkStays : Type 0
BookmarkStays =
    (question : Question) (l : List ℕ) (T : Tables) (b : Bookmark) → answer (turning question l T b) ≡ done 0 →
    memory (turning question l T b) b ≡ b

-- [14.36] from any list of calls, in terms of what the accepted calls left: the reply, and the bookmark afterwards. Proof: Pages, `page_answers`
abbrev pub PageAnswers : Type 0
PageAnswers =
    (a : Catalogue) (question : Question) (l : List ℕ) (b : Bookmark) → Allowed a →
    (answer (turning question l (tables_of a) b) ≡ answer (page_of question l (entered a) b))
    × (memory (turning question l (tables_of a) b) b ≡ memory (page_of question l (entered a) b) b)

------------------------------------------------------------------------
-- Many steps, each with the bookmark that the one before it left, and some calls on the tables before each

-- what they answer
unfoldable pub pages_among : List (List Call) → Question → List ℕ → Tables → Bookmark → List Reply
pages_among [] question l T b = []
pages_among (cs ∷ css) question l T b =
    let U = run cs T in
    answer (turning question l U b) ∷ pages_among css question l U (memory (turning question l U b) b)

-- the kits that they show: a step that is done the first behind the bookmark, if there is one, and a refused step none
unfoldable pub shown_among : List (List Call) → Question → List ℕ → Tables → Bookmark → List Kit
shown_among [] question l T b = []
shown_among (cs ∷ css) question l T b =
    let U = run cs T in
    leaves (answer (turning question l U b)) [] (take 1 (following question l b U.nodes))
    ++ shown_among css question l U (memory (turning question l U b) b)

-- the tables that each step is asked of
unfoldable pub tables_among : List (List Call) → Tables → List Tables
tables_among [] T = []
tables_among (cs ∷ css) T = run cs T ∷ tables_among css (run cs T)

-- "If catalogue and question stay the same": n steps, and no call between them
abbrev pub pages_from : ℕ → Question → List ℕ → Tables → Bookmark → List Reply
pages_from n question l T b = pages_among (replicate {A = List Call} n []) question l T b

-- the first n replies of a listing shown kit by kit: its tags, and 0 for ever behind them
abbrev pub one_per_page : ℕ → List Kit → List Reply
one_per_page n ks = take n (map done (tags_of ks) ++ replicate n (done 0))

-- [14.37] "the pages from a bookmark not begun are the whole listing, each once", in its order. Proof: Turned, `pages_are_the_listing`
abbrev pub PagesAreTheListing : Type 0
PagesAreTheListing =
    (n : ℕ) (question : Question) (l : List ℕ) (T : Tables) (b : Bookmark) → Asked T l → b.begun ≡ false →
    pages_from n question l T b ≡ one_per_page n (fitting question l T.nodes)

-- [14.37] the same from any list of calls; so a bookmark that steps alone have moved on is never refused. Proof: Turned, `pages_are_entered`
abbrev pub PagesAreEntered : Type 0
PagesAreEntered =
    (n : ℕ) (a : Catalogue) (question : Question) (l : List ℕ) (b : Bookmark) → Allowed a →
    decide (list_faults (length (entered a).parts) l) 0 ≡ done 0 → b.begun ≡ false →
    pages_from n question l (tables_of a) b ≡ one_per_page n (answering question l (entered a))

-- [14.38] whatever calls come between, of whatever tables, and from any bookmark: each kit shown comes after all shown before it, so that no row is
-- shown twice. Proof: Turned, `nothing_twice`
abbrev pub NothingTwice : Type 0
NothingTwice = (css : List (List Call)) (question : Question) (l : List ℕ) (T : Tables) (b : Bookmark) → InOrder (shown_among css question l T b)

-- [14.38] and a kit that is held at every step, answers, and comes after where the bookmark was at first, has been shown once a step is done with 0;
-- steps that are refused between take nothing away. Proof: Turned, `nothing_missed`
abbrev pub NothingMissed : Type 0
NothingMissed =
    (css : List (List Call)) (question : Question) (l : List ℕ) (T : Tables) (b : Bookmark) (k : Kit) → before (row_shown b) k.row ≡ true →
    ((U : Tables) → Memᴰ U (tables_among css T) → Memᴰ k (fitting question l U.nodes)) →
    Memᴰ (done 0) (pages_among css question l T b) → Memᴰ k (shown_among css question l T b)

------------------------------------------------------------------------
-- The bookmark

-- a row with none of the faults: "longer than 64, falls somewhere, has a place 0 or one beyond the registered parts, or has more than 15 equal places"
pub record FaultlessRow (parts : ℕ) (r : Row) : Type 0 where
  pub not_longer : r.len ≤ 64
  pub never_falls_lem : (i : ℕ) → i + 1 < length (units_in r) → get_or (units_in r) i 0 ≤ get_or (units_in r) (i + 1) 0
  pub none_zero : (i : ℕ) → i < length (units_in r) → 0 < get_or (units_in r) i 0
  pub none_beyond : (i : ℕ) → i < length (units_in r) → get_or (units_in r) i 0 ≤ parts
  pub few_equal_lem : (p : ℕ) → count p (units_in r) ≤ 15

-- [14.39] "a begun bookmark whose row is ..". Proof: Pages, `bookmark_good_exactly`
abbrev pub BookmarkGoodExactly : Type 0
BookmarkGoodExactly =
    (parts : ℕ) (b : Bookmark) → (good_bookmark parts b ≡ true) ↔ (b.begun ≡ true → FaultlessRow parts b.row)

-- [14.39] "new 15, .., after the list checks", with the value 0: exactly for such a bookmark, where nothing is refused of tables and list. Proof:
-- Pages, `fifteen_exactly`
abbrev pub FifteenExactly : Type 0
FifteenExactly =
    (question : Question) (l : List ℕ) (T : Tables) (b : Bookmark) (v : ℕ) → (answer (turning question l T b) ≡ refused 15 v) ↔
    (Asked T l × (good_bookmark (part_count T) b ≡ false) × (v ≡ 0))

-- [14.40] "A bookmark not begun has its row ignored": it stands before every kit. Proof: Pages, `from_the_start`
abbrev pub FromTheStart : Type 0
FromTheStart = (question : Question) (l : List ℕ) (b : Bookmark) (N : List ℕ) → b.begun ≡ false → following question l b N ≡ fitting question l N

-- two bookmarks get the same answer, and where a kit is shown they are the same afterwards
abbrev pub TurnedAlike : Question → List ℕ → Tables → Bookmark → Bookmark → Type 0
TurnedAlike question l T b c =
    (answer (turning question l T b) ≡ answer (turning question l T c))
    × ((t : ℕ) → answer (turning question l T b) ≡ done t → 0 < t → memory (turning question l T b) b ≡ memory (turning question l T c) c)

-- [14.40] of any tables: two that are not begun; and two begun ones that agree in length and in the places that it counts, whatever lies behind
-- them. Proof: Pages, `not_begun_ignored`, `behind_ignored`
abbrev pub NotBegunIgnored : Type 0
NotBegunIgnored =
    (question : Question) (l : List ℕ) (T : Tables) (b c : Bookmark) → b.begun ≡ false → c.begun ≡ false → TurnedAlike question l T b c

-- [14.40]
abbrev pub BehindIgnored : Type 0
BehindIgnored =
    (question : Question) (l : List ℕ) (T : Tables) (b c : Bookmark) → b.begun ≡ c.begun → b.row.len ≡ c.row.len →
    units_in b.row ≡ units_in c.row → TurnedAlike question l T b c
