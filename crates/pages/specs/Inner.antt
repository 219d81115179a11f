-- Inner: no promise of the house rests on what stands here; inner contracts and proofs speak by it.
-- A row's places looked at one by one, and what the walk to the next kit keeps.
use Rattle.std.specs.Prelude.{◌≡◌, Bool, true, ◌&&◌, cond, not, List, [], ◌∷◌, Ok, ℕ, zero, suc, ◌+◌, ◌≤◌, ◌<◌, length, take, leb}
use Rattle.ground.specs.Lists.{every, is_zero}
use Rattle.kits.specs.Kits.{most_quantity, before, fixed_row}
use Rattle.nodes.specs.Nodes.{parent, next, label, tag, row_of}
use Rattle.questions.specs.Inner.{first_from, had_of}
use Rattle.pages.specs.declared.Bookmark.{Bookmark}
use Rattle.pages.specs.declared.Page.{Page}

------------------------------------------------------------------------
-- A bookmark's row

-- a place behind the last one, of which so many have come with it
unfoldable pub good_place : ℕ → ℕ → ℕ → ℕ → Bool
good_place parts last place had = every (leb last place ∷ not (is_zero place) ∷ leb place parts ∷ leb had most_quantity ∷ [])

-- the rest of a row behind the place `last`, of which `had` have come
unfoldable pub good_along : ℕ → ℕ → ℕ → List ℕ → Bool
good_along parts last had [] = true
good_along parts last had (x ∷ r) =
    good_place parts last x (had_of x last had + 1) && good_along parts x (had_of x last had + 1) r

-- how many places of a bookmark's row count
unfoldable pub len_shown : Bookmark → ℕ
len_shown b = cond b.begun b.row.len 0

-- the page at a node, and at none
unfoldable pub page_at : List ℕ → Bookmark → ℕ → Page
page_at N b zero = record { answer = Ok 0; mark = b }
page_at N b (suc i) =
    record { answer = Ok (tag N (suc i)); mark = record { begun = true; row = fixed_row (row_of N (suc i)) } }

------------------------------------------------------------------------
-- The walk to the first kit after a row

-- a row that passes and comes after the row r
unfoldable pub passes_after : List ℕ → (List ℕ → Bool) → List ℕ → Bool
passes_after r test s = test s && before r s

-- the first node at which a kit ends that passes and comes after r, on the chain that starts at a link or below it; 0 where there is none
abbrev pub first_after : List ℕ → (List ℕ → Bool) → List ℕ → ℕ → ℕ
first_after r test N i = first_from (passes_after r test) N i

-- the node above a link has the first d places of r as its row
pub record Alongside (r N : List ℕ) (i d : ℕ) : Type 0 where
  pub inside : d ≤ length r
  pub above : 0 < i → row_of N (parent N i) ≡ take d r

-- the first node of the chain from a link on whose label is not below a place; 0 behind the last
pub data Reaches (N : List ℕ) (place : ℕ) : ℕ → ℕ → Type 0 where
  ended : Reaches N place 0 0
  here : {i : ℕ} → 0 < i → place ≤ label N i → Reaches N place i i
  later : {i r : ℕ} → 0 < i → label N i < place → Reaches N place (next N i) r → Reaches N place i r
