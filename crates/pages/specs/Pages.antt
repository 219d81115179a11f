-- REQUEST 4: "We want a bookmark that is lent to the call and moved on in place, for both kinds of question. It holds whether paging has begun and
-- the unit row of the last kit shown." When a bookmark is at fault, which kits come behind it, what a step answers and where it leaves the bookmark.
use Rattle.std.specs.Prelude.{Bool, true, ◌&&◌, ◌||◌, cond, not, List, [], ◌∷◌, ℕ, leb}
use Rattle.ground.specs.Lists.{allb, every, keep}
use Rattle.ground.specs.Calls.{Case, Plan, plan}
use Rattle.kits.specs.Kits.{most_quantity, most_units, units_in, fixed_row, count, before}
use Rattle.nodes.specs.Held.{Kit, first_tag}
use Rattle.questions.specs.Questions.{fitting}
use Rattle.pages.specs.declared.Bookmark.{Bookmark}

------------------------------------------------------------------------
-- "new 15, a begun bookmark whose row is longer than 64, falls somewhere, has a place 0 or one beyond the registered parts, or has more
-- than 15 equal places"

unfoldable pub never_falls : List ℕ → Bool
never_falls [] = true
never_falls (x ∷ []) = true
never_falls (x ∷ y ∷ r) = leb x y && never_falls (y ∷ r)

unfoldable pub is_place : ℕ → ℕ → Bool
is_place parts p = every (leb 1 p ∷ leb p parts ∷ [])

unfoldable pub few_in : List ℕ → ℕ → Bool
few_in r p = leb (count p r) most_quantity

-- the units of a row, with so many parts registered
unfoldable pub good_units : ℕ → List ℕ → Bool
good_units parts r = every (never_falls r ∷ allb (is_place parts) r ∷ allb (few_in r) r ∷ [])

-- [8.15] only the places that the length counts are looked at, and none of a bookmark not begun
unfoldable pub good_bookmark : ℕ → Bookmark → Bool
good_bookmark parts b = not b.begun || every (leb b.row.len most_units ∷ good_units parts (units_in b.row) ∷ [])

------------------------------------------------------------------------
-- "A step shows the first kit held at that moment that answers the question and comes after that row"

-- [11.12] "the unit row of the last kit shown"; "A bookmark not begun has its row ignored": it stands before all kits, none of which is empty
unfoldable pub row_shown : Bookmark → List ℕ
row_shown b = cond b.begun (units_in b.row) []

unfoldable pub comes_after : List ℕ → Kit → Bool
comes_after r k = before r k.row

-- [11.12] the kits that answer and come after that row, in listing order
unfoldable pub following : (List ℕ → Kit → Bool) → List ℕ → Bookmark → List ℕ → List Kit
following question l b N = keep (comes_after (row_shown b)) (fitting question l N)

-- [11.13] where the bookmark is once the first of some kits was shown: "or 0 when none is left, and then the bookmark stays where it was"; "after a
-- step that shows a kit, the places behind the row's length are 0"
unfoldable pub moved_on : Bookmark → List Kit → Bookmark
moved_on b [] = b
moved_on b (k ∷ ks) = record { begun = true; row = fixed_row k.row }

-- [11.13] a step, behind some refusals: "its value is that kit's tag"
unfoldable pub turn_page : List Case → (List ℕ → Kit → Bool) → List ℕ → List ℕ → Bookmark → Plan Bookmark
turn_page cs question l N b = plan cs (first_tag (following question l b N)) (moved_on b (following question l b N))
