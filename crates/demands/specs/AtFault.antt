-- REQUEST 2: "Refusals 4, 5 and 6 should carry the line, counted from 1, as their value; an odd list is charged to the line that lacks its quantity,
-- with 4,294,967,295 standing for any later line too. The check on a list promises this, and every call that takes a list hands it on." The
-- law that proves a statement stands behind "Proof", in proofs/AtFault.
use Rattle.std.specs.Prelude.{◌≡◌, ◌↔◌, Bool, true, false, List, ℕ, ◌+◌, ◌-◌, ◌*◌, ◌%◌, ◌≤◌, min, length, take}
use Rattle.ground.specs.Lists.{is_zero}
use Rattle.ground.specs.Calls.{Both, refused, decide, answer}
use Rattle.ground.specs.Tables.{Tables}
use Rattle.kits.specs.Kits.{list_faults, good_list}
use Rattle.pages.specs.declared.Bookmark.{Bookmark}
use Rattle.tables.specs.Lent.{part_count}
use Rattle.catalogue.specs.Calls.{Call, insert_kit, find_kit, delete_kit, count_kits, any_within, any_containing, all_within, all_containing, all_almost}
use Rattle.catalogue.specs.Calls.{turn_within, turn_containing, write_card, plan_of}
use Rattle.demands.specs.Demand1.{both_tables, LengthWrong, TableUnsound}

-- the first k lines of a list
abbrev pub first_lines : ℕ → List ℕ → List ℕ
first_lines k l = take (k * 2) l

-- [4.4] the line, counted from 1, to which a list is charged beside n parts: of an odd list the one that lacks its quantity; of any other the
-- first with which its lines are not good
pub data ChargedTo (n : ℕ) (l : List ℕ) (k : ℕ) : Type 0 where
  by_half : length l + 1 ≡ k * 2 → ChargedTo n l k
  by_line : length l % 2 ≡ 0 → good_list n (first_lines (k - 1) l) ≡ true → good_list n (first_lines k l) ≡ false → ChargedTo n l k

-- [4.4] "The check on a list promises this". Proof: `line_charged`
abbrev pub LineCharged : Type 0
LineCharged = (n k : ℕ) (l : List ℕ) → ChargedTo n l k → (f : ℕ) × (decide (list_faults n l) 0 ≡ refused f (min k 4294967295))

-- [4.4] and every list that is not good is charged to a line. Proof: `some_line`
abbrev pub SomeLine : Type 0
SomeLine = (n : ℕ) (l : List ℕ) → good_list n l ≡ false → (k : ℕ) × ChargedTo n l k

-- [14.21] the calls that take a list, and whether a tag that they ask for first is 0
pub data TakesList (l : List ℕ) : Call → Bool → Type 0 where
  to_insert : (t : ℕ) → TakesList l (insert_kit l t) (is_zero t)
  to_find : TakesList l (find_kit l) false
  to_delete : TakesList l (delete_kit l) false
  to_count : TakesList l (count_kits l) false
  within_any : TakesList l (any_within l) false
  containing_any : TakesList l (any_containing l) false
  within_all : (o : List ℕ) → TakesList l (all_within l o) false
  containing_all : (o : List ℕ) → TakesList l (all_containing l o) false
  almost_all : (d : ℕ) (o : Both) → TakesList l (all_almost d l o) false
  within_page : (b : Bookmark) → TakesList l (turn_within l b) false
  containing_page : (b : Bookmark) → TakesList l (turn_containing l b) false
  to_write : (o : List ℕ) → TakesList l (write_card l o) false

-- [14.21] "every call that takes a list hands it on": of any tables, 4, 5 or 6 with this value exactly where the tables are right and sound,
-- the tag is not 0 and the check of the list says so. Proof: `list_exactly`
abbrev pub ListExactly : Type 0
ListExactly =
    (c : Call) (l : List ℕ) (untagged : Bool) (T : Tables) (f v : ℕ) → TakesList l c untagged → 4 ≤ f → f ≤ 6 → (answer (plan_of c T) ≡ refused f v)
    ↔ ((LengthWrong both_tables T → ⊥) × (TableUnsound both_tables T → ⊥) × (untagged ≡ false)
    × (decide (list_faults (part_count T) l) 0 ≡ refused f v))
