-- DEMAND 1: "Every call ends and stays inside its memory for all inputs ... A call is refused in the cases laid down and in no others, with the
-- number laid down, and then the tables and output are byte for byte what they were." The file and the law that prove a statement stand
-- behind "Proof", in crates/demands/proofs.
-- "ends and stays inside its memory", "No call relies on the caller having looked first": no public call has a `requires`, and the check of
-- each function shows that it ends and stays inside its memory.
use Rattle.std.specs.Prelude.{◌≡◌, ◌↔◌, ◌⊎◌, ◌||◌, true, false, not, List, [], ◌++◌, ◌∷◌, ◌+◌, ◌-◌, ℕ, length, eqb, leb, ltb}
use Rattle.ground.specs.Lists.{anyb, is_zero}
use Rattle.ground.specs.Calls.{Both, Case, Given, Plan, Reply, answer, decide, done, given, memory, number_of, refused, set_down}
use Rattle.ground.specs.Tables.{Tables}
use Rattle.register.specs.Number.{good_number, punctuation_at_end}
use Rattle.register.specs.Register.{place_in, register_length, register_sound}
use Rattle.kits.specs.Kits.{list_faults, most_units, units}
use Rattle.nodes.specs.Nodes.{nodes_length}
use Rattle.nodes.specs.Sound.{nodes_sound}
use Rattle.nodes.specs.Held.{count_beginning, first_tag, tag_in, tags_of}
use Rattle.questions.specs.Questions.{is_containing, is_within}
use Rattle.pages.specs.declared.Bookmark.{Bookmark}
use Rattle.sheet.specs.Sheet.{Contents, encode, nodes_needed, without_empty}
use Rattle.sheet.specs.Reading.{decode, said, salvage, rescued}
use Rattle.sheet.specs.Calls.{sheet_refusals, salvage_refusals}
use Rattle.card.specs.Card.{card_of, encode_card, list_on}
use Rattle.card.specs.Reading.{decode_card, said_card}
use Rattle.card.specs.Calls.{card_refusals}
use Rattle.tables.specs.Lent.{part_count}
use Rattle.catalogue.specs.Calls.{Call, Question, all_almost, all_containing, all_kits, all_within, almost_kits, any_containing, any_within}
use Rattle.catalogue.specs.Calls.{count_kits, delete_kit, empty_both, find_kit, insert_kit, look_up, plan_of, read_sheet, register_part, show_at, write_sheet}
use Rattle.catalogue.specs.Calls.{read_card, salvage_sheet, turn_containing, turn_within, turning, write_card, writing, writing_card}
use Rattle.demands.specs.Model.{Allowed, Catalogue, almost_of, answering, entered, listed_in, listing_of, more, page_of, tables_of}

------------------------------------------------------------------------
-- Every reply, from any list of calls: what a catalogue that was begun empty answers, in terms of what its accepted calls left and of its
-- size, and never of a table. So 1 and 2 are never answered, and every other refusal comes in its case and in no other.

-- a list is not held
abbrev pub not_held : Contents → List ℕ → List Case
not_held m l = given (is_zero (tag_in (units l) m.kits)) 11 0 ∷ []

-- a good list is entered: 19, 9, 10, 12, and the nodes taken
abbrev pub not_entered : ℕ → Contents → List ℕ → ℕ → List Case
not_entered room m l t =
    given (is_zero (length (units l))) 19 0
    ∷ given (not (is_zero (tag_in (units l) m.kits))) 9 (tag_in (units l) m.kits)
    ∷ given (anyb (eqb t) (tags_of m.kits)) 10 0
    ∷ given (ltb room (nodes_needed (more m l t))) 12 (nodes_needed (more m l t) - room) ∷ []

abbrev pub nodes_taken : Contents → List ℕ → ℕ → ℕ
nodes_taken m l t = nodes_needed (more m l t) - nodes_needed m

-- a catalogue with so many slots and nodes that has m
unfoldable pub told : ℕ → ℕ → Contents → Call → Reply
told slots room m empty_both = done 0
told slots room m (register_part n) = decide
    (given (not (good_number n)) 3 0
    ∷ given (punctuation_at_end n) 16 0
    ∷ given (not (is_zero (place_in n m.parts))) 9 (place_in n m.parts)
    ∷ given (leb slots (length m.parts)) 12 1 ∷ [])
    (length m.parts + 1)
told slots room m (look_up n) =
    decide (given (not (good_number n)) 3 0 ∷ given (is_zero (place_in n m.parts)) 11 0 ∷ []) (place_in n m.parts)
told slots room m (show_at p) = decide (given (is_zero p || ltb (length m.parts) p) 11 0 ∷ []) 0
told slots room m (insert_kit l t) = decide
    (given (is_zero t) 8 0
    ∷ (list_faults (length m.parts) l
    ++ (given (ltb most_units (length (units l))) 7 0
    ∷ not_entered room m l t)))
    (nodes_taken m l t)
told slots room m (find_kit l) = decide (list_faults (length m.parts) l ++ not_held m l) (tag_in (units l) m.kits)
told slots room m (delete_kit l) = decide (list_faults (length m.parts) l ++ not_held m l) (tag_in (units l) m.kits)
told slots room m (count_kits l) = decide (list_faults (length m.parts) l) (count_beginning (units l) m.kits)
told slots room m (any_within l) = decide (list_faults (length m.parts) l) (first_tag (answering is_within l m))
told slots room m (any_containing l) = decide (list_faults (length m.parts) l) (first_tag (answering is_containing l m))
told slots room m (all_within l o) = answer (listing_of is_within l m o)
told slots room m (all_containing l o) = answer (listing_of is_containing l m o)
told slots room m (all_almost d l o) = answer (almost_of d l m o)
told slots room m (turn_within l b) = answer (page_of is_within l m b)
told slots room m (turn_containing l b) = answer (page_of is_containing l m b)
told slots room m (write_sheet o) = answer (set_down [] (encode (listed_in m)) o)
told slots room m (read_sheet s) = decide (sheet_refusals s slots room) (length (without_empty (said (decode s))).kits)
told slots room m (salvage_sheet s) = decide (salvage_refusals s slots room) (length (without_empty (rescued (salvage s)).kept).kits)
told slots room m (write_card l o) =
    answer (set_down (list_faults (length m.parts) l ++ not_held m l) (encode_card (card_of m.parts l (tag_in (units l) m.kits))) o)
told slots room m (read_card s) =
    let c = said_card (decode_card s) in
    decide (card_refusals m.parts s ++ not_entered room m (list_on m.parts c) c.tag) (nodes_taken m (list_on m.parts c) c.tag)

-- [14.2] Proof: Told, `told_exactly`
abbrev pub ToldExactly : Type 0
ToldExactly = (a : Catalogue) (c : Call) → Allowed a → answer (plan_of c (tables_of a)) ≡ told a.slots a.room (entered a) c

------------------------------------------------------------------------
-- Any tables at all, damaged ones too

-- what a call asks of the tables: "Register calls are lent only the register; all others both tables", and "Emptying and reading give 1 but
-- never 2", salvage "1 as in reading"
pub data TablesAsked : Type 0 where
  the_register the_lengths both_tables : TablesAsked

unfoldable pub asks_of : Call → TablesAsked
asks_of empty_both = the_lengths
asks_of (register_part n) = the_register
asks_of (look_up n) = the_register
asks_of (show_at p) = the_register
asks_of (insert_kit l t) = both_tables
asks_of (find_kit l) = both_tables
asks_of (delete_kit l) = both_tables
asks_of (count_kits l) = both_tables
asks_of (any_within l) = both_tables
asks_of (any_containing l) = both_tables
asks_of (all_within l o) = both_tables
asks_of (all_containing l o) = both_tables
asks_of (all_almost d l o) = both_tables
asks_of (turn_within l b) = both_tables
asks_of (turn_containing l b) = both_tables
asks_of (write_sheet o) = both_tables
asks_of (read_sheet s) = the_lengths
asks_of (salvage_sheet s) = the_lengths
asks_of (write_card l o) = both_tables
asks_of (read_card s) = both_tables

-- "a table has a wrong length"
abbrev pub LengthWrong : TablesAsked → Tables → Type 0
LengthWrong the_register T = register_length T.register ≡ false
LengthWrong the_lengths T = (register_length T.register ≡ false) ⊎ (nodes_length T.nodes ≡ false)
LengthWrong both_tables T = (register_length T.register ≡ false) ⊎ (nodes_length T.nodes ≡ false)

-- "a table is not sound"
abbrev pub TableUnsound : TablesAsked → Tables → Type 0
TableUnsound the_register T = register_sound T.register ≡ false
TableUnsound the_lengths T = ⊥
TableUnsound both_tables T = (register_sound T.register ≡ false) ⊎ (nodes_sound (part_count T) T.nodes ≡ false)

-- [14.3] 1 exactly where a length is wrong, whatever else is wrong. Proof: Damaged, `one_exactly`
abbrev pub OneExactly : Type 0
OneExactly = (c : Call) (T : Tables) → (number_of (answer (plan_of c T)) ≡ 1) ↔ LengthWrong (asks_of c) T

-- [14.3] 2 exactly where the lengths are right and a table is not sound. Proof: Damaged, `two_exactly`
abbrev pub TwoExactly : Type 0
TwoExactly =
    (c : Call) (T : Tables) → (number_of (answer (plan_of c T)) ≡ 2) ↔ ((LengthWrong (asks_of c) T → ⊥) × TableUnsound (asks_of c) T)

-- [14.23] the numbers that a call may be refused with, in its order: "16, on registration only"; "19, on inserting it ..,
-- after 7 and before 9"
unfoldable pub numbers_given : Call → List ℕ
numbers_given empty_both = 1 ∷ []
numbers_given (register_part n) = 1 ∷ 2 ∷ 3 ∷ 16 ∷ 9 ∷ 12 ∷ []
numbers_given (look_up n) = 1 ∷ 2 ∷ 3 ∷ 11 ∷ []
numbers_given (show_at p) = 1 ∷ 2 ∷ 11 ∷ []
numbers_given (insert_kit l t) = 1 ∷ 2 ∷ 8 ∷ 4 ∷ 5 ∷ 6 ∷ 7 ∷ 19 ∷ 9 ∷ 10 ∷ 12 ∷ []
numbers_given (find_kit l) = 1 ∷ 2 ∷ 4 ∷ 5 ∷ 6 ∷ 11 ∷ []
numbers_given (delete_kit l) = 1 ∷ 2 ∷ 4 ∷ 5 ∷ 6 ∷ 11 ∷ []
numbers_given (count_kits l) = 1 ∷ 2 ∷ 4 ∷ 5 ∷ 6 ∷ []
numbers_given (any_within l) = 1 ∷ 2 ∷ 4 ∷ 5 ∷ 6 ∷ []
numbers_given (any_containing l) = 1 ∷ 2 ∷ 4 ∷ 5 ∷ 6 ∷ []
numbers_given (all_within l o) = 1 ∷ 2 ∷ 4 ∷ 5 ∷ 6 ∷ 12 ∷ []
numbers_given (all_containing l o) = 1 ∷ 2 ∷ 4 ∷ 5 ∷ 6 ∷ 12 ∷ []
numbers_given (all_almost d l o) = 1 ∷ 2 ∷ 4 ∷ 5 ∷ 6 ∷ 14 ∷ 12 ∷ []
numbers_given (turn_within l b) = 1 ∷ 2 ∷ 4 ∷ 5 ∷ 6 ∷ 15 ∷ []
numbers_given (turn_containing l b) = 1 ∷ 2 ∷ 4 ∷ 5 ∷ 6 ∷ 15 ∷ []
numbers_given (write_sheet o) = 1 ∷ 2 ∷ 12 ∷ []
numbers_given (read_sheet s) = 1 ∷ 13 ∷ 12 ∷ []
numbers_given (salvage_sheet s) = 1 ∷ 13 ∷ 12 ∷ []
numbers_given (write_card l o) = 1 ∷ 2 ∷ 4 ∷ 5 ∷ 6 ∷ 11 ∷ 12 ∷ []
numbers_given (read_card s) = 1 ∷ 2 ∷ 13 ∷ 11 ∷ 19 ∷ 9 ∷ 10 ∷ 12 ∷ []

-- [14.23] of any tables, a call is done or refused with one of its numbers. Proof: LaidDown, `numbers_laid_down`
abbrev pub NumbersLaidDown : Type 0
NumbersLaidDown =
    (c : Call) (T : Tables) → (number_of (answer (plan_of c T)) ≡ 0) ⊎ (anyb (eqb (number_of (answer (plan_of c T)))) (numbers_given c) ≡ true)

------------------------------------------------------------------------
-- Of any call there may be: these two hold of every list of cases, whatever it says; with the statements above they say what a refusal is

-- [14.4] "A call is refused in the cases laid down and in no others, with the number laid down": a call is refused with number n and value v
-- exactly when, of its refusals in the paper's order, the first that is given has them. Proof: Refusals, `refused_exactly`
abbrev pub RefusedExactly : Type 0
RefusedExactly = (c : Call) (T : Tables) (n v : ℕ) → (answer (plan_of c T) ≡ refused n v) ↔ Given n v (plan_of c T).cases

-- [14.4] "and then the tables .. are byte for byte what they were". Proof: Refusals, `refusal_keeps`
abbrev pub RefusalKeeps : Type 0
RefusalKeeps = (c : Call) (T : Tables) (n v : ℕ) → answer (plan_of c T) ≡ refused n v → memory (plan_of c T) T ≡ T

-- the calls that set something down: a listing, the sheet and a card in an output, the kits that a bin almost fills in two, a page in its bookmark
pub data SetsDown : Type 0 where
  listing : Question → List ℕ → SetsDown
  listing_almost : ℕ → List ℕ → SetsDown
  page : Question → List ℕ → SetsDown
  sheet : SetsDown
  card : List ℕ → SetsDown

abbrev pub Output : SetsDown → Type 0
Output (listing question l) = List ℕ
Output (listing_almost d l) = Both
Output (page question l) = Bookmark
Output sheet = List ℕ
Output (card l) = List ℕ

unfoldable pub setting_down : (x : SetsDown) → Tables → Output x → Plan (Output x)
setting_down (listing question l) T o = all_kits question l T o
setting_down (listing_almost d l) T o = almost_kits d l T o
setting_down (page question l) T b = turning question l T b
setting_down sheet T o = writing T o
setting_down (card l) T o = writing_card l T o

-- [14.4] "the tables and output are byte for byte what they were": the output, or both; the bookmark in every word. Proof: Refusals, `refusal_keeps_output`
abbrev pub RefusalKeepsOutput : Type 0
RefusalKeepsOutput =
    (x : SetsDown) (T : Tables) (o : Output x) (n v : ℕ) → answer (setting_down x T o) ≡ refused n v → memory (setting_down x T o) o ≡ o
