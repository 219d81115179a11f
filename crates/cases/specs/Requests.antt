-- What requests 3, 4, 5, 6, 7, 8, 12 and 14 ask, in literal numbers. Computed. The law that proves a statement stands behind "Proof", in proofs/Requests.
use Rattle.std.specs.Prelude.{◌≡◌, true, false, List, [], ◌∷◌, ◌++◌, map, ℕ, ◌-◌, ◌*◌, length, replicate, take, drop}
use Rattle.ground.specs.Calls.{Reply, done, refused, answer, memory, both}
use Rattle.ground.specs.Tables.{Tables, tables}
use Rattle.register.specs.Register.{register_sound}
use Rattle.makers.specs.Makers.{makers_length, makers_sound}
use Rattle.makers.specs.Calls.{Beside, MakerCall, beside, clear_maker, is_makers, plan_of_maker, set_maker, show_label, showing_label, zero_makers}
use Rattle.kits.specs.Kits.{list_of, units}
use Rattle.nodes.specs.Nodes.{words_per_node}
use Rattle.questions.specs.Questions.{is_within, is_containing}
use Rattle.pages.specs.declared.Bookmark.{Bookmark}
use Rattle.sheet.specs.Reading.{item, fault, decode}
use Rattle.sheet.specs.declared.Report.{Report}
use Rattle.catalogue.specs.Calls.{register_part, look_up, show_at, plan_of, inserting, finding, deleting, any_kit, almost_kits, reading, writing, counting}
use Rattle.catalogue.specs.Calls.{delete_kit, empty_both, insert_kit, read_sheet, reading_card, turning, salvaging, writing_card}
use Rattle.demands.specs.Model.{has, tables_of}
use Rattle.demands.specs.Before.{decode_before}
use Rattle.demands.specs.Pages.{pages_among, pages_from}
use Rattle.demands.specs.Rescue.{report_in, reports}
use Rattle.demands.specs.Shop.{ShopCall, beside_of, memory_of, of_catalogue, of_makers}
use Rattle.demands.specs.Makers.{label_shown}
use Rattle.cases.specs.ShortCases.{holding, holding_empty, listed_of, example_sheet, example_says}
use Rattle.cases.specs.Limits.{empty_tables, bad_register, five_parts, sixty_and}

------------------------------------------------------------------------
-- Request 3: the rule before the small letters

-- the sheet of one part, 74ls00
abbrev pub small_sheet : List ℕ
small_sheet = 0x4B ∷ 0x49 ∷ 0x54 ∷ 0 ∷ 1 ∷ 0 ∷ 1 ∷ 6 ∷ 0x37 ∷ 0x34 ∷ 0x6C ∷ 0x73 ∷ 0x30 ∷ 0x30 ∷ 0 ∷ 0 ∷ []

-- [14.22] computed: the document's sheet is an old one; one with small letters is not, and is accepted now. Proof: `before_cases`
abbrev pub BeforeCases : Type 0
BeforeCases =
    (decode_before example_sheet ≡ item example_says [] 34)
    × (decode_before small_sheet ≡ fault 7)
    × (decode small_sheet ≡ item (has ((0x37 ∷ 0x34 ∷ 0x6C ∷ 0x73 ∷ 0x30 ∷ 0x30 ∷ []) ∷ []) []) [] 16)

------------------------------------------------------------------------
-- Request 4: bookmarks begun with these places, of which so many count, and one that is not begun

abbrev pub mark_with : ℕ → List ℕ → Bookmark
mark_with n ps = record { begun = true; row = record { places = ps ++ replicate (64 - length ps) 0; len = n } }

abbrev pub unbegun : Bookmark
unbegun = record { begun = false; row = record { places = replicate 64 9; len = 99 } }

-- the kits (2), (1) and (1, 1), with the tags 1, 2 and 3
unfoldable pub page_tables : Tables
page_tables = holding ((2 ∷ []) ∷ (1 ∷ []) ∷ (1 ∷ 1 ∷ []) ∷ [])

-- the next of them behind a row
unfoldable pub behind_row : List ℕ → Reply
behind_row r = answer (turning is_containing [] page_tables (mark_with (length r) r))

-- a page beside five parts, where no kit is held: 0, or the bookmark is at fault
unfoldable pub mark_answer : ℕ → List ℕ → Reply
mark_answer n ps = answer (turning is_containing [] (five_parts 1) (mark_with n ps))

-- [14.16] Proof: `page_cases`
abbrev pub PageCases : Type 0
PageCases =
    -- the whole listing, each once, and then 0: of all kits, of those within {1}
    (pages_from 5 is_containing [] page_tables unbegun ≡ done 2 ∷ done 3 ∷ done 1 ∷ done 0 ∷ done 0 ∷ [])
    × (pages_from 3 is_within (1 ∷ 1 ∷ []) page_tables unbegun ≡ done 2 ∷ done 0 ∷ done 0 ∷ [])
    -- "the places behind the row's length are 0"; where none is left the bookmark stays, also one not begun
    × (memory (turning is_containing [] page_tables unbegun) unbegun ≡ mark_with 1 (1 ∷ []))
    × (memory (turning is_containing [] page_tables (mark_with 1 (2 ∷ 9 ∷ []))) (mark_with 1 (2 ∷ 9 ∷ [])) ≡ mark_with 1 (2 ∷ 9 ∷ []))
    × (memory (turning is_within [] page_tables unbegun) unbegun ≡ unbegun)
    -- behind the empty row, rows that are held and rows that are not
    × (map behind_row ([] ∷ (1 ∷ []) ∷ (1 ∷ 1 ∷ []) ∷ (1 ∷ 1 ∷ 1 ∷ []) ∷ (1 ∷ 3 ∷ []) ∷ (2 ∷ []) ∷ (3 ∷ []) ∷ [])
    ≡ done 2 ∷ done 3 ∷ done 1 ∷ done 1 ∷ done 1 ∷ done 0 ∷ done 0 ∷ [])
    -- (1) deleted behind its page, and entered again with the tag 9: not shown again
    × (pages_among ([] ∷ (delete_kit (1 ∷ 1 ∷ []) ∷ []) ∷ (insert_kit (1 ∷ 1 ∷ []) 9 ∷ []) ∷ []) is_containing [] page_tables unbegun
    ≡ done 2 ∷ done 3 ∷ done 1 ∷ [])
    -- 15 on both sides of each bound: places 1 and 5, 15 equal ones, 64 in all; 0, 6, falling, 16 equal ones; length 65
    × (map (λ ps. mark_answer (length ps) ps) ([] ∷ (1 ∷ []) ∷ (5 ∷ []) ∷ replicate 15 3 ∷ units (sixty_and 4) ∷ []) ≡ replicate 5 (done 0))
    × (map (λ ps. mark_answer (length ps) ps) ((0 ∷ []) ∷ (6 ∷ []) ∷ (2 ∷ 1 ∷ []) ∷ (1 ∷ 0 ∷ []) ∷ replicate 16 3 ∷ []) ≡ replicate 5 (refused 15 0))
    × (mark_answer 65 (units (sixty_and 4)) ≡ refused 15 0)
    -- no place behind the length is looked at, and none of a bookmark not begun
    × (mark_answer 1 (1 ∷ 0 ∷ 9 ∷ []) ≡ done 0)
    × (answer (turning is_containing [] (five_parts 1) unbegun) ≡ done 0)
    -- "after the list checks": 4, 5 and 6 before 15, and 2 before them
    × (map (λ l. answer (turning is_containing l (five_parts 1) (mark_with 1 (0 ∷ [])))) ((1 ∷ []) ∷ (6 ∷ 1 ∷ []) ∷ (1 ∷ 16 ∷ []) ∷ [])
    ≡ refused 4 1 ∷ refused 5 1 ∷ refused 6 1 ∷ [])
    × (answer (turning is_containing (1 ∷ []) (tables bad_register (five_parts 1).nodes) (mark_with 1 (0 ∷ []))) ≡ refused 2 0)

------------------------------------------------------------------------
-- Request 6: a sheet that brings in 741- and -A

abbrev pub torn : List ℕ
torn = 0x37 ∷ 0x34 ∷ 0x31 ∷ 0x2D ∷ []

abbrev pub torn_sheet : List ℕ
torn_sheet = 0x4B ∷ 0x49 ∷ 0x54 ∷ 0 ∷ 1 ∷ 0 ∷ 2 ∷ 4 ∷ 0x37 ∷ 0x34 ∷ 0x31 ∷ 0x2D ∷ 2 ∷ 0x2D ∷ 0x41 ∷ 0 ∷ 0 ∷ []

-- two slots and a node, which it fills
unfoldable pub torn_tables : Tables
torn_tables = let T = tables (replicate 64 7) (replicate words_per_node 7) in memory (reading torn_sheet T) T

-- [14.24] it is accepted; the register that holds them is sound; both are found, at their places, and shown; to register them is 16, not 9 and not
-- 12; and the sheet written again is the same. Proof: `torn_cases`
abbrev pub TornCases : Type 0
TornCases =
    (answer (reading torn_sheet (tables (replicate 64 7) (replicate words_per_node 7))) ≡ done 0)
    × (register_sound torn_tables.register ≡ true)
    × (map (λ n. answer (plan_of (look_up n) torn_tables)) (torn ∷ (0x2D ∷ 0x41 ∷ []) ∷ []) ≡ done 1 ∷ done 2 ∷ [])
    × (map (λ p. answer (plan_of (show_at p) torn_tables)) (1 ∷ 2 ∷ []) ≡ done 0 ∷ done 0 ∷ [])
    × (map (λ n. answer (plan_of (register_part n) torn_tables)) (torn ∷ (0x2D ∷ 0x41 ∷ []) ∷ (0x37 ∷ []) ∷ [])
    ≡ refused 16 0 ∷ refused 16 0 ∷ refused 12 1 ∷ [])
    × (memory (writing torn_tables (replicate 17 9)) (replicate 17 9) ≡ torn_sheet)

------------------------------------------------------------------------
-- Request 7: kits that begin with some units

-- what is answered where kits of these units are held
unfoldable pub counted : List (List ℕ) → List ℕ → Reply
counted rs r = answer (counting (list_of r) (holding rs))

abbrev pub three_rows : List (List ℕ)
three_rows = (1 ∷ []) ∷ (1 ∷ 1 ∷ []) ∷ (2 ∷ []) ∷ []

-- and where the first of them was deleted
unfoldable pub counted_less : List ℕ → Reply
counted_less r = let T = holding three_rows in answer (counting (list_of r) (memory (deleting (1 ∷ 1 ∷ []) T) T))

-- [14.16] Proof: `count_cases`
abbrev pub CountCases : Type 0
CountCases =
    -- no kit
    (map (counted []) ([] ∷ (1 ∷ []) ∷ []) ≡ done 0 ∷ done 0 ∷ [])
    -- (1), (1, 1), (2): all, those below a kit and the kit itself, a kit alone; beyond a kit, beside one, nowhere
    × (map (counted three_rows) ([] ∷ (1 ∷ []) ∷ (1 ∷ 1 ∷ []) ∷ (2 ∷ []) ∷ []) ≡ done 3 ∷ done 2 ∷ done 1 ∷ done 1 ∷ [])
    × (map (counted three_rows) ((1 ∷ 1 ∷ 1 ∷ []) ∷ (1 ∷ 2 ∷ []) ∷ (3 ∷ []) ∷ []) ≡ replicate 3 (done 0))
    -- (1, 3) contains {3} and does not begin with it
    × (map (counted ((1 ∷ 3 ∷ []) ∷ [])) ((1 ∷ []) ∷ (3 ∷ []) ∷ []) ≡ done 1 ∷ done 0 ∷ [])
    -- (1) deleted
    × (map counted_less ([] ∷ (1 ∷ []) ∷ (1 ∷ 1 ∷ []) ∷ []) ≡ done 2 ∷ done 1 ∷ done 1 ∷ [])
    -- 65 units; a list at fault, and then 2 before it
    × (answer (counting (sixty_and 5) (five_parts 1)) ≡ done 0)
    × (map (λ l. answer (counting l (five_parts 1))) ((1 ∷ []) ∷ (6 ∷ 1 ∷ []) ∷ (1 ∷ 16 ∷ []) ∷ []) ≡ refused 4 1 ∷ refused 5 1 ∷ refused 6 1 ∷ [])
    × (answer (counting (1 ∷ []) (tables bad_register (five_parts 1).nodes)) ≡ refused 2 0)

------------------------------------------------------------------------
-- Request 14: an empty kit is no kit

-- the parts A, B and C, and four nodes from before: the empty kit with the tag 7 at the root, and the kits (1) and (1, 3)
unfoldable pub from_before : Tables
from_before = tables (holding []).register
    (0 ∷ 1 ∷ 0 ∷ 0 ∷ 0 ∷ 7 ∷ 3
    ∷ 0 ∷ 2 ∷ 0 ∷ 1 ∷ 1 ∷ 9 ∷ 2
    ∷ 1 ∷ 0 ∷ 0 ∷ 3 ∷ 2 ∷ 5 ∷ 1
    ∷ replicate 7 0)

-- after the empty kit was deleted
unfoldable pub empty_gone : Tables
empty_gone = memory (deleting [] from_before) from_before

-- its sheet, which does not have the empty kit, and the sheet that a program from before wrote of it
abbrev pub sheet_now : List ℕ
sheet_now =
    0x4B ∷ 0x49 ∷ 0x54 ∷ 0 ∷ 1 ∷ 0 ∷ 3 ∷ 1 ∷ 0x41 ∷ 1 ∷ 0x42 ∷ 1 ∷ 0x43 ∷ 0 ∷ 2
    ∷ 0 ∷ 9 ∷ 1 ∷ 1 ∷ 1
    ∷ 0 ∷ 5 ∷ 2 ∷ 1 ∷ 1 ∷ 3 ∷ 1 ∷ []

abbrev pub sheet_before : ℕ → List ℕ
sheet_before t =
    0x4B ∷ 0x49 ∷ 0x54 ∷ 0 ∷ 1 ∷ 0 ∷ 3 ∷ 1 ∷ 0x41 ∷ 1 ∷ 0x42 ∷ 1 ∷ 0x43 ∷ 0 ∷ 3
    ∷ 0 ∷ t ∷ 0
    ∷ 0 ∷ 9 ∷ 1 ∷ 1 ∷ 1
    ∷ 0 ∷ 5 ∷ 2 ∷ 1 ∷ 1 ∷ 3 ∷ 1 ∷ []

unfoldable pub read_before : ℕ → Tables
read_before t = let T = tables (replicate 96 7) (replicate (3 * words_per_node) 7) in memory (reading (sheet_before t) T) T

-- [14.16] Proof: `empty_cases`
abbrev pub EmptyCases : Type 0
EmptyCases =
    -- 19, where none is held and where one is, with a tag that is taken, by another kit or by it, and with one that is free; tag 0 is 8
    (answer (inserting [] 5 (holding [])) ≡ refused 19 0)
    × (map (λ t. answer (inserting [] t from_before)) (5 ∷ 7 ∷ 8 ∷ 0 ∷ []) ≡ refused 19 0 ∷ refused 19 0 ∷ refused 19 0 ∷ refused 8 0 ∷ [])
    -- found by the empty list and deleted; its tag is taken until then, and free afterwards
    × (answer (finding [] from_before) ≡ done 7)
    × (answer (deleting [] from_before) ≡ done 7)
    × (map (λ T. answer (inserting (2 ∷ 1 ∷ []) 7 T)) (from_before ∷ empty_gone ∷ []) ≡ refused 10 0 ∷ done 1 ∷ [])
    × (answer (finding [] empty_gone) ≡ refused 11 0)
    -- passed over by questions, near-fills and counts
    × (map (λ l. answer (any_kit is_within l from_before)) ([] ∷ (1 ∷ 1 ∷ []) ∷ []) ≡ done 0 ∷ done 9 ∷ [])
    × (answer (any_kit is_containing [] from_before) ≡ done 9)
    × (listed_of is_within from_before [] ≡ (done 0, 0 ∷ 0 ∷ []))
    × (listed_of is_containing from_before [] ≡ (done 2, 9 ∷ 5 ∷ []))
    × (memory (almost_kits 64 [] from_before (both (0 ∷ 0 ∷ []) (0 ∷ 0 ∷ []))) (both (0 ∷ 0 ∷ []) (0 ∷ 0 ∷ [])) ≡ both (9 ∷ 5 ∷ []) (1 ∷ 2 ∷ []))
    × (map (λ l. answer (counting l from_before)) ([] ∷ (1 ∷ 1 ∷ []) ∷ []) ≡ done 2 ∷ done 2 ∷ [])
    × (map (λ T. answer (counting [] T)) (holding_empty ∷ empty_gone ∷ []) ≡ done 0 ∷ done 2 ∷ [])
    -- left out of the sheet; of an old one dropped, not counted, and not written again; but its tag must not be another kit's
    × (memory (writing from_before (replicate 27 9)) (replicate 27 9) ≡ sheet_now)
    × (answer (reading (sheet_before 7) (empty_tables 3 3)) ≡ done 2)
    × (memory (writing (read_before 7) (replicate 27 9)) (replicate 27 9) ≡ sheet_now)
    × (answer (finding [] (read_before 7)) ≡ refused 11 0)
    × (answer (reading (sheet_before 9) (empty_tables 3 3)) ≡ refused 13 18)

------------------------------------------------------------------------
-- Request 12: a torn sheet, of the parts A, B and C

-- the sheet of kits (1) and (1, 3), with this quantity in the first line
abbrev pub quantity_in : ℕ → List ℕ
quantity_in q =
    0x4B ∷ 0x49 ∷ 0x54 ∷ 0 ∷ 1 ∷ 0 ∷ 3 ∷ 1 ∷ 0x41 ∷ 1 ∷ 0x42 ∷ 1 ∷ 0x43 ∷ 0 ∷ 2
    ∷ 0 ∷ 9 ∷ 1 ∷ 1 ∷ q
    ∷ 0 ∷ 5 ∷ 2 ∷ 1 ∷ 1 ∷ 3 ∷ 1 ∷ []

-- what is reported of a sheet, with three slots and so many nodes
unfoldable pub report_with : ℕ → List ℕ → Report
report_with n s = report_in s (empty_tables 3 n)

-- the sheet written after it was salvaged into tables that were no sound ones
unfoldable pub written_after : ℕ → List ℕ → List ℕ
written_after n s =
    let T = tables (replicate 96 7) (replicate (3 * words_per_node) 7) in
    let M = memory (salvaging s T) T in
    memory (writing M (replicate n 9)) (replicate n 9)

-- the sheet with the kit (1) alone
abbrev pub sheet_of_one : List ℕ
sheet_of_one = 0x4B ∷ 0x49 ∷ 0x54 ∷ 0 ∷ 1 ∷ 0 ∷ 3 ∷ 1 ∷ 0x41 ∷ 1 ∷ 0x42 ∷ 1 ∷ 0x43 ∷ 0 ∷ 1 ∷ 0 ∷ 9 ∷ 1 ∷ 1 ∷ 1 ∷ []

-- [14.16] Proof: `rescue_cases`
abbrev pub RescueCases : Type 0
RescueCases =
    -- whole; cut in the second record, before it, in the first record, and behind the kit count
    (report_with 3 sheet_now ≡ reports 2 2 27)
    × (map (λ n. report_with 3 (take n sheet_now)) (26 ∷ 20 ∷ 19 ∷ 15 ∷ []) ≡ reports 1 2 20 ∷ reports 1 2 20 ∷ reports 0 2 15 ∷ reports 0 2 15 ∷ [])
    -- cut in the kit count, in a number, in the mark: 13, and its value in the third place
    × (map (λ n. report_with 3 (take n sheet_now)) (14 ∷ 12 ∷ 2 ∷ []) ≡ reports 0 0 13 ∷ reports 0 0 11 ∷ reports 0 0 0 ∷ [])
    × (answer (salvaging (take 14 sheet_now) (empty_tables 3 3)) ≡ refused 13 13)
    -- a record at fault, with a faultless one behind it
    × (report_with 3 (quantity_in 16) ≡ reports 0 2 15)
    -- an empty kit first: announced, and not kept; cut, the offset is not moved by it
    × (report_with 3 (sheet_before 7) ≡ reports 2 3 30)
    × (report_with 3 (take 29 (sheet_before 7)) ≡ reports 1 3 23)
    -- bytes behind the last record announced
    × (report_with 3 (sheet_now ++ (0 ∷ 0 ∷ [])) ≡ reports 2 2 27)
    -- "12 for the kept part": three nodes for both kits, two for the first; four slots are never wanted
    × (map (λ s. answer (salvaging s (empty_tables 3 2))) (sheet_now ∷ take 26 sheet_now ∷ []) ≡ refused 12 3 ∷ done 1 ∷ [])
    × (report_with 2 sheet_now ≡ reports 0 0 3)
    × (answer (salvaging (take 15 sheet_now) (empty_tables 2 1)) ≡ refused 12 3)
    -- written afterwards: the faultless sheet with just those kits
    × (written_after 20 (take 26 sheet_now) ≡ sheet_of_one)
    × (written_after 27 (sheet_now ++ (0 ∷ [])) ≡ sheet_now)

------------------------------------------------------------------------
-- Request 5: a card

-- these parts, so many nodes, and no kit
unfoldable pub parts_with : ℕ → List (List ℕ) → Tables
parts_with n ps = tables_of (record { slots = length ps; room = n; calls = map register_part ps })

abbrev pub ab_first : List (List ℕ)
ab_first = (0x41 ∷ 0x42 ∷ []) ∷ (0x41 ∷ []) ∷ (0x61 ∷ []) ∷ []

-- 3 of AB, 2 of A and 1 of a, with the tag 300, where they have the places 1, 2 and 3
unfoldable pub sent_from : Tables
sent_from = let T = parts_with 7 ab_first in memory (inserting (1 ∷ 3 ∷ 2 ∷ 2 ∷ 3 ∷ 1 ∷ []) 300 T) T

-- its card: A before AB, which it begins, and both before a
abbrev pub the_card : List ℕ
the_card = 0x4B ∷ 0x49 ∷ 0x43 ∷ 0 ∷ 1 ∷ 1 ∷ 0x2C ∷ 3 ∷ 1 ∷ 0x41 ∷ 2 ∷ 2 ∷ 0x41 ∷ 0x42 ∷ 3 ∷ 1 ∷ 0x61 ∷ 1 ∷ []

-- the same parts the other way round, and the card read there
unfoldable pub sent_to : Tables
sent_to = parts_with 7 ((0x61 ∷ []) ∷ (0x41 ∷ []) ∷ (0x41 ∷ 0x42 ∷ []) ∷ [])

unfoldable pub read_there : Tables
read_there = memory (reading_card the_card sent_to) sent_to

unfoldable pub card_answer : List ℕ → Reply
card_answer s = answer (reading_card s sent_to)

-- a card with this version, tag and line count, and these bytes behind them
abbrev pub card_bytes : ℕ → ℕ → ℕ → List ℕ → List ℕ
card_bytes v t n bs = 0x4B ∷ 0x49 ∷ 0x43 ∷ 0 ∷ v ∷ 0 ∷ t ∷ n ∷ bs

-- five lines: 15 each of A, B, C and D, and q of E
abbrev pub sixty_lines : ℕ → List ℕ
sixty_lines q = 1 ∷ 0x41 ∷ 15 ∷ 1 ∷ 0x42 ∷ 15 ∷ 1 ∷ 0x43 ∷ 15 ∷ 1 ∷ 0x44 ∷ 15 ∷ 1 ∷ 0x45 ∷ q ∷ []

-- [14.16] Proof: `card_cases`
abbrev pub CardCases : Type 0
CardCases =
    -- written, and what lies behind it stays; 12 for an output one short; "those of finding a list"
    (answer (writing_card (1 ∷ 3 ∷ 2 ∷ 2 ∷ 3 ∷ 1 ∷ []) sent_from (replicate 19 9)) ≡ done 18)
    × (memory (writing_card (1 ∷ 3 ∷ 2 ∷ 2 ∷ 3 ∷ 1 ∷ []) sent_from (replicate 19 9)) (replicate 19 9) ≡ the_card ++ (9 ∷ []))
    × (answer (writing_card (1 ∷ 3 ∷ 2 ∷ 2 ∷ 3 ∷ 1 ∷ []) sent_from (replicate 17 9)) ≡ refused 12 18)
    × (map (λ l. answer (writing_card l sent_from [])) ((1 ∷ []) ∷ (4 ∷ 1 ∷ []) ∷ (1 ∷ 16 ∷ []) ∷ (1 ∷ 3 ∷ []) ∷ [])
    ≡ refused 4 1 ∷ refused 5 1 ∷ refused 6 1 ∷ refused 11 0 ∷ [])
    -- "Read where the places differ, it gives the same numbers and quantities", and the same card
    × (card_answer the_card ≡ done 6)
    × (answer (finding (1 ∷ 1 ∷ 2 ∷ 2 ∷ 3 ∷ 3 ∷ []) read_there) ≡ done 300)
    × (memory (writing_card (1 ∷ 1 ∷ 2 ∷ 2 ∷ 3 ∷ 3 ∷ []) read_there (replicate 18 9)) (replicate 18 9) ≡ the_card)
    -- 13: mark, version, tag 0, no line count, the third line cut, bytes behind
    × (map card_answer
    ((0x4B ∷ 0x49 ∷ 0x54 ∷ drop 3 the_card) ∷ card_bytes 2 7 0 [] ∷ card_bytes 1 0 0 [] ∷ take 7 the_card ∷ take 17 the_card ∷ (the_card ++ (0 ∷ [])) ∷ [])
    ≡ refused 13 0 ∷ refused 13 3 ∷ refused 13 5 ∷ refused 13 7 ∷ refused 13 15 ∷ refused 13 18 ∷ [])
    -- a line: AB before A, A twice, no number, a space, a quantity of 0 and of 16
    × (map (λ bs. card_answer (card_bytes 1 7 2 bs)) ((2 ∷ 0x41 ∷ 0x42 ∷ 1 ∷ 1 ∷ 0x41 ∷ 1 ∷ []) ∷ (1 ∷ 0x41 ∷ 1 ∷ 1 ∷ 0x41 ∷ 1 ∷ []) ∷ [])
    ≡ refused 13 12 ∷ refused 13 11 ∷ [])
    × (map (λ bs. card_answer (card_bytes 1 7 1 bs)) ((0 ∷ 1 ∷ []) ∷ (1 ∷ 0x20 ∷ 1 ∷ []) ∷ (1 ∷ 0x41 ∷ 0 ∷ []) ∷ (1 ∷ 0x41 ∷ 16 ∷ []) ∷ [])
    ≡ replicate 4 (refused 13 8))
    -- "units past 64 are charged to the line that passes it"; 64 are not, and then B is not registered
    × (map (λ q. card_answer (card_bytes 1 7 5 (sixty_lines q))) (5 ∷ 4 ∷ []) ≡ refused 13 20 ∷ refused 11 2 ∷ [])
    -- "11 .., value its line", behind 13 and before 12; 2 before them
    × (map (λ s. answer (reading_card s (parts_with 1 ((0x41 ∷ []) ∷ (0x61 ∷ []) ∷ [])))) (the_card ∷ (the_card ++ (0 ∷ [])) ∷ [])
    ≡ refused 11 2 ∷ refused 13 18 ∷ [])
    × (answer (reading_card [] (tables bad_register (five_parts 1).nodes)) ≡ refused 2 0)
    -- 19 for the empty card, of 8 bytes, also where its tag is taken; a table from before writes it
    × (map (λ T. answer (reading_card (take 7 the_card ++ (0 ∷ [])) T)) (sent_to ∷ read_there ∷ []) ≡ refused 19 0 ∷ refused 19 0 ∷ [])
    × (memory (writing_card [] from_before (replicate 8 9)) (replicate 8 9) ≡ card_bytes 1 7 0 [])
    -- 9 with its tag, 10, and 12 with the nodes lacking
    × (map (λ s. answer (reading_card s read_there)) (the_card ∷ (take 7 the_card ++ (1 ∷ 1 ∷ 0x41 ∷ 1 ∷ [])) ∷ []) ≡ refused 9 300 ∷ refused 10 0 ∷ [])
    × (answer (reading_card the_card (parts_with 5 ab_first)) ≡ refused 12 2)

------------------------------------------------------------------------
-- Request 8: the maker's number beside ours

-- a shop of four slots that registered AB, A and a, and then these calls
unfoldable pub labelled : List ShopCall → Beside
labelled cs = beside_of (memory_of (record { slots = 4; room = 1; calls = map (λ n. of_catalogue (register_part n)) ab_first ++ cs }))

-- what a call answers there
unfoldable pub maker_answer : List ShopCall → MakerCall → Reply
maker_answer cs c = answer (plan_of_maker c (labelled cs))

-- the labels of the three places
unfoldable pub labels : List ShopCall → List (List ℕ)
labels cs = map (λ p. label_shown p (labelled cs)) (1 ∷ 2 ∷ 3 ∷ [])

-- XYZ is set at place 2
abbrev pub xyz_set : ShopCall
xyz_set = of_makers (set_maker 2 (0x58 ∷ 0x59 ∷ 0x5A ∷ []))

-- a slot with XYZ, and one that is not set
abbrev pub xyz_slot : List ℕ
xyz_slot = 3 ∷ 0x58 ∷ 0x59 ∷ 0x5A ∷ replicate 28 0

abbrev pub zero_slot : List ℕ
zero_slot = replicate 32 0

-- [14.16] Proof: `maker_cases`
abbrev pub MakerCases : Type 0
MakerCases =
    -- ours, until the maker's is set; replaced, cleared, zeroed
    (labels [] ≡ ab_first)
    × (labels (xyz_set ∷ []) ≡ (0x41 ∷ 0x42 ∷ []) ∷ (0x58 ∷ 0x59 ∷ 0x5A ∷ []) ∷ (0x61 ∷ []) ∷ [])
    × (labels (xyz_set ∷ of_makers (set_maker 2 (0x2D ∷ [])) ∷ []) ≡ (0x41 ∷ 0x42 ∷ []) ∷ (0x2D ∷ []) ∷ (0x61 ∷ []) ∷ [])
    × (labels (xyz_set ∷ of_makers (clear_maker 2) ∷ []) ≡ ab_first)
    × (labels (xyz_set ∷ of_makers zero_makers ∷ []) ≡ ab_first)
    -- which of the two tables holds it
    × (map (λ p. is_makers p (labelled (xyz_set ∷ []))) (0 ∷ 1 ∷ 2 ∷ 3 ∷ 4 ∷ []) ≡ false ∷ false ∷ true ∷ false ∷ false ∷ [])
    -- places 0, 1, the last, one past it (whose slot is there), one past the slots; an unset slot is cleared
    × (map (λ p. maker_answer [] (show_label p)) (0 ∷ 1 ∷ 3 ∷ 4 ∷ 5 ∷ []) ≡ refused 11 0 ∷ done 0 ∷ done 0 ∷ refused 11 0 ∷ refused 11 0 ∷ [])
    × (map (λ p. maker_answer [] (clear_maker p)) (0 ∷ 1 ∷ 3 ∷ 4 ∷ 5 ∷ []) ≡ refused 11 0 ∷ done 0 ∷ done 0 ∷ refused 11 0 ∷ refused 11 0 ∷ [])
    × (map (λ p. maker_answer [] (set_maker p (0x41 ∷ []))) (0 ∷ 1 ∷ 3 ∷ 4 ∷ []) ≡ refused 11 0 ∷ done 0 ∷ done 0 ∷ refused 11 0 ∷ [])
    -- "then 11 ..; then 3": 24 bytes and 25, none, a space; a bad number for no part
    × (map (λ n. maker_answer [] (set_maker 1 n)) (replicate 24 0x41 ∷ replicate 25 0x41 ∷ [] ∷ (0x20 ∷ []) ∷ []) ≡ done 0 ∷ replicate 3 (refused 3 0))
    × (maker_answer [] (set_maker 4 []) ≡ refused 11 0)
    -- sound: a gap, a repeat; not: a byte behind a number, a length byte 0 with a byte behind it, a slot beyond the parts
    × (map (makers_sound 3) ((zero_slot ++ (xyz_slot ++ zero_slot)) ∷ (xyz_slot ++ (xyz_slot ++ zero_slot)) ∷ []) ≡ true ∷ true ∷ [])
    × (map (makers_sound 1) ((take 31 xyz_slot ++ (1 ∷ [])) ∷ (0 ∷ 1 ∷ replicate 30 0) ∷ (zero_slot ++ xyz_slot) ∷ []) ≡ false ∷ false ∷ false ∷ [])
    -- as many slots as the register
    × (map (makers_length zero_slot) (zero_slot ∷ [] ∷ (zero_slot ++ zero_slot) ∷ (0 ∷ zero_slot) ∷ []) ≡ true ∷ false ∷ false ∷ false ∷ [])
    -- 1 register and 1 second; 1 second and 2 register; 2 register and 2 second; zeroing gives 1 only
    × (map (λ B. answer (showing_label 0 B)) (beside [] [] ∷ beside bad_register [] ∷ beside bad_register bad_register ∷ beside zero_slot bad_register ∷ [])
    ≡ refused 1 0 ∷ refused 1 0 ∷ refused 2 0 ∷ refused 2 0 ∷ [])
    × (map (λ B. answer (plan_of_maker zero_makers B)) (beside [] [] ∷ beside bad_register [] ∷ beside bad_register bad_register ∷ [])
    ≡ refused 1 0 ∷ refused 1 0 ∷ done 0 ∷ [])
    -- emptied, or a sheet of one part read: the label of place 2 is left behind, and every place gives 2 until the table is zeroed
    × (map (λ c. maker_answer (xyz_set ∷ of_catalogue c ∷ []) (show_label 1)) (empty_both ∷ read_sheet small_sheet ∷ []) ≡ replicate 2 (refused 2 0))
    × (maker_answer (xyz_set ∷ of_catalogue empty_both ∷ of_makers zero_makers ∷ []) (show_label 1) ≡ refused 11 0)
    × (maker_answer (xyz_set ∷ of_catalogue (read_sheet small_sheet) ∷ of_makers zero_makers ∷ []) (show_label 1) ≡ done 0)
