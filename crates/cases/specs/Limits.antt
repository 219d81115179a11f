-- Every limit of documents 01 and 02, on both sides of its bound, and every pair of neighbours in its order of refusals, in literal numbers, to be held
-- against the document's words. Computed. Proof: proofs/Limits, `limits`
use Rattle.std.specs.Prelude.{◌≡◌, List, [], ◌∷◌, ◌++◌, map, ℕ, zero, suc, ◌+◌, ◌-◌, ◌*◌, ◌/◌, ◌%◌, take, replicate, eqb}
use Rattle.ground.specs.Lists.{from, keep, concat}
use Rattle.ground.specs.Calls.{Reply, done, refused, number_of, value_of, decide, answer, memory, both}
use Rattle.ground.specs.Tables.{Tables, tables}
use Rattle.register.specs.Calls.{registering, looking_up, showing}
use Rattle.kits.specs.Kits.{line_value, list_faults}
use Rattle.nodes.specs.Nodes.{words_per_node}
use Rattle.nodes.specs.Held.{Kit}
use Rattle.questions.specs.Questions.{is_within, is_containing}
use Rattle.sheet.specs.Sheet.{Contents, encode}
use Rattle.sheet.specs.Reading.{item, records, decode}
use Rattle.catalogue.specs.Calls.{Call, register_part, insert_kit, delete_kit, emptying, inserting, finding, any_kit, all_kits, almost_kits, reading, counting}
use Rattle.demands.specs.Model.{has, tables_of}

-- tables of so many bytes and words, all zero, and of so many slots and nodes
abbrev pub zero_tables : ℕ → ℕ → Tables
zero_tables r n = tables (replicate r 0) (replicate n 0)

abbrev pub empty_tables : ℕ → ℕ → Tables
empty_tables slots nodes = zero_tables (slots * 32) (nodes * words_per_node)

------------------------------------------------------------------------
-- "A part number is 1 to 24 bytes, each a digit, a capital A to Z, hyphen, full stop or slash." "The letters a to z join the allowed bytes."

unfoldable pub registered_alone : List ℕ → Reply
registered_alone n = answer (registering n (replicate 32 0))

-- the bytes that registration answers with this number, where each is a number by itself
unfoldable pub bytes_with : ℕ → List ℕ
bytes_with k = keep (λ b. eqb k (number_of (registered_alone (b ∷ [])))) (from 0 256)

abbrev pub NumberLimits : Type 0
NumberLimits =
    (registered_alone [] ≡ refused 3 0)
    × (registered_alone (replicate 24 0x41) ≡ done 1)
    × (registered_alone (replicate 25 0x41) ≡ refused 3 0)
    -- of all bytes: 0 to 9, A to Z, a to z
    × (bytes_with 0 ≡ from 0x30 10 ++ (from 0x41 26 ++ from 0x61 26))
    -- "Registration refuses a number whose first or last byte is a hyphen, full stop or slash"
    × (bytes_with 16 ≡ from 0x2D 3)
    × (map registered_alone ((0x2D ∷ 0x41 ∷ []) ∷ (0x41 ∷ 0x2E ∷ []) ∷ (0x2F ∷ 0x41 ∷ 0x2F ∷ []) ∷ (replicate 23 0x41 ++ (0x2D ∷ [])) ∷ [])
    ≡ replicate 4 (refused 16 0))
    × (registered_alone (0x41 ∷ 0x2D ∷ 0x2E ∷ 0x2F ∷ 0x41 ∷ []) ≡ done 1)

------------------------------------------------------------------------
-- "Its length is a multiple of 32 from 32 ..", and request 10: "The register may be up to 128,000 bytes, 4,000 slots." "Lent 16-bit words .. 1 to
-- 4,096 nodes." Request 7: "the table's length becomes a multiple of 7, up to 28,672 words."

abbrev pub LengthLimits : Type 0
LengthLimits =
    (answer (emptying (empty_tables 4000 4096)) ≡ done 0)
    × (answer (emptying (empty_tables 4001 1)) ≡ refused 1 0)
    × (answer (emptying (empty_tables 1 4097)) ≡ refused 1 0)
    × (answer (emptying (zero_tables 32 28672)) ≡ done 0)
    × (answer (emptying (zero_tables 32 7)) ≡ done 0)
    × (answer (emptying (zero_tables 0 7)) ≡ refused 1 0)
    × (answer (emptying (zero_tables 32 0)) ≡ refused 1 0)
    × (answer (emptying (zero_tables 33 7)) ≡ refused 1 0)
    × (answer (emptying (zero_tables 32 6)) ≡ refused 1 0)
    × (answer (emptying (zero_tables 32 8)) ≡ refused 1 0)

------------------------------------------------------------------------
-- "depth one more than its parent's and at most 64", "no path has more than 15 equal labels"

-- the five parts A to E, and so many nodes
unfoldable pub five_parts : ℕ → Tables
five_parts n = tables_of (record { slots = 5; room = n; calls = map (λ b. register_part (b ∷ [])) (from 0x41 5) })

-- the n nodes of a path from node i on, so many of them to a label; the last has the tag 9
unfoldable pub path_from : ℕ → ℕ → ℕ → List ℕ
path_from each i zero = []
path_from each i (suc zero) = (i - 1) ∷ 0 ∷ 0 ∷ ((i - 1) / each + 1) ∷ i ∷ 9 ∷ 1 ∷ []
path_from each i (suc (suc n)) = (i - 1) ∷ (i + 1) ∷ 0 ∷ ((i - 1) / each + 1) ∷ i ∷ 0 ∷ 1 ∷ path_from each (i + 1) (suc n)

-- what is answered of the empty kit: it is not held, or the table is not sound
unfoldable pub path_answer : ℕ → ℕ → Reply
path_answer each n = answer (finding [] (tables (five_parts 1).register (0 ∷ 1 ∷ 0 ∷ 0 ∷ 0 ∷ 0 ∷ 1 ∷ path_from each 1 n)))

abbrev pub PathLimits : Type 0
PathLimits =
    (path_answer 15 64 ≡ refused 11 0)
    × (path_answer 15 65 ≡ refused 2 0)
    × (path_answer 16 15 ≡ refused 11 0)
    × (path_answer 16 16 ≡ refused 2 0)

------------------------------------------------------------------------
-- "Places strictly rise; each quantity is 1 to 15. An empty list is good." "then 4 for odd length; then line by line 4, 5, 6". Request 2: "Refusals
-- 4, 5 and 6 should carry the line, counted from 1, as their value; an odd list is charged to the line that lacks its quantity"

unfoldable pub list_answer : List ℕ → Reply
list_answer l = answer (any_kit is_within l (five_parts 1))

abbrev pub ListLimits : Type 0
ListLimits =
    (map list_answer ([] ∷ (1 ∷ 1 ∷ []) ∷ (1 ∷ 15 ∷ []) ∷ (5 ∷ 1 ∷ []) ∷ (1 ∷ 1 ∷ 2 ∷ 1 ∷ []) ∷ []) ≡ replicate 5 (done 0))
    -- 4: odd, place 0, equal, falling; each beside a quantity that is wrong
    × (map list_answer ((1 ∷ []) ∷ (1 ∷ 0 ∷ 2 ∷ []) ∷ (0 ∷ 0 ∷ []) ∷ (1 ∷ 1 ∷ 1 ∷ 0 ∷ []) ∷ (2 ∷ 1 ∷ 1 ∷ 0 ∷ []) ∷ [])
    ≡ refused 4 1 ∷ refused 4 2 ∷ refused 4 1 ∷ refused 4 2 ∷ refused 4 2 ∷ [])
    -- 5: beyond the parts; beside a wrong quantity, and before the next line's 4
    × (map list_answer ((6 ∷ 1 ∷ []) ∷ (6 ∷ 16 ∷ []) ∷ (6 ∷ 1 ∷ 6 ∷ 1 ∷ []) ∷ (1 ∷ 1 ∷ 6 ∷ 1 ∷ []) ∷ [])
    ≡ refused 5 1 ∷ refused 5 1 ∷ refused 5 1 ∷ refused 5 2 ∷ [])
    -- 6: below 1, above 15, and before the next line's 4
    × (map list_answer ((1 ∷ 0 ∷ []) ∷ (1 ∷ 16 ∷ []) ∷ (1 ∷ 16 ∷ 1 ∷ 1 ∷ []) ∷ (1 ∷ 1 ∷ 2 ∷ 1 ∷ 3 ∷ 16 ∷ []) ∷ [])
    ≡ refused 6 1 ∷ refused 6 1 ∷ refused 6 1 ∷ refused 6 3 ∷ [])

-- n good lines from place p on, one of each
unfoldable pub rising_lines : ℕ → ℕ → List ℕ
rising_lines p zero = []
rising_lines p (suc n) = p ∷ 1 ∷ rising_lines (suc p) n

-- what the check of a list says beside 4,000 parts, the most that a register has
unfoldable pub check_answer : List ℕ → Reply
check_answer l = decide (list_faults 4000 l) 0

abbrev pub LineLimits : Type 0
LineLimits =
    -- 4,000 lines: good; at fault on the first, on the last, on both; odd
    (check_answer (rising_lines 1 4000) ≡ done 0)
    × (check_answer (1 ∷ 0 ∷ rising_lines 2 3999) ≡ refused 6 1)
    × (check_answer (rising_lines 1 3999 ++ (4000 ∷ 16 ∷ [])) ≡ refused 6 4000)
    × (check_answer (rising_lines 1 3999 ++ (4001 ∷ 16 ∷ [])) ≡ refused 5 4000)
    × (check_answer (rising_lines 1 3999 ++ (3999 ∷ 16 ∷ [])) ≡ refused 4 4000)
    × (check_answer (0 ∷ 1 ∷ (rising_lines 1 3998 ++ (4001 ∷ 1 ∷ []))) ≡ refused 4 1)
    × (check_answer (0 ∷ 1 ∷ (rising_lines 1 3998 ++ (4000 ∷ []))) ≡ refused 4 4000)
    -- "4,294,967,295 standing for any later line too"
    × (map line_value (1 ∷ 4294967294 ∷ 4294967295 ∷ 4294967296 ∷ 10000000000 ∷ [])
    ≡ 1 ∷ 4294967294 ∷ 4294967295 ∷ 4294967295 ∷ 4294967295 ∷ [])

------------------------------------------------------------------------
-- "A kit is at most 64 units"; "insertion needs more nodes than are free (value: how many too few)"; "an output exactly full and one short"

-- 60 units, and so many of part E
abbrev pub sixty_and : ℕ → List ℕ
sixty_and n = 1 ∷ 15 ∷ 2 ∷ 15 ∷ 3 ∷ 15 ∷ 4 ∷ 15 ∷ 5 ∷ n ∷ []

-- two kits in the room of three nodes: A with the tag 1, and A A with the tag 2
unfoldable pub two_kits : Tables
two_kits = tables_of (record {
  slots = 1;
  room = 3;
  calls = register_part (0x41 ∷ []) ∷ insert_kit (1 ∷ 1 ∷ []) 1 ∷ insert_kit (1 ∷ 2 ∷ []) 2 ∷ [];
})

abbrev pub RoomLimits : Type 0
RoomLimits =
    (answer (inserting (sixty_and 4) 7 (five_parts 65)) ≡ done 64)
    × (answer (inserting (sixty_and 4) 7 (five_parts 64)) ≡ refused 12 1)
    × (answer (inserting (sixty_and 5) 7 (five_parts 66)) ≡ refused 7 0)
    × (answer (finding (sixty_and 5) (five_parts 1)) ≡ refused 11 0)
    × (answer (all_kits is_containing [] two_kits (0 ∷ 0 ∷ [])) ≡ done 2)
    × (answer (all_kits is_containing [] two_kits (0 ∷ [])) ≡ refused 12 2)

------------------------------------------------------------------------
-- "Order: 1 register, 1 nodes, 2 register, 2 nodes (of the tables lent), then 8; then 4 for odd length; .. then 7, 9, 10, 11, 12. For numbers:
-- 3, then 9 or 11, then 12. Reading: 1 for each table, then 13, then 12", and request 14's "19 .., after 7 and before 9": two faults at once, and the
-- first is answered

-- a register of one slot that is not sound, and a node table of one node that is not
abbrev pub bad_register : List ℕ
bad_register = replicate 32 1

abbrev pub bad_nodes : List ℕ
bad_nodes = 1 ∷ replicate (words_per_node - 1) 0

abbrev pub OrderOfRefusals : Type 0
OrderOfRefusals =
    -- 1 nodes and 2 register; 1 register and 2 nodes
    (answer (finding [] (tables bad_register [])) ≡ refused 1 0)
    × (answer (finding [] (tables [] bad_nodes)) ≡ refused 1 0)
    -- 2 register and 8; 2 nodes and 8; 8 and 4; 6 and 7
    × (answer (inserting [] 0 (tables bad_register (replicate words_per_node 0))) ≡ refused 2 0)
    × (answer (inserting [] 0 (tables (replicate 32 0) bad_nodes)) ≡ refused 2 0)
    × (answer (inserting (1 ∷ []) 0 two_kits) ≡ refused 8 0)
    × (answer (inserting (sixty_and 16) 7 (five_parts 1)) ≡ refused 6 5)
    -- 8 and 19; 19 and 10 (19 and 9: Requests, `EmptyCases`)
    × (answer (inserting [] 0 two_kits) ≡ refused 8 0)
    × (answer (inserting [] 2 two_kits) ≡ refused 19 0)
    -- 7 and 12; 9 and 10; 10 and 12; 12 alone
    × (answer (inserting (sixty_and 5) 7 (five_parts 1)) ≡ refused 7 0)
    × (answer (inserting (1 ∷ 1 ∷ []) 2 two_kits) ≡ refused 9 1)
    × (answer (inserting (1 ∷ 3 ∷ []) 2 two_kits) ≡ refused 10 0)
    × (answer (inserting (1 ∷ 4 ∷ []) 3 two_kits) ≡ refused 12 2)
    -- listings: 6 and 12; 6 and 14; 14 and 12
    × (answer (all_kits is_containing (1 ∷ 0 ∷ []) two_kits []) ≡ refused 6 1)
    × (answer (almost_kits 65 (1 ∷ 0 ∷ []) two_kits (both [] [])) ≡ refused 6 1)
    × (answer (almost_kits 65 [] two_kits (both [] [])) ≡ refused 14 0)
    × (answer (almost_kits 64 [] two_kits (both [] [])) ≡ refused 12 2)
    -- numbers: 1 and 3; 2 and 3; 3, 16 and 12; 16 and 12; 9 and 12; 12 alone; 11
    × (answer (registering [] []) ≡ refused 1 0)
    × (answer (registering [] bad_register) ≡ refused 2 0)
    × (answer (registering (0x5F ∷ 0x2D ∷ []) two_kits.register) ≡ refused 3 0)
    × (answer (registering (0x2D ∷ []) two_kits.register) ≡ refused 16 0)
    × (answer (registering (0x41 ∷ []) two_kits.register) ≡ refused 9 1)
    × (answer (registering (0x42 ∷ []) two_kits.register) ≡ refused 12 1)
    × (answer (looking_up (0x42 ∷ []) two_kits.register) ≡ refused 11 0)
    -- places: 2 and 11; 0, the last and one beyond
    × (answer (showing 0 bad_register) ≡ refused 2 0)
    × (map (λ p. number_of (answer (showing p two_kits.register))) (0 ∷ 1 ∷ 2 ∷ []) ≡ 11 ∷ 0 ∷ 11 ∷ [])

------------------------------------------------------------------------
-- "parent, first child, next sibling, label, depth, tag", and "the number of tagged nodes at or below it". "Insertion takes missing nodes from shallow
-- to deep, each the lowest numbered free one." "Freed nodes are used again."

-- the words of five nodes, after some calls behind the registration of three parts
unfoldable pub words_after : List Call → List ℕ
words_after cs = (tables_of (record {
  slots = 3;
  room = 5;
  calls = register_part (0x41 ∷ []) ∷ register_part (0x42 ∷ []) ∷ register_part (0x43 ∷ []) ∷ cs;
})).nodes

abbrev pub two_entered : List Call
two_entered = insert_kit (1 ∷ 2 ∷ []) 7 ∷ insert_kit (2 ∷ 1 ∷ []) 8 ∷ []

abbrev pub NodeWords : Type 0
NodeWords =
    (words_after two_entered ≡ 0 ∷ 1 ∷ 0 ∷ 0 ∷ 0 ∷ 0 ∷ 2
    ∷ 0 ∷ 2 ∷ 3 ∷ 1 ∷ 1 ∷ 0 ∷ 1
    ∷ 1 ∷ 0 ∷ 0 ∷ 1 ∷ 2 ∷ 7 ∷ 1
    ∷ 0 ∷ 0 ∷ 0 ∷ 2 ∷ 1 ∷ 8 ∷ 1
    ∷ replicate 7 0)
    × (words_after (two_entered ++ (delete_kit (1 ∷ 2 ∷ []) ∷ [])) ≡ 0 ∷ 3 ∷ 0 ∷ 0 ∷ 0 ∷ 0 ∷ 1
    ∷ (replicate 14 0 ++ (0 ∷ 0 ∷ 0 ∷ 2 ∷ 1 ∷ 8 ∷ 1
    ∷ replicate 7 0)))
    × (words_after (two_entered ++ (delete_kit (1 ∷ 2 ∷ []) ∷ insert_kit (3 ∷ 1 ∷ []) 9 ∷ [])) ≡ 0 ∷ 3 ∷ 0 ∷ 0 ∷ 0 ∷ 0 ∷ 2
    ∷ 0 ∷ 0 ∷ 0 ∷ 3 ∷ 1 ∷ 9 ∷ 1
    ∷ (replicate 7 0 ++ (0 ∷ 0 ∷ 1 ∷ 2 ∷ 1 ∷ 8 ∷ 1
    ∷ replicate 7 0)))

------------------------------------------------------------------------
-- Request 7: "the number of tagged nodes at or below it. Soundness requires it, free nodes keep seven zeros", "the count for a list's units as a
-- beginning, 0 where no such path exists"

-- the kits A, A A B and B, with these numbers at the root, at A, A A, A A B and B, and of a free node
unfoldable pub with_numbers : ℕ → ℕ → ℕ → ℕ → ℕ → ℕ → Tables
with_numbers root a aa aab b free = tables (five_parts 1).register
    (0 ∷ 1 ∷ 0 ∷ 0 ∷ 0 ∷ 0 ∷ root
    ∷ 0 ∷ 2 ∷ 4 ∷ 1 ∷ 1 ∷ 9 ∷ a
    ∷ 1 ∷ 3 ∷ 0 ∷ 1 ∷ 2 ∷ 0 ∷ aa
    ∷ 2 ∷ 0 ∷ 0 ∷ 2 ∷ 3 ∷ 7 ∷ aab
    ∷ 0 ∷ 0 ∷ 0 ∷ 2 ∷ 1 ∷ 5 ∷ b
    ∷ 0 ∷ 0 ∷ 0 ∷ 0 ∷ 0 ∷ 0 ∷ free ∷ [])

-- a kit of 64 units
unfoldable pub long_kit : Tables
long_kit = memory (inserting (sixty_and 4) 7 (five_parts 65)) (five_parts 65)

abbrev pub CountLimits : Type 0
CountLimits =
    (answer (counting [] (with_numbers 3 2 1 1 1 0)) ≡ done 3)
    -- a number that is wrong: at the root, in the middle, at a leaf, of a free node, at a leaf and carried up
    × (map (λ T. answer (counting [] T)) (with_numbers 4 2 1 1 1 0 ∷ with_numbers 3 2 2 1 1 0 ∷ with_numbers 3 2 1 0 1 0 ∷ with_numbers 3 2 1 1 1 1
    ∷ with_numbers 4 3 2 2 1 0 ∷ [])
    ≡ replicate 5 (refused 2 0))
    -- 63 units, 64 and 65
    × (map (λ n. answer (counting (sixty_and n) long_kit)) (3 ∷ 4 ∷ 5 ∷ []) ≡ done 1 ∷ done 1 ∷ done 0 ∷ [])

------------------------------------------------------------------------
-- The sheet: "13's value is the offset where the first faulty item starts", and what reading needs

-- the parts a and b, and the kits (1) and (2) with the tags t and u
abbrev pub sample_sheet : ℕ → ℕ → ℕ → ℕ → List ℕ
sample_sheet a b t u =
    0x4B ∷ 0x49 ∷ 0x54 ∷ 0 ∷ 1 ∷ 0 ∷ 2 ∷ 1 ∷ a ∷ 1 ∷ b ∷ 0 ∷ 2 ∷ 0 ∷ t ∷ 1 ∷ 1 ∷ 1 ∷ 0 ∷ u ∷ 1 ∷ 2 ∷ 1 ∷ []

unfoldable pub read_in : ℕ → ℕ → List ℕ → Reply
read_in slots nodes s = answer (reading s (empty_tables slots nodes))

-- three parts, and three kits that need five nodes
abbrev pub larger_sheet : List ℕ
larger_sheet = encode (has ((0x41 ∷ []) ∷ (0x42 ∷ []) ∷ (0x43 ∷ []) ∷ [])
    (record { row = 1 ∷ []; tag = 9 } ∷ record { row = 1 ∷ 1 ∷ 3 ∷ []; tag = 7 } ∷ record { row = 2 ∷ []; tag = 5 } ∷ []))

abbrev pub SheetLimits : Type 0
SheetLimits =
    (read_in 2 3 (sample_sheet 0x41 0x42 7 9) ≡ done 2)
    -- cut at every byte: mark, version, part count, two numbers, kit count, two records
    × (map (λ n. value_of (read_in 2 3 (take n (sample_sheet 0x41 0x42 7 9)))) (from 0 23)
    ≡ replicate 3 0 ++ (3 ∷ 3 ∷ 5 ∷ 5 ∷ 7 ∷ 7 ∷ 9 ∷ 9 ∷ 11 ∷ 11 ∷ (replicate 5 13 ++ replicate 5 18)))
    -- bytes behind the end; a bad number; a number twice; tag 0; a tag twice
    × (read_in 2 3 (sample_sheet 0x41 0x42 7 9 ++ (0 ∷ [])) ≡ refused 13 23)
    × (read_in 2 3 (sample_sheet 0x40 0x42 7 9) ≡ refused 13 7)
    × (read_in 2 3 (sample_sheet 0x41 0x41 7 9) ≡ refused 13 9)
    × (read_in 2 3 (sample_sheet 0x41 0x42 0 9) ≡ refused 13 13)
    × (read_in 2 3 (sample_sheet 0x41 0x42 7 7) ≡ refused 13 18)
    -- 1 and 13; 13 and 12; slots' 12 and nodes' 12; nodes' 12; just enough
    × (read_in 0 3 [] ≡ refused 1 0)
    × (read_in 1 1 (sample_sheet 0x41 0x42 7 9 ++ (0 ∷ [])) ≡ refused 13 23)
    × (read_in 2 4 larger_sheet ≡ refused 12 3)
    × (read_in 3 4 larger_sheet ≡ refused 12 5)
    × (read_in 3 5 larger_sheet ≡ done 3)

------------------------------------------------------------------------
-- Request 10: "The writer still uses version 1 up to 255 parts and version 2 beyond, where a place takes two bytes; a version 2 sheet with 255 parts or
-- fewer is at fault at its part count." "Refusals: 1, 5 and 13 read the new limit."

-- the bytes K I T, a version and a part count, and nothing behind them
abbrev pub head_of : ℕ → ℕ → ℕ → List ℕ
head_of v high low = 0x4B ∷ 0x49 ∷ 0x54 ∷ 0 ∷ v ∷ high ∷ low ∷ []

-- the numbers AA, AB, .. of two capitals, and the sheet of the first n of them: its head, each with its length, and the rest
unfoldable pub short_number : ℕ → List ℕ
short_number i = (0x41 + i / 16) ∷ (0x41 + i % 16) ∷ []

unfoldable pub short_numbers : ℕ → List (List ℕ)
short_numbers n = map short_number (from 0 n)

unfoldable pub sheet_with : List ℕ → ℕ → List ℕ → List ℕ
sheet_with head n rest = head ++ (concat (map (λ p. 2 ∷ p) (short_numbers n)) ++ rest)

abbrev pub kit_with : List ℕ → ℕ → Kit
kit_with r t = record { row = r; tag = t }

-- 255 parts and a kit with the place 255; 256, and one with the places 255 and 256
abbrev pub narrow_says : Contents
narrow_says = has (short_numbers 255) (kit_with (255 ∷ 255 ∷ []) 258 ∷ [])

abbrev pub narrow_sheet : List ℕ
narrow_sheet = sheet_with (head_of 1 0 255) 255 (0 ∷ 1 ∷ 1 ∷ 2 ∷ 1 ∷ 255 ∷ 2 ∷ [])

abbrev pub wide_says : Contents
wide_says = has (short_numbers 256) (kit_with (255 ∷ 256 ∷ 256 ∷ []) 258 ∷ [])

abbrev pub wide_sheet : List ℕ
wide_sheet = sheet_with (head_of 2 1 0) 256 (0 ∷ 1 ∷ 1 ∷ 2 ∷ 2 ∷ 0 ∷ 255 ∷ 1 ∷ 1 ∷ 0 ∷ 2 ∷ [])

-- of a record beside 4,000 parts, with the tag 9 and one unit of the place in these two bytes: the kits read, and how many records are missing
unfoldable pub wide_record : ℕ → ℕ → List Kit × ℕ
wide_record high low = let r = records 2 1 4000 [] (0 ∷ 9 ∷ 1 ∷ high ∷ low ∷ 1 ∷ []) 0 in (r.kits, r.missing)

abbrev pub VersionLimits : Type 0
VersionLimits =
    -- a good part count, so that what stands behind it is cut: 0 and 255 parts, and 256 and 4,000
    (map (read_in 1 1) (head_of 1 0 0 ∷ head_of 1 0 255 ∷ head_of 2 1 0 ∷ head_of 2 0x0F 0xA0 ∷ []) ≡ replicate 4 (refused 13 7))
    -- 256 and 4,000 in version 1; 0 and 255 in version 2; 4,001 in both; 65,535
    × (map (read_in 1 1) (head_of 1 1 0 ∷ head_of 1 0x0F 0xA0 ∷ head_of 2 0 0 ∷ head_of 2 0 255 ∷ head_of 1 0x0F 0xA1 ∷ head_of 2 0x0F 0xA1 ∷ head_of 2 255 255 ∷ [])
    ≡ replicate 7 (refused 13 5))
    -- the versions 0 and 3, and 512
    × (map (read_in 1 1) (head_of 0 0 1 ∷ head_of 3 0 1 ∷ head_of 3 1 0 ∷ (0x4B ∷ 0x49 ∷ 0x54 ∷ 2 ∷ 0 ∷ 1 ∷ 0 ∷ []) ∷ []) ≡ replicate 4 (refused 13 3))
    -- either sheet as it is written, and read
    × (encode narrow_says ≡ narrow_sheet)
    × (decode narrow_sheet ≡ item narrow_says [] 779)
    × (encode wide_says ≡ wide_sheet)
    × (decode wide_sheet ≡ item wide_says [] 786)
    -- the places 257, 4,000 and 4,001
    × (wide_record 1 1 ≡ (kit_with (257 ∷ []) 9 ∷ [], 0))
    × (wide_record 0x0F 0xA0 ≡ (kit_with (4000 ∷ []) 9 ∷ [], 0))
    × (wide_record 0x0F 0xA1 ≡ ([], 1))

-- [15.1]
abbrev pub Limits : Type 0
Limits =
    NumberLimits × LengthLimits × PathLimits × ListLimits × LineLimits × RoomLimits × OrderOfRefusals × NodeWords × CountLimits × SheetLimits
    × VersionLimits
