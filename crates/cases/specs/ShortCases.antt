-- Document 01, "Short cases to prove": "One statement covers this table". Proof: proofs/ShortCases, `short_cases`. And the desk's worked
-- example, as calls.
use Rattle.std.specs.Prelude.{◌≡◌, List, [], ◌∷◌, ◌++◌, map, ℕ, suc, ◌*◌, length, replicate}
use Rattle.ground.specs.Calls.{Reply, done, refused, answer, memory, Both, both}
use Rattle.kits.specs.Kits.{list_of}
use Rattle.nodes.specs.Nodes.{used_nodes, words_per_node}
use Rattle.questions.specs.Questions.{is_within, is_containing}
use Rattle.ground.specs.Tables.{Tables, tables}
use Rattle.sheet.specs.Sheet.{Contents}
use Rattle.catalogue.specs.Calls.{Question, contents, Call, register_part, insert_kit, delete_kit, any_within, any_containing, all_kits}
use Rattle.catalogue.specs.Calls.{almost_kits, deleting, writing, reading}
use Rattle.demands.specs.Model.{has, log, tables_of}

-- kits inserted by their units, with the tags t, t + 1, ..
unfoldable pub insert_rows : ℕ → List (List ℕ) → List Call
insert_rows t [] = []
insert_rows t (r ∷ rs) = insert_kit (list_of r) t ∷ insert_rows (suc t) rs

-- the tables of a catalogue of the parts A, B, C and four nodes, with kits that have the tags 1, 2, ..
unfoldable pub holding : List (List ℕ) → Tables
holding rs =
    tables_of (record {
      slots = 3;
      room = 4;
      calls = register_part (0x41 ∷ []) ∷ register_part (0x42 ∷ []) ∷ register_part (0x43 ∷ []) ∷ insert_rows 1 rs;
    })

-- the same parts and nodes, and the empty kit alone, which a table from before may hold: its tag, 1, stands at the root
unfoldable pub holding_empty : Tables
holding_empty = tables (holding []).register (0 ∷ 0 ∷ 0 ∷ 0 ∷ 0 ∷ 1 ∷ 1 ∷ replicate 21 0)

-- all kits that answer a question on some units: the reply, and an output of two places
unfoldable pub listed_of : Question → Tables → List ℕ → Reply × List ℕ
listed_of question T r = let p = all_kits question (list_of r) T (0 ∷ 0 ∷ []) in (answer p, memory p (0 ∷ 0 ∷ []))

unfoldable pub listed_by : Question → List (List ℕ) → List ℕ → Reply × List ℕ
listed_by question rs r = listed_of question (holding rs) r

-- a kit deleted: the reply, and the nodes used then
unfoldable pub struck : List (List ℕ) → List ℕ → Reply × ℕ
struck rs r = let p = deleting (list_of r) (holding rs) in (answer p, length (used_nodes (memory p (holding rs)).nodes))

-- [14.16] row by row: kits held (units), question, answer
abbrev pub ShortCases : Type 0
ShortCases =
    -- none; within {1}; none
    (listed_by is_within [] (1 ∷ []) ≡ (done 0, 0 ∷ 0 ∷ []))
    -- (); within (); none, since request 14: "document 01's empty kit within an empty bin now answers none"
    × (listed_of is_within holding_empty [] ≡ (done 0, 0 ∷ 0 ∷ []))
    -- (); containing {1}; none
    × (listed_of is_containing holding_empty (1 ∷ []) ≡ (done 0, 0 ∷ 0 ∷ []))
    -- (1), (1, 1); within {1}; (1)
    × (listed_by is_within ((1 ∷ []) ∷ (1 ∷ 1 ∷ []) ∷ []) (1 ∷ []) ≡ (done 1, 1 ∷ 0 ∷ []))
    -- (1), (1, 1); containing {1}; (1), (1, 1)
    × (listed_by is_containing ((1 ∷ []) ∷ (1 ∷ 1 ∷ []) ∷ []) (1 ∷ []) ≡ (done 2, 1 ∷ 2 ∷ []))
    -- (1, 3); containing {3}; (1, 3)
    × (listed_by is_containing ((1 ∷ 3 ∷ []) ∷ []) (3 ∷ []) ≡ (done 1, 1 ∷ 0 ∷ []))
    -- (2); within {1, 2}; (2)
    × (listed_by is_within ((2 ∷ []) ∷ []) (1 ∷ 2 ∷ []) ≡ (done 1, 1 ∷ 0 ∷ []))
    -- (1, 2), (2); within {2, 3}; (2)
    × (listed_by is_within ((1 ∷ 2 ∷ []) ∷ (2 ∷ []) ∷ []) (2 ∷ 3 ∷ []) ≡ (done 1, 2 ∷ 0 ∷ []))
    -- (1), (1, 2); delete (1), nodes used; 3
    × (struck ((1 ∷ []) ∷ (1 ∷ 2 ∷ []) ∷ []) (1 ∷ []) ≡ (done 1, 3))
    -- (1), (1, 2); delete (1, 2), nodes used; 2
    × (struck ((1 ∷ []) ∷ (1 ∷ 2 ∷ []) ∷ []) (1 ∷ 2 ∷ []) ≡ (done 2, 2))

-- Request 1: the kits that units almost fill but for at most d, the reply and outputs of two places each
unfoldable pub asked_almost : ℕ → List (List ℕ) → List ℕ → Reply × Both
asked_almost d rs r =
    let o = both (0 ∷ 0 ∷ []) (9 ∷ 9 ∷ []) in
    let p = almost_kits d (list_of r) (holding rs) o in
    (answer p, memory p o)

-- [14.16] (1) and (1, 1, 1) lack one unit and three, and three units too many of another part pay for none; (1, 1) and (1, 3) lack one each,
-- whichever part it is. Proof: proofs/ShortCases, `almost_cases`
abbrev pub AlmostCases : Type 0
AlmostCases =
    (asked_almost 0 ((1 ∷ []) ∷ (1 ∷ 1 ∷ 1 ∷ []) ∷ []) (2 ∷ 2 ∷ 2 ∷ []) ≡ (done 0, both (0 ∷ 0 ∷ []) (9 ∷ 9 ∷ [])))
    × (asked_almost 2 ((1 ∷ []) ∷ (1 ∷ 1 ∷ 1 ∷ []) ∷ []) (2 ∷ 2 ∷ 2 ∷ []) ≡ (done 1, both (1 ∷ 0 ∷ []) (1 ∷ 9 ∷ [])))
    × (asked_almost 3 ((1 ∷ []) ∷ (1 ∷ 1 ∷ 1 ∷ []) ∷ []) (2 ∷ 2 ∷ 2 ∷ []) ≡ (done 2, both (1 ∷ 2 ∷ []) (1 ∷ 3 ∷ [])))
    × (asked_almost 1 ((1 ∷ 1 ∷ []) ∷ (1 ∷ 3 ∷ []) ∷ []) (1 ∷ 2 ∷ []) ≡ (done 2, both (1 ∷ 2 ∷ []) (1 ∷ 1 ∷ [])))
    × (asked_almost 65 ((1 ∷ []) ∷ []) (1 ∷ []) ≡ (refused 14 0, both (0 ∷ 0 ∷ []) (9 ∷ 9 ∷ [])))

-- Document 01, "The desk program": the worked example as calls, with room for four parts and six nodes
unfoldable pub entries : List Call
entries =
    register_part (0x30 ∷ 0x30 ∷ 0x37 ∷ 0x34 ∷ 0x31 ∷ [])
    ∷ register_part (0x37 ∷ 0x34 ∷ 0x31 ∷ [])
    ∷ register_part (0x30 ∷ 0x30 ∷ 0x37 ∷ 0x34 ∷ 0x31 ∷ [])
    ∷ register_part (0x34 ∷ 0x30 ∷ 0x31 ∷ 0x36 ∷ [])
    ∷ insert_kit (1 ∷ 2 ∷ 3 ∷ 1 ∷ []) 7
    ∷ insert_kit (1 ∷ 1 ∷ []) 9
    ∷ insert_kit (2 ∷ 1 ∷ []) 5
    ∷ insert_kit (1 ∷ 1 ∷ []) 6
    ∷ insert_kit (3 ∷ 1 ∷ []) 7 ∷ []

unfoldable pub later : List Call
later =
    any_containing (3 ∷ 1 ∷ [])
    ∷ any_within (3 ∷ 1 ∷ [])
    ∷ delete_kit (1 ∷ 2 ∷ 3 ∷ 1 ∷ [])
    ∷ insert_kit (3 ∷ 2 ∷ 3 ∷ 1 ∷ []) 8 ∷ []

-- the tables after some calls, and the replies
unfoldable pub desk : List Call → Tables
desk cs = tables_of (record { slots = 4; room = 6; calls = cs })

unfoldable pub replies : List Call → Tables → List Reply
replies cs T = map (λ x. x.1) (log cs T)

-- the bytes that W writes, and what they say
abbrev pub example_sheet : List ℕ
example_sheet =
    0x4B ∷ 0x49 ∷ 0x54 ∷ 0x00 ∷ 0x01 ∷ 0x00 ∷ 0x03 ∷ 0x05 ∷ 0x30 ∷ 0x30 ∷ 0x37 ∷ 0x34 ∷ 0x31 ∷ 0x03 ∷ 0x37 ∷ 0x34 ∷ 0x31 ∷ 0x04 ∷ 0x34 ∷ 0x30
    ∷ 0x31 ∷ 0x36 ∷ 0x00 ∷ 0x02 ∷ 0x00 ∷ 0x09 ∷ 0x01 ∷ 0x01 ∷ 0x01 ∷ 0x00 ∷ 0x05 ∷ 0x01 ∷ 0x02 ∷ 0x01 ∷ []

abbrev pub example_says : Contents
example_says =
    has ((0x30 ∷ 0x30 ∷ 0x37 ∷ 0x34 ∷ 0x31 ∷ []) ∷ (0x37 ∷ 0x34 ∷ 0x31 ∷ []) ∷ (0x34 ∷ 0x30 ∷ 0x31 ∷ 0x36 ∷ []) ∷ [])
    (record { row = 1 ∷ []; tag = 9 } ∷ record { row = 2 ∷ []; tag = 5 } ∷ [])

-- tables of three slots and three nodes that hold something else
abbrev pub other_tables : Tables
other_tables = tables (replicate 96 7) (replicate (3 * words_per_node) 7)

-- [14.16] the replies, what b lists, the sheet, and the sheet read back. Proof: proofs/ShortCases, `desk_example`
abbrev pub DeskExample : Type 0
DeskExample =
    (replies entries (desk []) ≡ done 1 ∷ done 2 ∷ refused 9 1 ∷ done 3 ∷ done 3 ∷ done 0 ∷ done 1 ∷ refused 9 9 ∷ refused 10 0 ∷ [])
    × (memory (all_kits is_within (1 ∷ 1 ∷ 2 ∷ 4 ∷ []) (desk entries) (0 ∷ 0 ∷ 0 ∷ [])) (0 ∷ 0 ∷ 0 ∷ []) ≡ 9 ∷ 5 ∷ 0 ∷ [])
    × (replies later (desk entries) ≡ done 7 ∷ done 0 ∷ done 7 ∷ refused 4 2 ∷ [])
    × (answer (writing (desk (entries ++ later)) (replicate 34 0)) ≡ done 34)
    × (memory (writing (desk (entries ++ later)) (replicate 34 0)) (replicate 34 0) ≡ example_sheet)
    × (answer (reading example_sheet other_tables) ≡ done 2)
    × (contents (memory (reading example_sheet other_tables) other_tables) ≡ example_says)
