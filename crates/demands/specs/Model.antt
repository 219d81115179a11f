-- What a catalogue has, and what it is to answer: "what a catalogue has is what its accepted calls entered or read, less what later calls
-- struck out, cleared or replaced by reading a sheet". Read off the calls and their replies, never off a table.
use Rattle.std.specs.Prelude.{◌≡◌, not, ◌*◌, ◌<◌, ◌≤◌, ℕ, get_or, length, replicate, ltb}
use mathlib.Core.List.{List, Memᴰ, [], ◌++◌, ◌∷◌}
use Rattle.ground.specs.Limits.{most_parts, two_limit}
use Rattle.ground.specs.Lists.{keep}
use Rattle.ground.specs.Calls.{Both, Plan, Reply, answer, done, given, memory, plan, refused, set_both, set_down}
use Rattle.ground.specs.Tables.{Tables, tables}
use Rattle.register.specs.Register.{slot_bytes}
use Rattle.kits.specs.Kits.{list_faults, units}
use Rattle.nodes.specs.Nodes.{most_nodes, words_per_node}
use Rattle.nodes.specs.Held.{Kit, drop_kit, first_tag, kits_in_order, tags_of}
use Rattle.shortfalls.specs.Shortfalls.{is_almost, most_short, shorts_of}
use Rattle.pages.specs.Pages.{comes_after, good_bookmark, moved_on, row_shown}
use Rattle.pages.specs.declared.Bookmark.{Bookmark}
use Rattle.sheet.specs.Bytes.{Bytes}
use Rattle.sheet.specs.Sheet.{Contents, without_empty}
use Rattle.sheet.specs.Reading.{decode, said, salvage, rescued}
use Rattle.card.specs.Card.{list_on}
use Rattle.card.specs.Reading.{decode_card, said_card}
use Rattle.catalogue.specs.Calls.{Call, Question, all_almost, all_containing, all_within, any_containing, any_within, contents, count_kits, delete_kit}
use Rattle.catalogue.specs.Calls.{empty_both, find_kit, insert_kit, look_up, plan_of, read_card, read_sheet, register_part, salvage_sheet, show_at, turn_containing}
use Rattle.catalogue.specs.Calls.{turn_within, write_card, write_sheet}

abbrev pub has : List (List ℕ) → List Kit → Contents
has ps ks = record { parts = ps; kits = ks }

-- with a kit more
abbrev pub more : Contents → List ℕ → ℕ → Contents
more m l t = has m.parts (record { row = units l; tag = t } ∷ m.kits)

-- a kit without a unit, and with this tag
abbrev pub empty_kit : ℕ → Kit
empty_kit t = record { row = []; tag = t }

unfoldable pub accepted : Call → Contents → Contents
accepted empty_both m = has [] []
accepted (register_part n) m = has (m.parts ++ (n ∷ [])) m.kits
accepted (look_up n) m = m
accepted (show_at p) m = m
accepted (insert_kit l t) m = more m l t
accepted (find_kit l) m = m
accepted (delete_kit l) m = has m.parts (drop_kit (units l) m.kits)
accepted (count_kits l) m = m
accepted (any_within l) m = m
accepted (any_containing l) m = m
accepted (all_within l o) m = m
accepted (all_containing l o) m = m
accepted (all_almost d l o) m = m
accepted (turn_within l b) m = m
accepted (turn_containing l b) m = m
accepted (write_sheet o) m = m
accepted (read_sheet s) m = without_empty (said (decode s))
-- request 12: "Demand 3 takes what is kept as read, the torn sheet not as accepted"
accepted (salvage_sheet s) m = without_empty (rescued (salvage s)).kept
accepted (write_card l o) m = m
-- request 5: a card read is its list inserted
accepted (read_card s) m = more m (list_on m.parts (said_card (decode_card s))) (said_card (decode_card s)).tag

unfoldable pub step : Call → Reply → Contents → Contents
step c (done v) m = accepted c m
step c (refused n v) m = m

unfoldable pub model : List (Call × Reply) → Contents → Contents
model [] m = m
model (x ∷ xs) m = model xs (step x.0 x.1 m)

-- the tables after some calls, and what was answered
unfoldable pub run : List Call → Tables → Tables
run [] T = T
run (c ∷ cs) T = run cs (memory (plan_of c T) T)

unfoldable pub log : List Call → Tables → List (Call × Reply)
log [] T = []
log (c ∷ cs) T = (c, answer (plan_of c T)) ∷ log cs (memory (plan_of c T) T)

-- a call that reads s
pub data ReadsBytes (s : List ℕ) : Call → Type 0 where
  sheet : ReadsBytes s (read_sheet s)
  torn : ReadsBytes s (salvage_sheet s)
  card : ReadsBytes s (read_card s)

-- what the types say: of a call, that a tag is a 16-bit number and what it reads is bytes; of lent tables, that the nodes are 16-bit words
pub record TypesSay (c : Call) : Type 0 where
  pub tag : (l : List ℕ) (t : ℕ) → insert_kit l t ≡ c → t < two_limit
  pub bytes : (s : List ℕ) → ReadsBytes s c → Bytes s

abbrev pub Words : Tables → Type 0
Words T = (i : ℕ) → get_or T.nodes i 0 < two_limit

-- "each begun empty and brought on by its own calls, refused ones among them": with room for so many parts and nodes
pub record Catalogue : Type 0 where
  pub slots : ℕ
  pub room : ℕ
  pub calls : List Call

-- of an allowed size; and what the types of the calls say
pub record Allowed (a : Catalogue) : Type 0 where
  pub some_slot : 1 ≤ a.slots
  pub few_slots : a.slots ≤ most_parts
  pub some_node : 1 ≤ a.room
  pub few_nodes : a.room ≤ most_nodes
  pub typed : (c : Call) → Memᴰ c a.calls → TypesSay c

unfoldable pub begun : Catalogue → Tables
begun a = tables (replicate (a.slots * slot_bytes) 0) (replicate (a.room * words_per_node) 0)

unfoldable pub tables_of : Catalogue → Tables
tables_of a = run a.calls (begun a)

unfoldable pub entered : Catalogue → Contents
entered a = model (log a.calls (begun a)) (has [] [])

-- the same, the kits in listing order
abbrev pub listed_in : Contents → Contents
listed_in m = has m.parts (kits_in_order m.kits)

-- [14.5] what its tables have. Proof: Answers, `has_what_was_entered`
abbrev pub HasWhatWasEntered : Type 0
HasWhatWasEntered = (a : Catalogue) → Allowed a → contents (tables_of a) ≡ listed_in (entered a)

------------------------------------------------------------------------
-- What is asked of some contents

-- the kits that answer a question, in listing order
unfoldable pub answering : Question → List ℕ → Contents → List Kit
answering question l m = keep (question (units l)) (kits_in_order m.kits)

-- all of them set down in an output: their tags
abbrev pub listing_of : Question → List ℕ → Contents → List ℕ → Plan (List ℕ)
listing_of question l m o = set_down (list_faults (length m.parts) l) (tags_of (answering question l m)) o

-- the kits that a bin almost fills, set down in two: their tags and shortfalls
abbrev pub almost_of : ℕ → List ℕ → Contents → Both → Plan Both
almost_of d bin m o =
    let ks = answering (is_almost d) bin m in
    set_both (list_faults (length m.parts) bin ++ (given (ltb most_short d) 14 0 ∷ [])) (tags_of ks) (shorts_of (units bin) ks) o

-- the page behind a bookmark: the first of those that answer and come after its row
abbrev pub page_of : Question → List ℕ → Contents → Bookmark → Plan Bookmark
page_of question l m b =
    let ks = keep (comes_after (row_shown b)) (answering question l m) in
    plan (list_faults (length m.parts) l ++ (given (not (good_bookmark (length m.parts) b)) 15 0 ∷ [])) (first_tag ks) (moved_on b ks)
