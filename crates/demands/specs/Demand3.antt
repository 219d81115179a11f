-- DEMAND 3: "Take two catalogues, each begun empty and brought on by its own calls .. The two sheets agree in every byte exactly when the part
-- lists agree in order and the kits agree with their tags .. A sheet that was accepted and is written again, with room, is the same sheet,
-- and no second accepted sheet means the same." And request 14: a kit is one with at least one unit, and the last sentence "holds for sheets without
-- an empty kit".
use Rattle.std.specs.Prelude.{◌≡◌, ◌↔◌, ◌+◌, ◌<◌, ◌≤◌, ℕ, drop, length, take}
use mathlib.Core.List.{List, Memᴰ, ◌++◌, ◌∷◌}
use Rattle.ground.specs.Calls.{answer, done, memory}
use Rattle.ground.specs.Tables.{Tables}
use Rattle.nodes.specs.Held.{Kit, tag_in, with_units}
use Rattle.sheet.specs.Bytes.{Bytes, two}
use Rattle.sheet.specs.Sheet.{Contents, encode, mark, number_items, record_items, version, without_empty}
use Rattle.sheet.specs.Reading.{decode, said}
use Rattle.sheet_read.specs.Filling.{Roomy}
use Rattle.catalogue.specs.Calls.{contents, reading, writing}
use Rattle.demands.specs.Model.{Allowed, Catalogue, Words, empty_kit, entered, listed_in, tables_of}

-- s is the sheet that a catalogue writes at the start of the output o, "with enough room to write its sheet"; what lies behind it stays
pub record Writes (T : Tables) (o s : List ℕ) : Type 0 where
  pub written : answer (writing T o) ≡ done (length s)
  pub is : take (length s) (memory (writing T o) o) ≡ s
  pub behind : drop (length s) (memory (writing T o) o) ≡ drop (length s) o

-- "the part lists agree in order and the kits agree with their tags"
pub record Agree (m m' : Contents) : Type 0 where
  pub parts : m.parts ≡ m'.parts
  pub kits : (r : List ℕ) → tag_in r m.kits ≡ tag_in r m'.kits

-- [14.10] "The two sheets agree in every byte exactly when the part lists agree in order and the kits agree with their tags". Proof: Sheets,
-- `sheets_tell`
abbrev pub SheetsTell : Type 0
SheetsTell =
    (a b : Catalogue) (o p s t : List ℕ) → Allowed a → Allowed b → Writes (tables_of a) o s → Writes (tables_of b) p t → (s ≡ t) ↔ Agree
    (entered a) (entered b)

-- [14.10] and so the sheets of any tables, also of those from before that hold an empty kit: by the parts, and by the kits with a unit. Proof:
-- Sheets, `any_sheets_tell`
abbrev pub AnySheetsTell : Type 0
AnySheetsTell =
    (T U : Tables) (o p s t : List ℕ) → Words T → Words U → Writes T o s → Writes U p t → (s ≡ t) ↔ Agree (contents T) (contents U)

-- [14.11] (so that this is not empty) a catalogue writes its sheet into every output with room. Proof: Sheets, `sheet_is_written`
abbrev pub SheetIsWritten : Type 0
SheetIsWritten =
    (a : Catalogue) (o : List ℕ) → Allowed a → length (encode (listed_in (entered a))) ≤ length o → Writes (tables_of a) o
    (encode (listed_in (entered a)))

-- [14.11] (so that what is said of reading is not empty) what a catalogue writes, read into any tables of right lengths with room, is
-- accepted, with the number of its kits as the value, and the tables then have the same. Proof: Sheets, `read_back`
abbrev pub ReadBack : Type 0
ReadBack =
    (a : Catalogue) (o s : List ℕ) (T : Tables) → Allowed a → Writes (tables_of a) o s → Roomy (entered a) T →
    (answer (reading s T) ≡ done (length (entered a).kits)) × (contents (memory (reading s T) T) ≡ contents (tables_of a))

-- a sheet without an empty kit
abbrev pub NoEmpty : List ℕ → Type 0
NoEmpty s = (k : Kit) → Memᴰ k (said (decode s)).kits → 0 < length k.row

-- [14.29] "The writer leaves it out", whatever the tables hold. Proof: Sheets, `left_out`
abbrev pub LeftOut : Type 0
LeftOut = (T : Tables) (o s : List ℕ) → Words T → Writes T o s → NoEmpty s

-- [14.12] "A sheet that was accepted and is written again, with room, is the same sheet": "holds for sheets without an empty kit". Proof: Sheets,
-- `same_again`, `no_other`
abbrev pub SameAgain : Type 0
SameAgain =
    (T : Tables) (o s : List ℕ) (k : ℕ) → Bytes s → NoEmpty s → answer (reading s T) ≡ done k → length s ≤ length o →
    Writes (memory (reading s T) T) o s

-- [14.12] (and no other is written)
abbrev pub NoOther : Type 0
NoOther =
    (T : Tables) (o s t : List ℕ) (k : ℕ) → Bytes s → NoEmpty s → answer (reading s T) ≡ done k → Writes (memory (reading s T) T) o t → t ≡ s

-- [14.13] "and no second accepted sheet means the same", of what reading takes. Proof: Sheets, `no_second`
abbrev pub NoSecond : Type 0
NoSecond =
    (T U : Tables) (s t : List ℕ) (k n : ℕ) → Bytes s → Bytes t → NoEmpty s → NoEmpty t → answer (reading s T) ≡ done k →
    answer (reading t U) ≡ done n → Agree (without_empty (said (decode s))) (without_empty (said (decode t))) → s ≡ t

-- the bytes before a sheet's kit count
abbrev pub before_count : List (List ℕ) → List ℕ
before_count ps = mark ++ (two (version (length ps)) ++ (two (length ps) ++ number_items ps))

-- [14.29] "Reading .. accept an old sheet that has one, drop it": written again, with room, it is the same without that record, which is the first, a tag
-- and no line, and with the count one less. Proof: Sheets, `again_without`
abbrev pub AgainWithout : Type 0
AgainWithout =
    (T : Tables) (o s : List ℕ) (k t : ℕ) → Bytes s → answer (reading s T) ≡ done k →
    Memᴰ (empty_kit t) (said (decode s)).kits → length s ≤ length o →
    let ps = (said (decode s)).parts in
    let rest = record_items (version (length ps)) (with_units (said (decode s)).kits) in
    (s ≡ before_count ps ++ (two (k + 1) ++ (two t ++ (0 ∷ rest))))
    × Writes (memory (reading s T) T) o (before_count ps ++ (two k ++ rest))
