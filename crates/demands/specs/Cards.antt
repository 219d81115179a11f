-- REQUEST 5: "Restorers send us one kit, and their places aren't ours. Make a sibling of the sheet .. so that one kit has one card. Write a card for a held
-- list, value the bytes; read a card into the index, value the nodes taken, by looking each number up and setting the lines in order of place before
-- insertion. Read where the places differ, it gives the same numbers and quantities." What is told from any list of calls: Demand1. The law that proves a
-- statement stands behind "Proof", in proofs/Cards.
use Rattle.std.specs.Prelude.{◌≡◌, ◌↔◌, false, List, [], ◌++◌, map, ◌-◌, ◌<◌, ◌≤◌, ℕ, drop, get_or, length}
use Rattle.ground.specs.Lists.{eq_list, keep}
use Rattle.ground.specs.Calls.{answer, decide, done, memory, refused}
use Rattle.ground.specs.Tables.{Tables}
use Rattle.register.specs.Register.{parts_of, place_in}
use Rattle.kits.specs.Kits.{units}
use Rattle.sheet.specs.Bytes.{Bytes}
use Rattle.sheet.specs.Reading.{fault, is_fault, item}
use Rattle.card.specs.Card.{GoodCard, NamedKit, NamedLine, card_of, encode_card}
use Rattle.card.specs.Reading.{decode_card, said_card}
use Rattle.tables.specs.Lent.{lent_both}
use Rattle.catalogue.specs.Calls.{finding, inserting, list_said, reading_card, tag_said, writing_card}
use Rattle.demands.specs.Model.{Words}

-- the card of a list with a tag in a catalogue
abbrev pub card_in : Tables → List ℕ → ℕ → List ℕ
card_in T l t = encode_card (card_of (parts_of T.register) l t)

-- tables that are lent and not refused
abbrev pub Lent : Tables → Type 0
Lent T = decide (lent_both T) 0 ≡ done 0

------------------------------------------------------------------------
-- The card and its bytes

-- [14.47] a card is faultless exactly when it is the bytes of a kit by numbers that no rule is against; and then it says that kit. Proof: `card_exactly`
abbrev pub CardExactly : Type 0
CardExactly = (s : List ℕ) (c : NamedKit) → Bytes s → (decode_card s ≡ item c [] (length s)) ↔ (GoodCard c × (s ≡ encode_card c))

-- [14.47] "so that one kit has one card": no second card means the same. Proof: `one_card`
abbrev pub OneCard : Type 0
OneCard =
    (s z : List ℕ) → Bytes s → Bytes z → is_fault (decode_card s) ≡ false → is_fault (decode_card z) ≡ false →
    said_card (decode_card s) ≡ said_card (decode_card z) → s ≡ z

------------------------------------------------------------------------
-- Writing

-- [14.48] "Write a card for a held list, value the bytes": exactly where the list is found and its card has room; what lies behind stays. Proof:
-- `card_written`
abbrev pub CardWritten : Type 0
CardWritten =
    (T : Tables) (l o : List ℕ) (t : ℕ) → answer (finding l T) ≡ done t → length (card_in T l t) ≤ length o →
    (answer (writing_card l T o) ≡ done (length (card_in T l t)))
    × (memory (writing_card l T o) o ≡ card_in T l t ++ drop (length (card_in T l t)) o)

-- [14.48] "those of finding a list, then 12 with the bytes needed". Proof: `card_not_written`
abbrev pub CardNotWritten : Type 0
CardNotWritten =
    (T : Tables) (l o : List ℕ) →
    ((n v : ℕ) → answer (finding l T) ≡ refused n v → answer (writing_card l T o) ≡ refused n v)
    × ((t : ℕ) → answer (finding l T) ≡ done t → length o < length (card_in T l t) → answer (writing_card l T o) ≡ refused 12 (length (card_in T l t)))

-- [14.48] what is written is faultless and says the kit, by the numbers of its parts. Proof: `card_says_kit`
abbrev pub CardSaysKit : Type 0
CardSaysKit =
    (T : Tables) (l : List ℕ) (t : ℕ) → Words T → answer (finding l T) ≡ done t →
    decode_card (card_in T l t) ≡ item (card_of (parts_of T.register) l t) [] (length (card_in T l t))

------------------------------------------------------------------------
-- Reading

-- [14.49] "13 with the start of the first faulty item", whatever the numbers are. Proof: `card_thirteen`
abbrev pub CardThirteen : Type 0
CardThirteen = (s : List ℕ) (T : Tables) (v : ℕ) → (answer (reading_card s T) ≡ refused 13 v) ↔ (Lent T × (decode_card s ≡ fault v))

-- line k of a card, counted from 1
abbrev pub line_of : List ℕ → ℕ → NamedLine
line_of s k = get_or (said_card (decode_card s)).lines (k - 1) (record { number = []; quantity = 0 })

abbrev pub Registered : Tables → NamedLine → Type 0
Registered T x = 0 < place_in x.number (parts_of T.register)

-- [14.49] "then 11 for an unregistered number, value its line": the first such, of a faultless card. Proof: `card_eleven`
abbrev pub CardEleven : Type 0
CardEleven =
    (s : List ℕ) (T : Tables) (k : ℕ) → (answer (reading_card s T) ≡ refused 11 k) ↔
    (Lent T × (is_fault (decode_card s) ≡ false) × (0 < k) × (k ≤ length (said_card (decode_card s)).lines) × (Registered T (line_of s k) → ⊥)
    × ((j : ℕ) → 0 < j → j < k → Registered T (line_of s j)))

-- [14.49] and request 14, "new 19, on .. reading its card": exactly of a faultless card without a line. Proof: `card_nineteen`
abbrev pub CardNineteen : Type 0
CardNineteen =
    (s : List ℕ) (T : Tables) (v : ℕ) → (answer (reading_card s T) ≡ refused 19 v) ↔
    (Lent T × (is_fault (decode_card s) ≡ false) × ((said_card (decode_card s)).lines ≡ []) × (v ≡ 0))

-- [14.50] reading a card is inserting the list that it says, with its tag, once it is faultless and its numbers are registered: the same answer, the
-- same tables. Proof: `card_is_insertion`
abbrev pub CardIsInsertion : Type 0
CardIsInsertion =
    (s : List ℕ) (T : Tables) → is_fault (decode_card s) ≡ false →
    ((k : ℕ) → 0 < k → k ≤ length (said_card (decode_card s)).lines → Registered T (line_of s k)) →
    (answer (reading_card s T) ≡ answer (inserting (list_said s T) (tag_said s) T))
    × (memory (reading_card s T) T ≡ memory (inserting (list_said s T) (tag_said s) T) T)

------------------------------------------------------------------------
-- "Read where the places differ"

-- the part numbers of some units, and how often one is among them: a kit as a multiset of part numbers
abbrev pub part_numbers : Tables → List ℕ → List (List ℕ)
part_numbers T r = map (λ p. get_or (parts_of T.register) (p - 1) []) r

unfoldable pub times : List ℕ → List (List ℕ) → ℕ
times n ms = length (keep (eq_list n) ms)

-- [14.51] "it gives the same numbers and quantities": a card of a held list, read in any other catalogue, gives a kit that is held there with its tag, has
-- each number as often, and whose card is the same byte for byte. Proof: `card_carries`
abbrev pub CardCarries : Type 0
CardCarries =
    (T U : Tables) (l : List ℕ) (t v : ℕ) → Words T → answer (finding l T) ≡ done t →
    let s = card_in T l t in
    let W = memory (reading_card s U) U in
    answer (reading_card s U) ≡ done v →
    (answer (finding (list_said s U) W) ≡ done t)
    × ((n : List ℕ) → times n (part_numbers T (units l)) ≡ times n (part_numbers W (units (list_said s U))))
    × (card_in W (list_said s U) t ≡ s)

-- [14.51] in a catalogue with the same parts it is the same list. Proof: `card_comes_back`
abbrev pub CardComesBack : Type 0
CardComesBack =
    (T U : Tables) (l : List ℕ) (t : ℕ) → Words T → answer (finding l T) ≡ done t → parts_of U.register ≡ parts_of T.register →
    list_said (card_in T l t) U ≡ l
