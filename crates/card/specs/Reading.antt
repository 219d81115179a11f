-- Request 5, "13 with the start of the first faulty item (mark, version, tag, line count, each line, the end ..)": how a card is read, item by item.
use Rattle.std.specs.Prelude.{Bool, true, cond, not, List, [], ◌∷◌, ℕ, zero, suc, ◌+◌, length, get_or, leb, eqb}
use Rattle.ground.specs.Lists.{every, eq_list, is_zero}
use Rattle.kits.specs.Kits.{before, most_quantity, most_units}
use Rattle.register.specs.Number.{good_number}
use Rattle.register.specs.Register.{number_in}
use Rattle.sheet.specs.Bytes.{from_bytes, two_bytes}
use Rattle.sheet.specs.Sheet.{mark_bytes}
use Rattle.sheet.specs.Reading.{Item, item, fault, Reading, ◌>>=◌, give, one, bytes, number_size}
use Rattle.card.specs.Card.{NamedLine, NamedKit, card_mark, card_version, units_said}

unfoldable pub is_card_version : List ℕ → Bool
is_card_version b = eqb (from_bytes b) card_version

-- [12.28] "tag 0 is at fault at the tag"
unfoldable pub tag_given : List ℕ → Bool
tag_given b = not (is_zero (from_bytes b))

-- [12.28] "the line count has no rule but its byte"
abbrev pub count_bytes : ℕ
count_bytes = 1

unfoldable pub any_count : List ℕ → Bool
any_count b = true

-- [12.25] a line: the number with its length, and a byte
unfoldable pub named_size : List ℕ → ℕ
named_size bs = number_size bs + 1

unfoldable pub named_in : List ℕ → NamedLine
named_in b = record { number = number_in b; quantity = get_or b (number_size b) 0 }

-- [12.26] the latest line is seen first
unfoldable pub rises_over : List ℕ → List NamedLine → Bool
rises_over n [] = true
rises_over n (x ∷ xs) = before x.number n

-- [12.29] "a line not above the one before, .. a bad number and a quantity not 1 to 15", and "units past 64 are charged to the line that passes it"
unfoldable pub new_line : List NamedLine → List ℕ → Bool
new_line seen b = every
    (good_number (named_in b).number
    ∷ rises_over (named_in b).number seen
    ∷ not (is_zero (named_in b).quantity)
    ∷ leb (named_in b).quantity most_quantity
    ∷ leb (units_said seen + (named_in b).quantity) most_units ∷ [])

-- lines, n of them, behind those seen
unfoldable pub lines_said : ℕ → List NamedLine → Reading (List NamedLine)
lines_said zero seen = give []
lines_said (suc n) seen = do
  b ← one named_size (new_line seen)
  xs ← lines_said n (named_in b ∷ seen)
  give (named_in b ∷ xs)

-- "the end": bytes that remain are at fault
unfoldable pub the_end : {A : Type 0} → A → Reading A
the_end a bs o = cond (is_zero (length bs)) (item a bs o) (fault o)

-- [12.28] "mark, version, tag, line count, each line, the end"
unfoldable pub decode_card : List ℕ → Item NamedKit
decode_card s = (do
  m ← one (bytes mark_bytes) (eq_list card_mark)
  v ← one (bytes two_bytes) is_card_version
  t ← one (bytes two_bytes) tag_given
  n ← one (bytes count_bytes) any_count
  xs ← lines_said (from_bytes n) []
  the_end (record { tag = from_bytes t; lines = xs })) s 0

-- what a faultless card says
unfoldable pub said_card : Item NamedKit → NamedKit
said_card (item c bs o) = c
said_card (fault o) = record { tag = 0; lines = [] }
