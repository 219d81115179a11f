-- Inner: no promise of the house rests on what stands here; inner contracts and proofs speak by it.
-- What the judge of a card answers, and what each of its functions says of the card from a place on.
use Rattle.std.specs.Prelude.{◌≡◌, Bool, true, ◌&&◌, cond, not, List, [], ◌++◌, ℕ, ◌+◌, ◌≤◌, ◌<◌, length, drop, get_or, leb}
use Rattle.std.specs.Prelude.{Option, None, Some, Result, Ok, Err}
use Rattle.ground.specs.Limits.{byte_limit}
use Rattle.ground.specs.Lists.{is_zero}
use Rattle.repeats.specs.Inner.{number_here, next_place}
use Rattle.kits.specs.Kits.{before, most_quantity, most_units}
use Rattle.register.specs.Number.{good_number}
use Rattle.sheet.specs.Reading.{Item, item, fault, Reading, onward}
use Rattle.card.specs.Card.{NamedLine, NamedKit}
use Rattle.card.specs.Inner.{card_head}
use Rattle.card.specs.Reading.{named_size, lines_said, the_end, decode_card}
use Rattle.card.specs.declared.Card.{Card}

-- the offset of the first faulty item; or the tag and the line count
unfoldable pub card_judged : Item NamedKit → Result Card ℕ
card_judged (item c bs o) = Ok (record { tag = c.tag; lines = length c.lines })
card_judged (fault o) = Err o

-- behind the lines pre, then xs: the end
abbrev pub behind_lines : ℕ → List NamedLine → List NamedLine → Reading NamedKit
behind_lines t pre xs = the_end (record { tag = t; lines = pre ++ xs })

-- behind the head: as many lines as it says, and the end
abbrev pub behind_head : List ℕ → Card → Item NamedKit
behind_head s c = onward (lines_said c.lines [] (drop card_head s) card_head) (behind_lines c.tag [])

-- mark, version, tag and line count were read: the tag and the line count, or the first fault
pub record CardHeaded (s : List ℕ) (c : Card) : Type 0 where
  pub inside : card_head ≤ length s
  pub few : c.lines < byte_limit
  pub goes : decode_card s ≡ behind_head s c

abbrev pub card_head_says : List ℕ → Result Card ℕ → Type 0
card_head_says s (Err o) = decode_card s ≡ fault o
card_head_says s (Ok c) = CardHeaded s c

-- the line that stands at a place
abbrev pub line_here : List ℕ → ℕ → NamedLine
line_here s at = record { number = number_here s at; quantity = get_or s (next_place s at) 0 }

-- the line before, if there is one, starts at prev and ends inside
abbrev pub LineBefore : List ℕ → Option ℕ → Type 0
LineBefore s None = Unit {0}
LineBefore s (Some p) = next_place s p ≤ length s

-- a number comes after that of the line before, which starts at prev; that of the first line comes after none
abbrev pub comes_next : List ℕ → Option ℕ → List ℕ → Bool
comes_next s None n = true
comes_next s (Some p) n = before (number_here s p) n

-- a quantity passes behind so many units
abbrev pub amount_passes : ℕ → ℕ → Bool
amount_passes units q = not (is_zero q) && (leb q most_quantity && leb (units + q) most_units)

-- the line at a place passes behind these
abbrev pub line_passes : List ℕ → Option ℕ → ℕ → ℕ → Bool
line_passes s prev units at =
    good_number (line_here s at).number && (comes_next s prev (line_here s at).number && amount_passes units (line_here s at).quantity)

-- where it ends; none where it is cut short or does not pass
unfoldable pub line_end : List ℕ → Option ℕ → ℕ → ℕ → Option ℕ
line_end s prev units at =
    cond (leb (named_size (drop at s)) (length (drop at s)) && line_passes s prev units at) (Some (at + named_size (drop at s))) None
