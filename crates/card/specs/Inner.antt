-- Inner: no promise of the house rests on what stands here; inner contracts and proofs speak by it.
-- Where a card's line count and its lines stand, how many words the lines of a kit have and how many bytes a card, where a line is put among others,
-- and how often lines name a number.
use Rattle.std.specs.Prelude.{Bool, cond, List, [], ◌∷◌, ◌++◌, ℕ, ◌+◌, ◌*◌, take, drop}
use Rattle.ground.specs.Lists.{eq_list}
use Rattle.kits.specs.Kits.{most_units}
use Rattle.sheet.specs.Sheet.{line_words}
use Rattle.sheet.specs.Inner.{most_item}
use Rattle.card.specs.Card.{NamedLine}

abbrev pub card_tag_at : ℕ
card_tag_at = 5

abbrev pub card_count_at : ℕ
card_count_at = 7

abbrev pub card_head : ℕ
card_head = 8

-- each line has a unit
abbrev pub kit_words : ℕ
kit_words = most_units * line_words

-- the word at which the first line of a list stands whose place passes a test; behind them all, where none does
unfoldable pub line_spot : (ℕ → Bool) → List ℕ → ℕ
line_spot test [] = 0
line_spot test (p ∷ []) = 0
line_spot test (p ∷ q ∷ l) = cond (test p) 0 (line_words + line_spot test l)

-- a line put there
unfoldable pub line_among : (ℕ → Bool) → ℕ → ℕ → List ℕ → List ℕ
line_among test p q l = take (line_spot test l) l ++ (p ∷ q ∷ drop (line_spot test l) l)

-- how many units of a number some lines say
unfoldable pub units_named : List ℕ → List NamedLine → ℕ
units_named n [] = 0
units_named n (x ∷ xs) = cond (eq_list n x.number) x.quantity 0 + units_named n xs

-- a line has a number with its length and a quantity byte, so at most so many bytes; and a card
abbrev pub most_named : ℕ
most_named = most_item + 1

abbrev pub most_card : ℕ
most_card = card_head + most_units * most_named
