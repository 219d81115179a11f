-- Request 5, "reading has 1 and 2 for the tables, then 13 .., then 11 for an unregistered number, value its line": what a card is refused for.
use Rattle.std.specs.Prelude.{List, [], ◌∷◌, ℕ, suc}
use Rattle.ground.specs.Lists.{is_zero}
use Rattle.ground.specs.Calls.{Case, given}
use Rattle.register.specs.Register.{place_in}
use Rattle.sheet.specs.Reading.{is_fault, offset}
use Rattle.card.specs.Card.{NamedLine}
use Rattle.card.specs.Reading.{decode_card, said_card}

-- [12.30] "11 for an unregistered number, value its line": line by line, from line k on, counted from 1
unfoldable pub unknown_refusals : List (List ℕ) → ℕ → List NamedLine → List Case
unknown_refusals ps k [] = []
unknown_refusals ps k (x ∷ xs) = given (is_zero (place_in x.number ps)) 11 k ∷ unknown_refusals ps (suc k) xs

-- [12.28, 12.30] of the card s among the parts ps: "13 with the start of the first faulty item", then 11
unfoldable pub card_refusals : List (List ℕ) → List ℕ → List Case
card_refusals ps s = given (is_fault (decode_card s)) 13 (offset (decode_card s)) ∷ unknown_refusals ps 1 (said_card (decode_card s)).lines
