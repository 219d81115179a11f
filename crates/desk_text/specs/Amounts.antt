-- Document 01, "The desk program": tags and quantities.
use Rattle.std.specs.Prelude.{Bool, ◌&&◌, not, List, [], ◌∷◌, ℕ, ◌+◌, ◌-◌, ◌*◌, length, get_or, leb, eqb}
use Rattle.ground.specs.Lists.{allb, every}

-- the byte of the digit 0; the others follow it
abbrev pub zero_digit : ℕ
zero_digit = 0x30

abbrev pub nine_digit : ℕ
nine_digit = 0x39

abbrev pub most_digits : ℕ
most_digits = 5

abbrev pub largest_amount : ℕ
largest_amount = 65535

unfoldable pub is_digit : ℕ → Bool
is_digit b = leb zero_digit b && leb b nine_digit

-- the number that digits spell behind those that have spelt v
unfoldable pub spelt : ℕ → List ℕ → ℕ
spelt v [] = v
spelt v (d ∷ ds) = spelt (v * 10 + (d - zero_digit)) ds

unfoldable pub amount_of : List ℕ → ℕ
amount_of f = spelt 0 f

-- "no leading zero unless just 0"
unfoldable pub leading_zero : List ℕ → Bool
leading_zero f = not (eqb (length f) 1) && eqb (get_or f 0 0) zero_digit

-- digits alone, "at most 65,535"
unfoldable pub small : List ℕ → Bool
small f = every (allb is_digit f ∷ leb (amount_of f) largest_amount ∷ [])

-- [13.10, 13.11] "Tags and quantities are one to five digits, no leading zero unless just 0, at most 65,535"
unfoldable pub good_amount : List ℕ → Bool
good_amount f = every (leb 1 (length f) ∷ leb (length f) most_digits ∷ not (leading_zero f) ∷ small f ∷ [])
