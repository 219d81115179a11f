-- Document 01, "The desk program": the reply line.
use Rattle.std.specs.Prelude.{cond, List, [], ◌∷◌, ◌++◌, ℕ, zero, suc, ◌+◌, ◌-◌, ◌/◌, ◌%◌, ◌≤◌, length, ltb}
use Rattle.ground.specs.Laid.{Put}
use Rattle.desk_text.specs.Amounts.{zero_digit}
use Rattle.desk_text.specs.Lines.{space, line_feed}

-- the digits of a number, of which there are at most k
unfoldable pub digits : ℕ → ℕ → List ℕ
digits zero n = []
digits (suc k) n = cond (ltb n 10) ((zero_digit + n) ∷ []) (digits k (n / 10) ++ ((zero_digit + n % 10) ∷ []))

-- a number in decimal: it has no more digits than it has units, but for 0
unfoldable pub decimal : ℕ → List ℕ
decimal n = digits (suc n) n

-- "capital hex": 0 to 9, then A to F
unfoldable pub hex_digit : ℕ → ℕ
hex_digit d = cond (ltb d 10) (zero_digit + d) (0x41 - 10 + d)

-- [13.18] "the sheet in capital hex": two digits for each byte
unfoldable pub hex_of : List ℕ → List ℕ
hex_of [] = []
hex_of (b ∷ bs) = hex_digit (b / 16) ∷ hex_digit (b % 16) ∷ hex_of bs

-- [13.18] tags, each behind a space
unfoldable pub tags_text : List ℕ → List ℕ
tags_text [] = []
tags_text (t ∷ ts) = (space ∷ decimal t) ++ tags_text ts

-- "letter, number, value"
unfoldable pub reply_head : ℕ → ℕ → ℕ → List ℕ
reply_head letter number value = letter ∷ space ∷ (decimal number ++ (space ∷ decimal value))

-- [13.17] "A reply line is letter, number, value, then" the rest; "every reply ends in a line feed"
unfoldable pub reply_line : ℕ → ℕ → ℕ → List ℕ → List ℕ
reply_line letter number value rest = reply_head letter number value ++ (rest ++ (line_feed ∷ []))

-- [13.13] "Other lines answer `?`"
abbrev pub other_line : List ℕ
other_line = 0x3F ∷ line_feed ∷ []

-- a reply stands at the start of an output, r bytes long and whole; the rest is as it was
pub record ReplyStands (old bs : List ℕ) (r : ℕ) (new : List ℕ) : Type 0 where
  pub put : Put old 0 bs r new
  pub whole : r ≤ length old
