-- Inner: no promise of the house rests on what stands here; inner contracts and proofs speak by it.
-- Where a stretch ends, an amount as it is read, and a line as it is taken apart.
use Rattle.std.specs.Prelude.{◌≡◌, cond, Bool, Option, Some, None, List, [], ◌∷◌, ℕ, suc, ◌+◌, ◌≤◌, length, drop, eqb}
use Rattle.desk_text.specs.Amounts.{amount_of, good_amount}
use Rattle.desk_text.specs.Lines.{Parsed, none, line, fields_from}
use Rattle.desk_text.specs.Letters.{byte_of}
use Rattle.desk_text.specs.declared.Letter.{Letter}
use Rattle.desk_text.specs.declared.Line.{Line}

-- how many bytes stand before the first b
unfoldable pub up_to : ℕ → List ℕ → ℕ
up_to b [] = 0
up_to b (x ∷ xs) = cond (eqb x b) 0 (suc (up_to b xs))

-- r is where the stretch that starts at a position ends
pub record EndOf (l : List ℕ) (at b r : ℕ) : Type 0 where
  pub ends : r ≡ at + up_to b (drop at l)
  pub low : at ≤ r
  pub high : r ≤ length l

-- an amount, where it is a good one
abbrev pub amount_where : Bool → ℕ → Option ℕ
amount_where good v = cond good (Some v) None

abbrev pub amount_in : List ℕ → Option ℕ
amount_in f = amount_where (good_amount f) (amount_of f)

-- p is a line with the letter x and the tag t, whose fields stand in l from a position on
pub record StandsFrom (l : List ℕ) (p : Parsed) (x t from : ℕ) : Type 0 where
  pub is : p ≡ line x t (fields_from l from)
  pub inside : from ≤ length l + 1

-- what the code says of the line l is p
abbrev pub ParsedAs : List ℕ → Parsed → Option Line → Type 0
ParsedAs l p None = p ≡ none
ParsedAs l p (Some x) = StandsFrom l p (byte_of x.letter) x.tag x.from

-- a line where it is a good one
abbrev pub line_where : Bool → Letter → ℕ → ℕ → Option Line
line_where good x t at = cond good (Some (record { letter = x; tag = t; from = at })) None
