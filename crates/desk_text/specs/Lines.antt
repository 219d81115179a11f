-- Document 01, "The desk program": a line taken apart, or none. "This is judged before anything is called."
use Rattle.std.specs.Prelude.{Bool, false, true, ◌&&◌, cond, List, [], ◌∷◌, ℕ, length, get_or, eqb, leb}
use Rattle.ground.specs.Lists.{allb, anyb, every}
use Rattle.desk_text.specs.Parted.{parted, parted_from}
use Rattle.desk_text.specs.Amounts.{amount_of, good_amount}
use Rattle.desk_text.specs.Letters.{registers, inserts, writes, takes_list}

abbrev pub space : ℕ
space = 0x20

abbrev pub line_feed : ℕ
line_feed = 0x0A

-- [13.4] "A line is at most 512 bytes before its line feed"
abbrev pub longest_line : ℕ
longest_line = 512

-- [13.5] "fields parted by one space"
abbrev pub fields_of : List ℕ → List (List ℕ)
fields_of l = parted space l

abbrev pub fields_from : List ℕ → ℕ → List (List ℕ)
fields_from l at = parted_from space l at

-- [13.6] no "empty field"
unfoldable pub filled : List ℕ → Bool
filled f = leb 1 (length f)

-- [13.9] "number and quantity pairs": "a list may have no pairs"
unfoldable pub good_pairs : List (List ℕ) → Bool
good_pairs [] = true
good_pairs (n ∷ []) = false
good_pairs (n ∷ q ∷ fs) = good_amount q && good_pairs fs

-- a line taken apart: its letter, its tag (0 where it has none), and the fields behind these; "other lines" are none
pub data Parsed : Type 0 where
  none : Parsed
  line : ℕ → ℕ → List (List ℕ) → Parsed

-- the letter x, the tag t and the fields fs are a line if what stands there is good
unfoldable pub line_if : Bool → ℕ → ℕ → List (List ℕ) → Parsed
line_if good x t fs = cond good (line x t fs) none

-- so many fields, and no tag
unfoldable pub exactly : ℕ → ℕ → List (List ℕ) → Parsed
exactly n x fs = line_if (eqb (length fs) n) x 0 fs

-- a list alone
unfoldable pub pairs : ℕ → List (List ℕ) → Parsed
pairs x fs = line_if (good_pairs fs) x 0 fs

-- "tag, then number and quantity pairs"
unfoldable pub amount_and_pairs : ℕ → List (List ℕ) → Parsed
amount_and_pairs x [] = none
amount_and_pairs x (t ∷ fs) = line_if (good_amount t && good_pairs fs) x (amount_of t) fs

-- [13.8] what may stand behind the letter x: "too few or too many fields" are none of these
unfoldable pub behind_letter : ℕ → List (List ℕ) → Parsed
behind_letter x fs =
    cond (eqb x registers) (exactly 1 x fs)
    (cond (eqb x inserts) (amount_and_pairs x fs)
    (cond (eqb x writes) (exactly 0 x fs)
    (cond (anyb (eqb x) takes_list) (pairs x fs) none)))

-- [13.7] the first field is a letter
unfoldable pub lettered : List (List ℕ) → Parsed
lettered [] = none
lettered (f ∷ fs) = cond (eqb (length f) 1) (behind_letter (get_or f 0 0) fs) none

-- [13.4] "Other lines answer `?`, once each: an empty or overlong line, an empty field, too few or too many fields"
unfoldable pub parsed : List ℕ → Parsed
parsed l =
    cond (every (leb 1 (length l) ∷ leb (length l) longest_line ∷ allb filled (fields_of l) ∷ []))
    (lettered (fields_of l))
    none
