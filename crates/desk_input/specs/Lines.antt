-- Document 01, "The desk program": the lines of an input, answered one after the other.
use Rattle.std.specs.Prelude.{List, [], ◌∷◌, ◌++◌, ℕ}
use Rattle.desk_text.specs.Parted.{parted}
use Rattle.desk_text.specs.Lines.{line_feed}

-- of some stretches, all but the last, and the last
unfoldable pub all_but_last : List (List ℕ) → List (List ℕ)
all_but_last [] = []
all_but_last (l ∷ []) = []
all_but_last (l ∷ m ∷ ms) = l ∷ all_but_last (m ∷ ms)

unfoldable pub last_of : List (List ℕ) → List ℕ
last_of [] = []
last_of (l ∷ []) = l
last_of (l ∷ m ∷ ms) = last_of (m ∷ ms)

-- the lines that have a line feed, and what stands behind the last line feed
unfoldable pub ended : List ℕ → List (List ℕ)
ended input = all_but_last (parted line_feed input)

unfoldable pub unfinished : List ℕ → List ℕ
unfinished input = last_of (parted line_feed input)

-- [13.2] "the last may lack one": it is a line where there is anything
unfoldable pub last_line : List ℕ → List (List ℕ)
last_line [] = []
last_line (x ∷ l) = (x ∷ l) ∷ []

-- [13.2] the lines of an input
unfoldable pub lines_of : List ℕ → List (List ℕ)
lines_of input = ended input ++ last_line (unfinished input)

-- lines answered one after the other, where f is what answering a line makes of A
unfoldable pub answered : {A : Type 0} → (List ℕ → A → A) → List (List ℕ) → A → A
answered f [] a = a
answered f (l ∷ ls) a = answered f ls (f l a)
