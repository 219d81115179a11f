-- Inner: no promise of the house rests on what stands here; inner contracts and proofs speak by it.
-- What is kept of a line that comes in pieces.
use Rattle.std.specs.Prelude.{List, [], ◌∷◌, ◌++◌, ℕ, suc, ◌-◌, length, take}
use Rattle.desk_text.specs.Lines.{longest_line}
use Rattle.desk_input.specs.Lines.{ended, unfinished, last_line, answered}

-- enough of a line to tell an overlong one
abbrev pub most_kept : ℕ
most_kept = suc longest_line

unfoldable pub kept_of : List ℕ → List ℕ
kept_of l = take most_kept l

-- pieces of input taken one after the other, behind what is kept of an unfinished line: each answers the lines that it ends
unfoldable pub taken : {A : Type 0} → (List ℕ → A → A) → List (List ℕ) → List ℕ → A → A
taken f [] k a = answered f (last_line k) a
taken f (p ∷ ps) k a = taken f ps (kept_of (unfinished (k ++ p))) (answered f (ended (k ++ p)) a)

-- as many of the bytes as there is room for behind the first n
abbrev pub part_kept : List ℕ → ℕ → List ℕ → List ℕ
part_kept old n bs = take (length old - n) bs
