-- Document 01, "The desk program": fields and lines are the stretches of bytes between separators.
use Rattle.std.specs.Prelude.{cond, List, [], ◌∷◌, ℕ, length, drop, eqb, leb}

-- x at the start of the first stretch
unfoldable pub in_front : ℕ → List (List ℕ) → List (List ℕ)
in_front x [] = (x ∷ []) ∷ []
in_front x (s ∷ ss) = (x ∷ s) ∷ ss

-- [13.5] the stretches between the b's: one more than there are b's, empty ones too
unfoldable pub parted : ℕ → List ℕ → List (List ℕ)
parted b [] = [] ∷ []
parted b (x ∷ xs) = cond (eqb x b) ([] ∷ parted b xs) (in_front x (parted b xs))

-- the stretches from a position on; none from one behind the end
unfoldable pub parted_from : ℕ → List ℕ → ℕ → List (List ℕ)
parted_from b l at = cond (leb at (length l)) (parted b (drop at l)) []
