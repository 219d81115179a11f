-- Document 01, "The desk program": "Part numbers are looked up first, left to right; a lookup refusal is the answer."
use Rattle.std.specs.Prelude.{List, [], ◌∷◌, ℕ}
use Rattle.ground.specs.Calls.{Reply, done, refused, answer}
use Rattle.register.specs.Calls.{looking_up}
use Rattle.desk_text.specs.Amounts.{amount_of}

-- what number and quantity pairs come to: the list that they type, or the number and the value of the first lookup that is refused
pub data Typed : Type 0 where
  typed : List ℕ → Typed
  stopped : ℕ → ℕ → Typed

-- [13.14] a pair whose number was looked up, in front of what the others come to
unfoldable pub in_front_of : Reply → ℕ → Typed → Typed
in_front_of (refused n v) q t = stopped n v
in_front_of (done p) q (typed l) = typed (p ∷ q ∷ l)
in_front_of (done p) q (stopped n v) = stopped n v

-- [13.12, 13.15] the pairs of some fields, with the register R; a number without a quantity is no pair, and its line answers `?`
unfoldable pub looked_up : List ℕ → List (List ℕ) → Typed
looked_up R [] = typed []
looked_up R (n ∷ []) = typed []
looked_up R (n ∷ q ∷ fs) = in_front_of (answer (looking_up n R)) (amount_of q) (looked_up R fs)
