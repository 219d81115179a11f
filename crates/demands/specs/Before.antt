-- REQUEST 3: "Old sheets mean what they meant." The part number rule as it was before the small letters, and a sheet read by it: these stand for the
-- statements here, and nothing else rests on them. The law that proves a statement stands behind "Proof", in proofs/Before.
use Rattle.std.specs.Prelude.{◌≡◌, Bool, ◌||◌, false, not, List, [], ◌∷◌, ℕ, zero, suc, length, drop, leb}
use Rattle.ground.specs.Lists.{allb, anyb, every, eq_list}
use Rattle.register.specs.Number.{longest_number, between, is_punctuation}
use Rattle.sheet.specs.Bytes.{from_bytes, two_bytes}
use Rattle.sheet.specs.Sheet.{Contents, mark, mark_bytes}
use Rattle.sheet.specs.Reading.{Item, Reading, onward, ◌>>=◌, give, one, bytes, any_two, is_version, good_part_count, number_size}
use Rattle.sheet.specs.Reading.{Front, run_of, whole, decode, is_fault}

-- "a digit, a capital A to Z, hyphen, full stop or slash"
unfoldable pub good_byte_before : ℕ → Bool
good_byte_before b = between 0x30 0x39 b || (between 0x41 0x5A b || is_punctuation b)

unfoldable pub good_number_before : List ℕ → Bool
good_number_before n = every (leb 1 (length n) ∷ leb (length n) longest_number ∷ allb good_byte_before n ∷ [])

-- as `new_number`, `numbers`, `front` and `decode` of the sheet (specs/Reading), with that rule
unfoldable pub new_number_before : List (List ℕ) → List ℕ → Bool
new_number_before seen b = every (good_number_before (drop 1 b) ∷ not (anyb (eq_list (drop 1 b)) seen) ∷ [])

unfoldable pub numbers_before : ℕ → List (List ℕ) → Reading (List (List ℕ))
numbers_before zero seen = give []
numbers_before (suc n) seen = do
  b ← one number_size (new_number_before seen)
  ns ← numbers_before n (drop 1 b ∷ seen)
  give (drop 1 b ∷ ns)

unfoldable pub front_before : Reading Front
front_before = do
  m ← one (bytes mark_bytes) (eq_list mark)
  v ← one (bytes two_bytes) is_version
  p ← one (bytes two_bytes) (good_part_count (from_bytes v))
  ns ← numbers_before (from_bytes p) []
  k ← one (bytes two_bytes) any_two
  give (record { parts = ns; announced = from_bytes k })

unfoldable pub decode_before : List ℕ → Item Contents
decode_before s = onward (front_before s 0) (λ f bs o. whole f.parts (run_of f bs o))

-- [14.22] every sheet that was accepted by the rule before is accepted, and says the same. Proof: `old_sheets`
abbrev pub OldSheets : Type 0
OldSheets = (s : List ℕ) → is_fault (decode_before s) ≡ false → decode s ≡ decode_before s
