-- REQUEST 10: "Version 1 sheets are read as before; an old program refuses version 2 at the version." A sheet read by a program from before the
-- request: this stands for the statements here, and nothing else rests on it. The law that proves a statement stands behind "Proof", in proofs/Versions.
use Rattle.std.specs.Prelude.{◌≡◌, Bool, List, [], ◌++◌, ℕ, ◌≤◌, ◌<◌, length, take, drop, leb, eqb}
use Rattle.ground.specs.Lists.{eq_list}
use Rattle.sheet.specs.Bytes.{from_bytes, two, two_bytes}
use Rattle.sheet.specs.Sheet.{Contents, mark, mark_bytes, encode_as, encode}
use Rattle.sheet.specs.Reading.{Item, fault, Reading, onward, ◌>>=◌, give, one, bytes, any_two, numbers, records, Front, whole, decode}

-- "version 1 in two bytes; part count in two, 0 to 255"; a place takes one byte
unfoldable pub is_first : List ℕ → Bool
is_first b = eqb (from_bytes b) 1

unfoldable pub few_parts : List ℕ → Bool
few_parts b = leb (from_bytes b) 255

-- as `front` and `decode` of the sheet (specs/Reading), by these
unfoldable pub front_first : Reading Front
front_first = do
  m ← one (bytes mark_bytes) (eq_list mark)
  v ← one (bytes two_bytes) is_first
  p ← one (bytes two_bytes) few_parts
  ns ← numbers (from_bytes p) []
  k ← one (bytes two_bytes) any_two
  give (record { parts = ns; announced = from_bytes k })

unfoldable pub decode_first : List ℕ → Item Contents
decode_first s = onward (front_first s 0) (λ f bs o. whole f.parts (records 1 f.announced (length f.parts) [] bs o))

-- the number that stands where a sheet has its version
abbrev pub version_in : List ℕ → ℕ
version_in s = from_bytes (take two_bytes (drop mark_bytes s))

-- [14.27] whatever is not of version 2 is read as before, with the same contents or at fault in the same place. Proof: `first_read`
abbrev pub FirstRead : Type 0
FirstRead = (s : List ℕ) → (version_in s ≡ 2 → ⊥) → decode s ≡ decode_first s

-- [14.27] and written as before, up to 255 parts; beyond, in version 2. Proof: `first_written`
abbrev pub FirstWritten : Type 0
FirstWritten =
    (c : Contents) →
    (length c.parts ≤ 255 → encode c ≡ encode_as 1 c)
    × (255 < length c.parts → encode c ≡ encode_as 2 c)

-- [14.27] "an old program refuses version 2 at the version". Proof: `first_refuses`
abbrev pub FirstRefuses : Type 0
FirstRefuses = (bs : List ℕ) → decode_first (mark ++ (two 2 ++ bs)) ≡ fault (length mark)
