-- Inner: no promise of the house rests on what stands here; inner contracts and proofs speak by it.
-- Contents that fit the format, the format's sizes, and what stands in a sheet from a place on.
use Rattle.std.specs.Prelude.{Option, Some, None}
use Rattle.std.specs.Prelude.{Bool, true, ◌&&◌, cond, List, [], ◌∷◌, ◌++◌, ℕ, zero, suc, ◌+◌, ◌*◌, ◌/◌, ◌≤◌, ◌<◌, length, take, drop, get_or, leb, ltb, eqb}
use Rattle.ground.specs.Lists.{allb, every, distinct, eq_list}
use Rattle.ground.specs.Limits.{most_parts, two_limit}
use Rattle.repeats.specs.Inner.{number_here, next_place}
use Rattle.register.specs.Number.{good_number}
use Rattle.kits.specs.Kits.{good_list, list_of, before, most_units}
use Rattle.nodes.specs.Held.{Kit, tags_of}
use Rattle.sheet.specs.Bytes.{two}
use Rattle.sheet.specs.Sheet.{Contents, line_bytes, count_at, lines_at}
use Rattle.sheet.specs.Reading.{Item, item, fault, record_size, lines_read}

-- behind the mark stand version and part count, and behind these the numbers begin
abbrev pub version_at : ℕ
version_at = 3

abbrev pub parts_at : ℕ
parts_at = 5

abbrev pub head_bytes : ℕ
head_bytes = 7

-- Contents that fit the format: good numbers, none twice; good kits with n parts, in listing order, no tag twice
unfoldable pub good_kit : ℕ → Kit → Bool
good_kit n k = every (leb 1 k.tag ∷ ltb k.tag two_limit ∷ good_list n (list_of k.row) ∷ leb (length k.row) most_units ∷ [])

unfoldable pub rising : List Kit → Bool
rising [] = true
rising (k ∷ []) = true
rising (k ∷ l ∷ ks) = before k.row l.row && rising (l ∷ ks)

unfoldable pub fits_sheet : Contents → Bool
fits_sheet c = every
    (leb (length c.parts) most_parts
    ∷ allb good_number c.parts
    ∷ distinct eq_list c.parts
    ∷ ltb (length c.kits) two_limit
    ∷ allb (good_kit (length c.parts)) c.kits
    ∷ distinct eqb (tags_of c.kits)
    ∷ rising c.kits ∷ [])

------------------------------------------------------------------------
-- Sizes

-- a place takes one byte or two
abbrev pub widest : ℕ
widest = 2

pub record Width (w : ℕ) : Type 0 where
  pub some_byte : 0 < w
  pub few_bytes : w ≤ widest

-- 255 lines take so many bytes
abbrev pub most_lines : ℕ
most_lines = 765

-- 255 lines have so many words
abbrev pub record_words : ℕ
record_words = 510

-- and a number with its length and the record of a row at most so many bytes
abbrev pub most_item : ℕ
most_item = 25

abbrev pub most_record : ℕ
most_record = 195

abbrev pub kit_of : List ℕ → ℕ → Kit
kit_of r t = record { row = r; tag = t }

-- a tag, a line count and the bytes of the lines
unfoldable pub record_bytes : ℕ → ℕ → List ℕ → List ℕ
record_bytes w t ls = two t ++ (length ls / line_bytes w ∷ ls)

------------------------------------------------------------------------
-- Items

-- where an item ends; where it is at fault, where it starts
unfoldable pub place_of : Item (List ℕ) → ℕ
place_of (item a bs o) = o
place_of (fault o) = o

------------------------------------------------------------------------
-- Numbers in a sheet

-- the first k numbers that stand from a place on, and where they end
unfoldable pub numbers_at : List ℕ → ℕ → ℕ → List (List ℕ)
numbers_at s j zero = []
numbers_at s j (suc k) = number_here s j ∷ numbers_at s (next_place s j) k

unfoldable pub end_at : List ℕ → ℕ → ℕ → ℕ
end_at s j zero = j
end_at s j (suc k) = end_at s (next_place s j) k

------------------------------------------------------------------------
-- Kit records in a sheet

-- the record at a place, where places take w bytes: its bytes, and where it ends; none where it is cut short
abbrev pub record_at : ℕ → List ℕ → ℕ → List ℕ
record_at w s at = take (record_size w (drop at s)) (drop at s)

unfoldable pub record_end : ℕ → List ℕ → ℕ → Option ℕ
record_end w s at = cond (leb (record_size w (drop at s)) (length (drop at s))) (Some (at + record_size w (drop at s))) None

-- how many lines it has, and the bytes of these; its list
abbrev pub line_count : List ℕ → ℕ → ℕ
line_count s at = get_or s (at + count_at) 0

abbrev pub lines_size : ℕ → List ℕ → ℕ → ℕ
lines_size w s at = line_count s at * line_bytes w

abbrev pub list_at : ℕ → List ℕ → ℕ → List ℕ
list_at w s at = lines_read w (line_count s at) (drop (at + lines_at) s)

abbrev pub WholeAt : ℕ → List ℕ → ℕ → Type 0
WholeAt w s at = at + lines_at + lines_size w s at ≤ length s
