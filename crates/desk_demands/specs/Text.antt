-- Text as bytes, and what the desk writes for a whole input.
use Rattle.std.specs.Prelude.{List, [], ◌∷◌, ◌++◌, ℕ, replicate}
use Prim.Native.Char.{code}
use Prim.Native.String.{String, [] as nothing, ◌∷◌ as ◌then◌}
use Rattle.ground.specs.Tables.{Tables}
use Rattle.desk_text.specs.Lines.{line_feed, parsed}
use Rattle.desk_input.specs.Lines.{lines_of}
use Rattle.desk_lines.specs.Sizes.{output_places, sheet_bytes, empty_desk}
use Rattle.desk_lines.specs.Desk.{at_desk}

-- the bytes of a text: every character here is one byte
unfoldable pub bytes_of : String → List ℕ
bytes_of nothing = []
bytes_of (c then s) = code c ∷ bytes_of s

-- lines of text, each ended by a line feed
unfoldable pub text_of : List String → List ℕ
text_of [] = []
text_of (l ∷ ls) = bytes_of l ++ (line_feed ∷ text_of ls)

-- the replies to some lines, one after the other, from the tables T on; the places o and the sheet s are lent to each
unfoldable pub replies_to : List (List ℕ) → List ℕ → List ℕ → Tables → List ℕ
replies_to [] o s T = []
replies_to (l ∷ ls) o s T = let a = at_desk (parsed l) o s T in a.says ++ replies_to ls o s a.after

-- what a desk with so many slots, nodes, output places and sheet bytes replies to an input
unfoldable pub reply_text : ℕ → ℕ → ℕ → ℕ → List ℕ → List ℕ
reply_text slots nodes places sheet input = replies_to (lines_of input) (replicate places 0) (replicate sheet 0) (empty_desk slots nodes)

-- "2,048 output places and 8,192 sheet bytes": what they hold never shows in a reply (`OutputsNeverShow`)
unfoldable pub lent_places : List ℕ
lent_places = replicate output_places 0

unfoldable pub lent_sheet : List ℕ
lent_sheet = replicate sheet_bytes 0
