-- Inner: no promise of the house rests on what stands here; inner contracts and proofs speak by it.
-- Room for a reply, and what a piece of the input leaves.
use Rattle.std.specs.Prelude.{◌≡◌, List, ◌++◌, ℕ, ◌≤◌, length, take}
use Rattle.ground.specs.Tables.{Tables}
use Rattle.tables.specs.Inner.{SoundTables}
use Rattle.desk_text.specs.Inner.{up_to}
use Rattle.desk_text.specs.Lines.{line_feed}
use Rattle.desk_input.specs.Inner.{most_kept, kept_of}
use Rattle.desk_input.specs.Lines.{ended, unfinished, answered}
use Rattle.desk_lines.specs.Desk.{left_by}
use Rattle.desk_lines.specs.Inner.{Room}

------------------------------------------------------------------------
-- room for the longest reply, the one to W: a letter, a number, a value, a space, two digits for each byte of the sheet, a line feed
abbrev pub reply_bytes : ℕ
reply_bytes = 16640

------------------------------------------------------------------------
-- What answering a line, and taking a piece of the input, leaves

-- what the desk has at hand, and keeps between lines: sound tables, so that it pays for no check, and room for every reply
pub record AtHand (T : Tables) (places sheet out : List ℕ) : Type 0 where
  pub both : SoundTables T
  pub room : Room places sheet out

-- of a line that has not ended, n bytes are kept, with room for enough to tell an overlong one
pub record Keeps (kept : List ℕ) (n : ℕ) : Type 0 where
  pub size : length kept ≡ most_kept
  pub inside : n ≤ length kept
  pub unended : up_to line_feed (take n kept) ≡ length (take n kept)

-- a piece was taken behind the line k that had not ended: the lines that it ends were answered, and r bytes are kept of the one that it
-- leaves
pub record Takes (k piece : List ℕ) (T : Tables) (r : ℕ) (kept : List ℕ) (U : Tables) : Type 0 where
  pub keeps : Keeps kept r
  pub left : take r kept ≡ kept_of (unfinished (k ++ piece))
  pub tables : U ≡ answered left_by (ended (k ++ piece)) T
