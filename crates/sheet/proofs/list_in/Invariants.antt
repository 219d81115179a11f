use mathlib.Core.Path.{◌≡◌}
use mathlib.Core.List.{List}
use Prim.Native.Nat.{ℕ, ◌+◌, ◌*◌}
use lib.ListN.{length, drop}
use Rattle.sheet.specs.Sheet.{bytes_of, line_bytes, lines_at}
use Rattle.sheet.specs.Inner.{record_words}
use Rattle.sheet.specs.Reading.{lines_read}
use Rattle.sheet.proofs.Places.{words_of}
use Rattle.sheet.proofs.list_in.Given as goal

-- k lines of the record at a place were read, and the next one begins at `from`
pub record So (w : ℕ) (s : List ℕ) (at k from : ℕ) (list : List ℕ) : Type 0 where
  pub reach : from ≡ at + lines_at + k * line_bytes w
  pub long : length list ≡ record_words
  pub is : list ≡ words_of (lines_read w k (drop (at + lines_at) s))

abbrev pub invariant-loop-k : goal.invariant-loop-k
invariant-loop-k l = So (bytes_of l.w) l.s l.at l.k l.from l.list
