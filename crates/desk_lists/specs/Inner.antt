-- Inner: no promise of the house rests on what stands here; inner contracts and proofs speak by it.
-- A typed list as it is read.
use Rattle.std.specs.Prelude.{◌≡◌, true, List, ℕ, ◌+◌, ◌≤◌, length, take}
use Rattle.ground.specs.Lists.{allb}
use Rattle.ground.specs.Calls.{Reply, done, refused, value_of, leaves}
use Rattle.desk_text.specs.Lines.{longest_line, fields_from, filled, good_pairs}
use Rattle.desk_lists.specs.Typed.{Typed, typed, stopped, looked_up}

-- "A line is at most 512 bytes": a pair takes four of them at least, so the list is no longer than this
abbrev pub most_words : ℕ
most_words = 256

-- the fields of a line from a position on are well formed pairs
pub record Pairs (l : List ℕ) (at : ℕ) : Type 0 where
  pub short : length l ≤ longest_line
  pub inside : at ≤ length l + 1
  pub some : allb filled (fields_from l at) ≡ true
  pub good : good_pairs (fields_from l at) ≡ true

-- what the reply of reading a list says of the output where the list stands
abbrev pub typed_as : Reply → List ℕ → Typed
typed_as (done n) out = typed (take n out)
typed_as (refused n v) out = stopped n v

pub record ReadAs (R l : List ℕ) (at : ℕ) (r : Reply) (out : List ℕ) : Type 0 where
  pub says : typed_as r out ≡ looked_up R (fields_from l at)
  pub inside : leaves r 0 (value_of r) ≤ length out
