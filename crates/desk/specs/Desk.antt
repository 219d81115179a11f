-- Document 01, "The desk program": what is promised of a whole input. It speaks of the tables. What was read, what was written, and that
-- each line is answered once, no contract can say: that is tested (tests/compare desk).
use Rattle.std.specs.Prelude.{◌≡◌, List, ℕ}
use Rattle.ground.specs.Tables.{Tables}
use Rattle.desk_input.specs.Lines.{lines_of, answered}
use Rattle.desk_lines.specs.Sizes.{begun_desk}
use Rattle.desk_lines.specs.Desk.{left_by}

-- the tables U are those that the lines of an input leave, from the empty ones on; which input, a contract cannot say
pub record Serves (U : Tables) : Type 0 where
  pub input : List ℕ
  pub tables : U ≡ answered left_by (lines_of input) begun_desk
