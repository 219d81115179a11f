-- The two lines that can differ are set down; the record is of the lines that then stand.
use Rattle.sheet.proofs.Widths.{some_width}
use Prim.Native.Nat.{◌+◌, ◌*◌, ◌≤◌, ◌<◌}
use native.Mathlib.Omega.{arith}
use lib.ListN.{length}
use Rattle.sheet.specs.Sheet.{bytes_of, line_bytes}
use Rattle.sheet_write.proofs.Carried.{next_line}
use Rattle.sheet_write.proofs.Walked.{end_most, above_room, end_room, own_stands, above_kept, own_lines}
use Rattle.sheet_write.proofs.put_node.Goals as goal
use Rattle.sheet_write.proofs.put_node.Goals.{After-set_line}

pub set_line-requires : goal.set_line-requires
set_line-requires c =
    above_room c.requires.ends (some_width c.args.w) c.requires.stands

-- where the lines of the node's row end there is room
ends : (c : After-set_line) →
    (c.args.end.at * line_bytes (bytes_of c.args.w) + line_bytes (bytes_of c.args.w) ≤ length c.set_line.new.lines) × (c.args.end.quantity < 256)
ends c =
    end_room c.requires.ends (some_width c.args.w) c.requires.stands c.set_line.new.lines c.set_line.auto.lines

pub set_line-requires-2 : goal.set_line-requires-2
set_line-requires-2 c =
    ends (goal.at.set_line-requires-2 c).After-set_line

pub overflow_add-to : goal.overflow_add-to
overflow_add-to c =
    omega (arith, end_most c.requires.ends)

pub overflow_mul-to : goal.overflow_mul-to
overflow_mul-to c =
    rw c.line_bytes-line.ensures (omega (
      arith,
      (ends (goal.at.overflow_mul-to c).After-set_line).0,
      next_line (bytes_of c.args.w) c.args.end.at,
      c.requires.stands.wide,
      c.set_line.auto.lines,
    ))

pub slice_bounds-put_own-end : goal.slice_bounds-put_own-end
slice_bounds-put_own-end c =
    rw c.line_bytes-line.ensures (omega (
      arith,
      (ends (goal.at.slice_bounds-put_own-end c).After-set_line).0,
      next_line (bytes_of c.args.w) c.args.end.at,
      c.set_line-2.auto.lines,
    ))

pub put_own-requires-clause-lines : goal.put_own-requires-clause-lines
put_own-requires-clause-lines c =
    rw c.line_bytes-line.ensures (own_lines c.requires.ends (some_width c.args.w) c.requires.stands c.set_line.ensures c.set_line-2.ensures)

pub returns-clause-stands : goal.returns-clause-stands
returns-clause-stands c =
    own_stands c.requires.ends (some_width c.args.w) c.requires.stands c.set_line.ensures c.set_line-2.ensures

pub returns-clause-kept : goal.returns-clause-kept
returns-clause-kept c =
    above_kept c.requires.ends (some_width c.args.w) c.requires.stands c.set_line.ensures c.set_line-2.ensures
