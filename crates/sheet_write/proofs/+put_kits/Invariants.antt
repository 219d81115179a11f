use Rattle.ground.proofs.Put.{Rest}
use Rattle.nodes.specs.Inner.{rank}
use Rattle.sheet_write.specs.Inner.{end_line, records_from, StandsAbove, Kept}
use Rattle.sheet.specs.Sheet.{bytes_of, line_bytes}
use Rattle.sheet_write.proofs.Walked.{Along}
use Prim.Native.Nat.{◌*◌}
use Rattle.sheet_write.proofs.+put_kits.Given as goal

abbrev pub decreases-put_kits : goal.decreases-put_kits
decreases-put_kits l = rank l.nodes.now l.link

abbrev pub invariant-loop-i : goal.invariant-loop-i
invariant-loop-i l =
    Along l.nodes l.link l.i (end_line l.line l.place l.quantity) × StandsAbove (bytes_of l.w) l.nodes l.i l.lines
    × Kept (l.line * line_bytes (bytes_of l.w)) l.initial.lines l.lines
    × Rest l.initial.out l.at (records_from (bytes_of l.w) l.nodes l.link) l.out l.to (records_from (bytes_of l.w) l.nodes l.i)

abbrev pub decreases-loop-i : goal.decreases-loop-i
decreases-loop-i l = rank l.nodes l.i
