use mathlib.Core.Path.{◌≡◌}
use Prim.Native.Nat.{◌+◌}
use lib.ListN.{length}
use Rattle.nodes.specs.Inner.{rank}
use Rattle.sheet.specs.Sheet.{bytes_of}
use Rattle.sheet_write.specs.Inner.{end_line, records_from}
use Rattle.sheet_write.proofs.Walked.{Along}
use Rattle.sheet_write.proofs.+kits_size.Given as goal

abbrev pub decreases-kits_size : goal.decreases-kits_size
decreases-kits_size l = rank l.nodes.now l.link

abbrev pub invariant-loop-i : goal.invariant-loop-i
invariant-loop-i l =
    Along l.nodes l.link l.i (end_line l.line l.place l.quantity)
    × (l.size + length (records_from (bytes_of l.w) l.nodes l.i) ≡ length (records_from (bytes_of l.w) l.nodes l.link))

abbrev pub decreases-loop-i : goal.decreases-loop-i
decreases-loop-i l = rank l.nodes l.i
