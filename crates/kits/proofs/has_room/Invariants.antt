use Rattle.std.proofs.Common.{◌≡◌, leb, length}
use Rattle.std.specs.Slice.Iter.{chunks_exact_rest, chunks_exact_size}
use Rattle.kits.specs.Kits.{most_units, units}
use Rattle.kits.proofs.has_room.Given as goal

abbrev pub invariant-loop-line : goal.invariant-loop-line
invariant-loop-line l =
    (chunks_exact_size l.line-iterator ≡ 2) × (leb (length (units (chunks_exact_rest l.line-iterator))) l.left ≡ leb (length (units l.list)) most_units)
