use Rattle.std.proofs.Common.{◌≡◌, ◌+◌, length}
use Rattle.std.specs.Slice.Iter.{chunks_exact_rest, chunks_exact_size}
use Rattle.ground.specs.Laid.{laid}
use Rattle.kits.specs.Kits.{most_units, units, fixed_row}
use Rattle.kits.proofs.row_of.Given as goal

abbrev pub invariant-loop-line : goal.invariant-loop-line
invariant-loop-line l =
    (chunks_exact_size l.line-iterator ≡ 2) × (length l.row.places ≡ most_units)
    × (l.row.len + length (units (chunks_exact_rest l.line-iterator)) ≡ length (units l.list))
    × (laid l.row.places l.row.len (units (chunks_exact_rest l.line-iterator)) ≡ (fixed_row (units l.list)).places)
