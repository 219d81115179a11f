use Rattle.std.proofs.Common.{◌≡◌, ◌+◌, length, replicate}
use Rattle.std.specs.Slice.Iter.{chunks_exact_rest, chunks_exact_size}
use Rattle.kits.specs.Kits.{most_place}
use Rattle.kits.proofs.Good.{GoodLines}
use Rattle.kits.proofs.Quantities.{entered}
use Rattle.kits.proofs.set_quantities.Given as goal

abbrev pub invariant-loop-line : goal.invariant-loop-line
invariant-loop-line l =
    (chunks_exact_size l.line-iterator ≡ 2) × (length l.amounts ≡ most_place + 1)
    × GoodLines most_place 0 (chunks_exact_rest l.line-iterator)
    × (entered l.amounts (chunks_exact_rest l.line-iterator) ≡ entered (replicate (most_place + 1) 0) l.list)
