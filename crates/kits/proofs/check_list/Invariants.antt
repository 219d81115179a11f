use Rattle.std.proofs.Common.{◌≡◌, ◌+◌}
use Rattle.std.specs.Iterator.Adapters.{enumerate_source, enumerate_count}
use Rattle.std.specs.Slice.Iter.{chunks_exact_rest, chunks_exact_size}
use Rattle.ground.specs.Calls.{decide}
use Rattle.kits.specs.Kits.{lines_faults, list_faults}
use Rattle.kits.proofs.check_list.Given as goal

abbrev pub invariant-loop-i : goal.invariant-loop-i
invariant-loop-i l =
    let lines = enumerate_source l.i-iterator in
    (chunks_exact_size lines ≡ 2)
    × (decide (lines_faults l.parts l.prev (enumerate_count l.i-iterator + 1) (chunks_exact_rest lines)) 0 ≡ decide (list_faults l.parts l.list) 0)
