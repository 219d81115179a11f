use Prim.Native.Nat.{◌+◌, ◌*◌, ◌≤◌}
use Rattle.ground.specs.Limits.{byte_limit}
use Rattle.repeats.specs.Inner.{entry_of, Hashed}
use Rattle.repeats.proofs.Repeats.{Offsets}
use Rattle.sheet.specs.Inner.{head_bytes, end_at}
use Rattle.sheet_judge.proofs.Numbers.{Numbering}
use Rattle.sheet_judge.proofs.read_numbers.Given as goal

abbrev pub invariant-loop-k : goal.invariant-loop-k
invariant-loop-k l =
    Numbering l.s l.n l.k l.at × (l.at ≤ head_bytes + byte_limit * l.k) × Offsets (end_at l.s head_bytes) l.offsets l.k
    × Hashed (entry_of l.s l.offsets) l.lasts l.earlier l.k
