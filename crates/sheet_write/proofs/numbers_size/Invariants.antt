use mathlib.Core.Path.{◌≡◌}
use Prim.Native.Nat.{◌+◌, ◌-◌, ◌*◌, ◌≤◌}
use lib.ListN.{length}
use Rattle.sheet.specs.Inner.{most_item}
use Rattle.sheet_write.specs.Inner.{numbers_from}
use Rattle.sheet_write.proofs.numbers_size.Given as goal

abbrev pub invariant-loop-k : goal.invariant-loop-k
invariant-loop-k l =
    (l.total + length (numbers_from l.reg l.k (l.n - l.k)) ≡ length (numbers_from l.reg 0 l.n)) × (l.total ≤ most_item * l.k)
