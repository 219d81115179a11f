use Prim.Native.Nat.{◌-◌}
use Rattle.ground.proofs.Put.{Rest}
use Rattle.sheet_write.specs.Inner.{numbers_from}
use Rattle.sheet_write.proofs.put_numbers.Given as goal

abbrev pub invariant-loop-k : goal.invariant-loop-k
invariant-loop-k l = Rest l.initial.out 0 (numbers_from l.reg 0 l.n) l.out l.at (numbers_from l.reg l.k (l.n - l.k))
