use Rattle.sheet_read.proofs.Slots.{Entering}
use Rattle.sheet_read.proofs.fill_register.Given as goal

abbrev pub invariant-loop-k : goal.invariant-loop-k
invariant-loop-k l = Entering l.s l.n l.initial.reg l.reg l.at l.k
