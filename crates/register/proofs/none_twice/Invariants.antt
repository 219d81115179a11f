use Rattle.repeats.proofs.Repeats.{Offsets}
use Rattle.register.proofs.Offsets.{slot_start}
use Rattle.register.proofs.none_twice.Given as goal

-- the offsets of the slots passed are set down
abbrev pub invariant-loop-k : goal.invariant-loop-k
invariant-loop-k l = Offsets slot_start l.offsets l.k
