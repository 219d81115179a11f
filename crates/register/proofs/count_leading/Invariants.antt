use mathlib.Core.Path.{◌≡◌}
use Prim.Native.Nat.{◌-◌}
use Rattle.ground.specs.Lists.{first_or, from}
use Rattle.register.specs.Register.{slot_count, unused_at}
use Rattle.register.specs.Inner.{leading}
use Rattle.register.proofs.count_leading.Given as goal

-- all slots passed are used: the first unused one of the rest is the first of all
abbrev pub invariant-loop-k : goal.invariant-loop-k
invariant-loop-k l = (l.n ≡ slot_count l.reg) × (first_or l.n (unused_at l.reg) (from l.k (l.n - l.k)) ≡ leading l.reg)
