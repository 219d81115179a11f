use mathlib.Core.Path.{◌≡◌}
use Prim.Native.Nat.{◌-◌}
use Rattle.ground.specs.Lists.{first_or, from}
use Rattle.register.specs.Inner.{holds_at}
use Rattle.register.proofs.find_place.Given as goal

-- no slot passed holds the number: the first of the rest that does is the first of all
abbrev pub invariant-loop-k : goal.invariant-loop-k
invariant-loop-k l =
    first_or l.parts (holds_at l.reg l.num) (from l.k (l.parts - l.k)) ≡ first_or l.parts (holds_at l.reg l.num) (from 0 l.parts)
