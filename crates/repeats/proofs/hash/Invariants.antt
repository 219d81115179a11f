use mathlib.Core.Path.{◌≡◌}
use Prim.Native.Nat.{◌<◌}
use lib.ListN.{drop}
use Rattle.repeats.specs.Inner.{hash_room, hash_from, hash_of}
use Rattle.repeats.proofs.hash.Given as goal

-- the bytes passed have made h: on from there, the rest make the hash of all
abbrev pub invariant-loop-b : goal.invariant-loop-b
invariant-loop-b l = (l.h < hash_room) × (hash_from l.h (drop l.b-index l.num) ≡ hash_of l.num)
