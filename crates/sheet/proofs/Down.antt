-- What a writer answers that counts before it writes: 12 with the bytes needed in all, or done with those that it set down.
use mathlib.Core.Path.{◌≡◌}
use mathlib.Core.List.{List, []}
use Prim.Native.Nat.{ℕ, ◌≤◌, ◌<◌}
use native.Mathlib.Omega.{arith}
use lib.ListN.{length}
use Rattle.ground.specs.Laid.{Put}
use Rattle.ground.specs.Calls.{done, refused, Promise, set_down}
use Rattle.ground.proofs.Calls.{set_down_full, set_down_done}

module _ (bs o : List ℕ) (n : ℕ) (need : n ≡ length bs) where
  pub down_12 : length o < n → Promise (set_down [] bs o) o (refused 12 n) o
  down_12 h = rw need (set_down_full bs o (omega (arith, need)))

  pub down_done : (m : List ℕ) (r : ℕ) → n ≤ length o → Put o 0 bs r m → Promise (set_down [] bs o) o (done r) m
  down_done m r h d = let e : r ≡ length bs = omega (arith, d.behind) in rw (e, d.lies) (set_down_done bs o (omega (arith, need)))
