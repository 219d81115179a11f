-- Laws of what is kept of a line while it is read in pieces.
use mathlib.Core.Path.{◌≡◌, refl, ap}
use mathlib.Core.List.{List}
use Prim.Native.Nat.{ℕ, ◌+◌, ◌-◌, ◌≤◌, ◌<◌}
use native.Mathlib.Omega.{arith}
use lib.ListN.{length, take}
use lib.Seq.{length-take-le, take_all}
use Rattle.ground.specs.Laid.{laid, Put}
use Rattle.ground.proofs.Laid.{length_laid}
use Rattle.desk_input.specs.Inner.{part_kept}

module _ (old : List ℕ) (n : ℕ) (bs : List ℕ) where
  pub room_length : length old - n < length bs → length (take (length old - n) bs) ≡ length old - n
  room_length h = length-take-le (length old - n) bs (omega arith)

  -- more bytes than there is room for, and no more than that
  module _ (new : List ℕ) (h : n ≤ length old) where
    pub kept_full : length old - n < length bs → new ≡ laid old n (part_kept old n bs) → Put old n (part_kept old n bs) (length new) new
    kept_full g e = record { behind = omega (arith, ap length e, length_laid old n (part_kept old n bs), room_length g); lies = e }

    pub kept_all : length bs ≤ length old - n → new ≡ laid old n bs → Put old n (part_kept old n bs) (n + length bs) new
    kept_all g e = rw (take_all (length old - n) bs g) (record { behind = refl; lies = e })
