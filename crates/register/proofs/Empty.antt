-- A register of zeros is sound, and has no parts.
use mathlib.Core.Path.{◌≡◌, refl}
use mathlib.Core.Bool.{true}
use mathlib.Core.List.{List, []}
use Prim.Native.Nat.{ℕ, ◌*◌, ◌%◌, ◌≤◌}
use native.Mathlib.Omega.{arith}
use lib.ListN.{length, replicate}
use lib.Dec.{leb, eqb}
use borrow.Author.Tests.{eq-eqb, le-leb}
use Rattle.ground.specs.Limits.{most_parts}
use Rattle.ground.specs.Lists.{every, distinct, from}
use Rattle.ground.proofs.Laws.{zeros_all}
use Rattle.register.specs.Register.{slot_bytes, parts_of, register_length}
use Rattle.register.specs.Inner.{Ready}
use Rattle.register.proofs.Sound.{Holds, holds_sound, holds_parts}

-- so many slots are a right length
pub slots_fit : (n : ℕ) (R : List ℕ) → 1 ≤ n → n ≤ most_parts → length R ≡ n * slot_bytes → register_length R ≡ true
unfolding register_length every
slots_fit n R h g e =
    let a : eqb (length R % slot_bytes) 0 ≡ true = eq-eqb (length R % slot_bytes) 0 (omega arith) in
    let b : leb slot_bytes (length R) ≡ true = le-leb slot_bytes (length R) (omega arith) in
    let c : leb (length R) (most_parts * slot_bytes) ≡ true = le-leb (length R) (most_parts * slot_bytes) (omega arith) in
    rw (a, b, c)

module _ (n : ℕ) where
  holds_none : Holds (replicate n 0) 0
  unfolding from distinct
  holds_none = record { inside = omega arith; good = λ k u. absurd (omega arith); rest = zeros_all n; once = refl }

  pub zeros_ready : register_length (replicate n 0) ≡ true → Ready (replicate n 0)
  zeros_ready fits = record { fits = fits; sound = holds_sound (replicate {A = ℕ} n 0) 0 holds_none }

  pub zeros_parts : parts_of (replicate n 0) ≡ []
  unfolding from
  zeros_parts = holds_parts (replicate {A = ℕ} n 0) 0 holds_none
