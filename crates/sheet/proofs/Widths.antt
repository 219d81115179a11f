-- The version of so many parts, and the width of a place in it: what holds of one byte and of two holds of every width.
use mathlib.Core.Path.{◌≡◌, refl}
use mathlib.Core.Bool.{Bool, true, false, cond}
use mathlib.Core.List.{List}
use Prim.Native.Nat.{ℕ, zero, suc, ◌*◌, ◌/◌, ◌%◌, ◌^◌, ◌≤◌, ◌<◌}
use native.Mathlib.Omega.{arith}
use lib.ListN.{take, set}
use lib.Dec.{leb, eqb}
use borrow.Author.Tests.{leb-true, leb-false, le-leb, eq-eqb}
use Rattle.ground.specs.Limits.{byte_limit, most_parts}
use Rattle.ground.specs.Lists.{anyb, every}
use Rattle.ground.specs.Laid.{Put}
use Rattle.ground.proofs.Put.{put_one}
use Rattle.sheet.specs.Bytes.{from_bytes, in_bytes, two, two_bytes}
use Rattle.sheet.specs.Sheet.{most_narrow, version, bytes_of, line_bytes}
use Rattle.sheet.specs.declared.Width as places
use Rattle.sheet.specs.declared.Width.TheVariants.{Narrow, Wide}
use Rattle.sheet.specs.Inner.{widest, Width}
use Rattle.sheet.specs.Reading.{versions, is_version, good_part_count}
use Rattle.sheet.proofs.Numbers.{two_back}

------------------------------------------------------------------------
-- Widths

-- what holds of one byte and of two
pub by_width : (P : ℕ → Type 0) {w : ℕ} → Width w → P 1 → P 2 → P w
by_width P {w} h a b = go w h.some_byte h.few_bytes
  where
    go : (w : ℕ) → 0 < w → w ≤ widest → P w
    go zero k l = absurd (omega arith)
    go (suc zero) k l = a
    go (suc (suc zero)) k l = b
    go (suc (suc (suc w))) k l = absurd (omega arith)

pub some_width : (w : places.Width) → Width (bytes_of w)
some_width Narrow = record { some_byte = omega arith; few_bytes = omega arith }
some_width Wide = record { some_byte = omega arith; few_bytes = omega arith }

-- so many lines take so many bytes, and so many bytes are so many lines
pub lines_over : {w : ℕ} → Width w → (n : ℕ) → n * line_bytes w / line_bytes w ≡ n
lines_over h n = by_width (λ (w : ℕ). n * line_bytes w / line_bytes w ≡ n) h (omega arith) (omega arith)

pub lines_most : {w : ℕ} → Width w → (n m : ℕ) → n ≤ m → n * line_bytes w ≤ 3 * m
lines_most h n m k = by_width (λ (w : ℕ). n * line_bytes w ≤ 3 * m) h (omega arith) (omega arith)

------------------------------------------------------------------------
-- Versions

-- one byte a place up to 255 parts, and two beyond
pub data Versioned (n v : ℕ) : Type 0 where
  narrow : n ≤ most_narrow → v ≡ 1 → Versioned n v
  wide : most_narrow < n → v ≡ 2 → Versioned n v

pub versioned : (n : ℕ) → Versioned n (version n)
unfolding version
versioned n = go (leb n most_narrow) refl
  where
    go : (x : Bool) → leb n most_narrow ≡ x → Versioned n (cond x 1 2)
    go true e = narrow (leb-true n most_narrow e) refl
    go false e = wide (leb-false n most_narrow e) refl

module _ (n : ℕ) where
  pub version_width : Width (version n)
  version_width = go (versioned n)
    where
      go : Versioned n (version n) → Width (version n)
      go (narrow h e) = record { some_byte = omega arith; few_bytes = omega arith }
      go (wide h e) = record { some_byte = omega arith; few_bytes = omega arith }

  -- every place has room in the bytes of its version
  pub version_room : n ≤ most_parts → n < byte_limit ^ version n
  version_room k = go (versioned n)
    where
      go : Versioned n (version n) → n < byte_limit ^ version n
      go (narrow h e) = rw e (omega arith)
      go (wide h e) = rw e (omega arith)

  pub version_back : from_bytes (two (version n)) ≡ version n
  version_back = two_back (version n) (omega (arith, version_width.few_bytes))

  pub version_good : is_version (two (version n)) ≡ true
  unfolding is_version anyb
  version_good = rw version_back (go (versioned n))
    where
      go : Versioned n (version n) → anyb (eqb (version n)) versions ≡ true
      go (narrow h e) = rw e refl
      go (wide h e) = rw e refl

  pub count_good : n ≤ most_parts → good_part_count (from_bytes (two (version n))) (two n) ≡ true
  unfolding good_part_count every
  count_good h =
      let e : from_bytes (two n) ≡ n = two_back n (omega arith) in
      rw (e, version_back, le-leb n most_parts h, eq-eqb (version n) (version n) refl)

------------------------------------------------------------------------
-- A place of two bytes, and of one

pub wide_value : {w x : ℕ} (bs : List ℕ) → w ≡ 2 → x ≡ from_bytes (take two_bytes bs) → x ≡ from_bytes (take w bs)
wide_value bs e h = rw e h

pub wide-place : {w r : ℕ} {l m : List ℕ} (p : ℕ) → w ≡ 2 → Put l 0 (two p) r m → Put l 0 (in_bytes w p) r m
wide-place p e h = rw e h

pub narrow-place : {w : ℕ} (p : ℕ) (l : List ℕ) → Width w → (w ≡ 2 → ⊥) → Put l 0 (in_bytes w p) w (set l 0 (p % byte_limit))
unfolding in_bytes
narrow-place {w} p l h n =
    let e : w ≡ 1 = omega (arith, h.some_byte, h.few_bytes) in
    rw e (put_one l 0 (p % byte_limit))
