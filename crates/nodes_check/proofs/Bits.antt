-- One bit of a word: read, and set.
use mathlib.Core.Path.{◌≡◌, sym, ap, ◌∙◌}
use mathlib.Core.Logic.{◌≢◌, ⊎_elim}
use Prim.Native.Nat.{ℕ, zero, suc, ◌+◌, ◌-◌, ◌*◌, ◌/◌, ◌%◌, ◌^◌, ◌≤◌, ◌<◌}
use native.Mathlib.Omega.{arith}
use lib.Bits.{bit_and, bit_or, and_mask, or_shr, or_mod, or_zero_l, or_zero_r, or_self, shifted_even}
use lib.Pow.{pow-lt, pow-add, shl-shr, shl_exact, shr_lt, shr_le}
use native.Mathlib.Nat.{mul_assoc, zero-add}
use Rattle.ground.proofs.Laws.{below_or}
use Rattle.nodes_check.specs.Inner.{word_bits, bit, With}

pub bit_read : (w b : ℕ) → bit_and (w / 2 ^ b) 1 ≡ bit w b
unfolding bit
bit_read w b = and_mask (w / 2 ^ b) 1

pub bit_two : (w b : ℕ) → bit w b < 2
unfolding bit
bit_two w b = omega arith

pub bit_none : (b : ℕ) → bit 0 b ≡ 0
unfolding bit
bit_none b = omega (arith, shr_le 0 b)

-- a bit of two words together
bit_or_lem : (v w b : ℕ) → bit (bit_or v w) b ≡ bit_or (bit v b) (bit w b)
unfolding bit
bit_or_lem v w b = ap (λ (x : ℕ). x % 2) (or_shr v w b) ∙ or_mod (v / 2 ^ b) (w / 2 ^ b) 1

or_one : (x : ℕ) → x < 2 → bit_or x 1 ≡ 1
or_one zero h = or_zero_l 1
or_one (suc zero) h = or_self 1
or_one (suc (suc x)) h = absurd (omega arith)

power_own : (b : ℕ) → bit (1 * 2 ^ b) b ≡ 1
unfolding bit
power_own b = ap (λ (x : ℕ). x % 2) (shl-shr 1 b)

power_other : (b c : ℕ) → c ≢ b → bit (1 * 2 ^ b) c ≡ 0
unfolding bit
power_other b c n = ⊎_elim
    (λ (h : c < b).
    let d : ℕ = b - (c + 1) in
    let e : b ≡ suc d + c = omega arith in
    let p : 1 * 2 ^ b ≡ (1 * 2 ^ suc d) * 2 ^ c = ap (λ (x : ℕ). 1 * 2 ^ x) e ∙ ap (λ (x : ℕ). 1 * x) (pow-add 2 (suc d) c) ∙ sym
    (mul_assoc 1 (2 ^ suc d) (2 ^ c)) in
    ap (λ (x : ℕ). x / 2 ^ c % 2) p ∙ ap (λ (x : ℕ). x % 2) (shl-shr (1 * 2 ^ suc d) c) ∙ shifted_even 1 d)
    (λ (h : b ≤ c).
    let l : 1 * 2 ^ b < 2 ^ (0 + c) = omega (arith, pow-lt {i = b} {j = c} (omega arith), ap (λ (x : ℕ). 2 ^ x) (zero-add c)) in
    let z : 1 * 2 ^ b / 2 ^ c ≡ 0 = omega (arith, shr_lt {n = 1 * 2 ^ b} 0 c l) in
    ap (λ (x : ℕ). x % 2) z)
    (below_or c b)

pub bit_written : (w b : ℕ) → b < word_bits → With w b (bit_or w ((1 * 2 ^ b) % 2 ^ word_bits))
bit_written w b h = rw (shl_exact {a = 1} 1 b word_bits (omega arith) (omega arith)) (record {
  there = bit_or_lem w (1 * 2 ^ b) b ∙ ap (bit_or (bit w b)) (power_own b) ∙ or_one (bit w b) (bit_two w b);
  others = λ c n. bit_or_lem w (1 * 2 ^ b) c ∙ ap (bit_or (bit w c)) (power_other b c n) ∙ or_zero_r (bit w c);
})
