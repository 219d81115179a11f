-- Slots of the maker's table: what a slot lent and cleared leaves, a slot laid over, and when the table is sound, slot by slot.
use mathlib.Core.Path.{◌≡◌, ap, sym, ◌∙◌, refl}
use mathlib.Core.Logic.{◌⊎◌, inl, inr}
use mathlib.Core.Bool.{Bool, true, false, ◌&&◌, ◌||◌, or-true, false≢true}
use mathlib.Core.List.{List, [], ◌++◌}
use Prim.Native.Nat.{ℕ, zero, suc, ◌+◌, ◌-◌, ◌*◌, ◌≤◌, ◌<◌}
use native.Mathlib.Omega.{arith}
use lib.ListN.{length, drop, get_or, take, replicate, length-replicate, take-append-drop, drop_of_length-le}
use lib.Seq.{drop-drop}
use lib.Dec.{ltb}
use borrow.Author.Tests.{lt-ltb, le-ltb}
use borrow.Rule.Slice.PartMut.{put_mid}
use Rattle.ground.specs.Lists.{allb, from, is_zero}
use Rattle.ground.specs.Laid.{laid, zeroed}
use Rattle.ground.proofs.Laws.{same_cases, or_no, below_or, allb_append, zeros_at, zeros_all, all_from_at, all_from_all}
use Rattle.ground.proofs.Laid.{laid_is, length_laid, drop_laid, part_before, part_laid}
use Rattle.register.specs.Number.{longest_number}
use Rattle.register.specs.Register.{slot_bytes, slot_at, slot_of, slot_count, slot_good, register_length}
use Rattle.register.proofs.Slots.{slot_head, length_slot, slot_part, slot_short}
use Rattle.register.proofs.Sound.{whole}
use Rattle.register.proofs.Entered.{length_slot_of}
use Rattle.makers.specs.Makers.{zero_or_good, beyond_zero, makers_sound}
use Rattle.makers.proofs.Labels.{each_sound, sound_each}

-- the middle `&mut l[a..e]` was lent to a call that left bs in it, and has come back: what the whole is
mid_lent : (l : List ℕ) (a e : ℕ) (bs : List ℕ) → e ≡ a + length bs → e ≤ length l → put_mid a (e - a) l bs ≡ laid l a bs
mid_lent l a e bs is h =
    let n : a + (e - a) ≡ a + length bs = omega arith in
    rw (laid_is l a bs (omega arith), drop-drop, n)

-- laid over what was laid there before, of the same length
laid_over : (l : List ℕ) (a : ℕ) (bs cs : List ℕ) → length bs ≡ length cs → a + length bs ≤ length l → laid (laid l a bs) a cs ≡ laid l a cs
laid_over l a bs cs e h =
    let f : take a (laid l a bs) ≡ take a l = part_before l a bs h 0 a (omega arith) in
    let d : drop (a + length cs) (laid l a bs) ≡ drop (a + length cs) l = rw e at (drop_laid l a bs h) in
    rw (laid_is (laid l a bs) a cs (omega (arith, length_laid l a bs)), laid_is l a cs (omega arith), f, d)

-- Slot k of a table, cleared
module _ (M : List ℕ) (k : ℕ) (room : k < slot_count M) where
  zeros_fit : k * slot_bytes + length (replicate {A = ℕ} slot_bytes 0) ≤ length M
  zeros_fit = omega (arith, length-replicate {A = ℕ} slot_bytes 0)

  pub slot_cleared : (last : List ℕ) → last ≡ zeroed (take (k * slot_bytes + 32 - k * slot_bytes) (drop (k * slot_bytes) M)) →
      put_mid (k * slot_bytes) (k * slot_bytes + 32 - k * slot_bytes) M last ≡ laid M (k * slot_bytes) (replicate slot_bytes 0)
  slot_cleared last e =
      let z : last ≡ replicate slot_bytes 0 = e ∙ ap zeroed (slot_part M k) ∙ ap (λ n. replicate n 0) (length_slot M k room) in
      rw z (mid_lent M (k * slot_bytes) (k * slot_bytes + 32) (replicate slot_bytes 0) (omega (arith, length-replicate {A = ℕ} slot_bytes 0)) (omega arith))

  -- the table N with the slot cleared
  module _ (N : List ℕ) (is : N ≡ laid M (k * slot_bytes) (replicate slot_bytes 0)) where
    cleared_length : length N ≡ length M
    cleared_length = ap length is ∙ length_laid M (k * slot_bytes) (replicate slot_bytes 0)

    pub cleared_room : k < slot_count N
    cleared_room = omega (arith, cleared_length)

    pub cleared_zero : allb is_zero (slot_at N k) ≡ true
    unfolding slot_at
    cleared_zero = rw (is, part_laid M (k * slot_bytes) (replicate slot_bytes 0) zeros_fit) (zeros_all slot_bytes)

    -- and the number then laid in it
    module _ (n O : List ℕ) (short : length n ≤ longest_number) (set : O ≡ laid N (k * slot_bytes) (slot_of n)) where
      pub slot_set_lem : O ≡ laid M (k * slot_bytes) (slot_of n)
      slot_set_lem =
          set ∙ ap (λ l. laid l (k * slot_bytes) (slot_of n)) is ∙ laid_over M (k * slot_bytes) (replicate slot_bytes 0) (slot_of n)
          (length-replicate {A = ℕ} slot_bytes 0 ∙ sym (length_slot_of n short)) zeros_fit

-- a tail is all zeros when each of its slots is
zero_tail : (M : List ℕ) (d m : ℕ) → length M ≡ (m + d) * slot_bytes →
    allb is_zero (drop (m * slot_bytes) M) ≡ allb (λ k. allb is_zero (slot_at M k)) (from m d)
unfolding slot_at from allb
zero_tail M zero m len =
    let h : length M ≤ m * slot_bytes = omega arith in
    let e : drop (m * slot_bytes) M ≡ [] = drop_of_length-le M h in
    ap (allb is_zero) e
zero_tail M (suc d) m len =
    let e : m * slot_bytes + 32 ≡ suc m * slot_bytes = omega arith in
    let s : drop (m * slot_bytes) M ≡ take slot_bytes (drop (m * slot_bytes) M) ++ drop (suc m * slot_bytes) M = sym
    (take-append-drop slot_bytes (drop (m * slot_bytes) M)) ∙ ap (λ x. take slot_bytes (drop (m * slot_bytes) M) ++ x) (rw (drop-drop, e)) in
    ap (allb is_zero) s ∙ allb_append is_zero (take slot_bytes (drop (m * slot_bytes) M)) (drop (suc m * slot_bytes) M)
    ∙ ap (λ b. allb is_zero (take slot_bytes (drop (m * slot_bytes) M)) && b) (zero_tail M d (suc m) (omega arith))

-- Soundness, slot by slot: the first m are zero or good, and the rest is zero
module _ (M : List ℕ) (m : ℕ) (fits : register_length M ≡ true) (h : m ≤ slot_count M) where
  tail : allb is_zero (drop (m * slot_bytes) M) ≡ allb (λ k. allb is_zero (slot_at M k)) (from m (slot_count M - m))
  tail = zero_tail M (slot_count M - m) m (omega (arith, whole M fits))

  sound_first : makers_sound m M ≡ true → allb (zero_or_good M) (from 0 m) ≡ true
  sound_first e = all_from_all (zero_or_good M) m 0 (λ k l u. (sound_each m M e k (omega arith)).0)

  sound_rest : makers_sound m M ≡ true → allb is_zero (drop (m * slot_bytes) M) ≡ true
  unfolding beyond_zero
  sound_rest e =
      tail ∙ all_from_all (λ k. allb is_zero (slot_at M k)) (slot_count M - m) m
      (λ k l u. or_no (ltb k m) (allb is_zero (slot_at M k)) (sound_each m M e k (omega arith)).1 (le-ltb k m l))

  both_sound : allb (zero_or_good M) (from 0 m) ≡ true → allb is_zero (drop (m * slot_bytes) M) ≡ true → makers_sound m M ≡ true
  unfolding beyond_zero zero_or_good
  both_sound f z = each_sound m M (λ k u. at k u (below_or k m))
    where
      at : (k : ℕ) → k < slot_count M → (k < m) ⊎ (m ≤ k) → (zero_or_good M k ≡ true) × (beyond_zero m M k ≡ true)
      at k u (inl l) = (all_from_at (zero_or_good M) m 0 k f (omega arith) (omega arith), rw (lt-ltb k m l))
      at k u (inr l) =
          let s = all_from_at (λ k. allb is_zero (slot_at M k)) (slot_count M - m) m k (sym tail ∙ z) l (omega arith) in
          (rw s, rw (s, or-true))

  -- so the check has to look at these alone
  pub first_bad : allb (zero_or_good M) (from 0 m) ≡ false → makers_sound m M ≡ false
  first_bad e = same_cases (makers_sound m M) false (λ s. sym e ∙ sound_first s) (λ f. absurd (false≢true f))

  pub rest_decides : allb (zero_or_good M) (from 0 m) ≡ true → allb is_zero (drop (m * slot_bytes) M) ≡ makers_sound m M
  rest_decides f = same_cases (allb is_zero (drop (m * slot_bytes) M)) (makers_sound m M) (both_sound f) sound_rest

-- In a sound table each length byte leaves its number inside its slot
pub makers_short : (M : List ℕ) (m k : ℕ) → makers_sound m M ≡ true → k < slot_count M → get_or M (k * slot_bytes) 0 ≤ longest_number
unfolding zero_or_good
makers_short M m k e u = go (allb is_zero (slot_at M k)) refl (sound_each m M e k u).0
  where
    go : (b : Bool) → allb is_zero (slot_at M k) ≡ b → (b || slot_good (slot_at M k)) ≡ true → get_or M (k * slot_bytes) 0 ≤ longest_number
    go true z f = omega (arith, zeros_at (slot_at M k) 0 z, slot_head M k)
    go false z f = omega (arith, slot_short (slot_at M k) (length_slot M k u) f, slot_head M k)
