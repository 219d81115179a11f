-- The maker's table slot by slot: what one slot laid over it leaves in each slot, when it is sound, and a table that has a label for each place.
use mathlib.Core.Path.{◌≡◌, ap, sym, ◌∙◌, refl}
use mathlib.Core.Logic.{◌⊎◌, inl, inr, ⊎_elim}
use mathlib.Core.Bool.{Bool, true, false, ◌||◌, cond, not, or-true}
use mathlib.Core.List.{List, [], ◌∷◌}
use Prim.Native.Nat.{ℕ, ◌+◌, ◌-◌, ◌*◌, ◌≤◌, ◌<◌}
use native.Mathlib.Omega.{arith}
use lib.ListN.{length, get_or, drop, take, replicate, length-replicate}
use lib.Seq.{drop-drop}
use lib.Dec.{eqb, ltb}
use borrow.Author.Tests.{ne_eqb, eqb-true, eqb-false, lt-ltb}
use Rattle.ground.specs.Lists.{allb, every, is_zero}
use Rattle.ground.specs.Laid.{laid}
use Rattle.ground.proofs.Laws.{below_or, every_at, allb_drop, allb_take, zeros_are, zeros_all, all_from_at, all_from_all}
use Rattle.ground.proofs.Laid.{length_laid, drop_laid}
use Rattle.register.specs.Number.{longest_number, good_number}
use Rattle.register.specs.Register.{slot_bytes, slot_at, slot_count, slot_good, slot_of, slots_of, unused_at, used_at, number_in, number_at}
use Rattle.register.proofs.Slots.{number_short, length_slot, slot_head, number_read}
use Rattle.register.proofs.Entered.{length_slot_of, number_of_slot, slot_of_good, entered_before, entered_here}
use Rattle.makers.specs.Makers.{zero_or_good, beyond_zero, makers_sound}

------------------------------------------------------------------------
-- One slot

-- no number, or a good one
abbrev pub NoneOrGood : List ℕ → Type 0
NoneOrGood n = (n ≡ []) ⊎ (good_number n ≡ true)

pub label_short : (n : List ℕ) → NoneOrGood n → length n ≤ longest_number
label_short n (inl e) = omega (arith, ap length e)
label_short n (inr g) = number_short n g

-- the slot of no number
slot_of_none : slot_of [] ≡ replicate slot_bytes 0
unfolding slot_of
slot_of_none = refl

-- a slot is all zeros where it has no number, and else not
slot_zero : (n : List ℕ) → allb is_zero (slot_of n) ≡ is_zero (length n)
unfolding allb slot_of
slot_zero [] = zeros_all slot_bytes
slot_zero (b ∷ n) = let e : is_zero (length (b ∷ n)) ≡ false = ne_eqb (length (b ∷ n)) 0 (λ z. omega arith) in rw e

-- zero or good, as a sound table asks
slot_passes : (n : List ℕ) → NoneOrGood n → (allb is_zero (slot_of n) || slot_good (slot_of n)) ≡ true
slot_passes n (inl e) = rw (slot_zero n, e)
slot_passes n (inr g) = rw (slot_of_good n (number_short n g) g, or-true)

-- a slot of zeros
zero_slot_lem : (n k : ℕ) → allb is_zero (slot_at (replicate n 0) k) ≡ true
unfolding slot_at
zero_slot_lem n k =
    allb_take is_zero slot_bytes (drop (k * slot_bytes) (replicate {A = ℕ} n 0)) (allb_drop is_zero (k * slot_bytes) (replicate {A = ℕ} n 0) (zeros_all n))

-- A slot laid over: the others are as they were (that it is there: `entered_here`)
module _ (M n : List ℕ) (m : ℕ) (room : m < slot_count M) (short : length n ≤ longest_number) where
  behind : (k : ℕ) → m < k → slot_at (laid M (m * slot_bytes) (slot_of n)) k ≡ slot_at M k
  unfolding slot_at
  behind k h =
      let a = m * slot_bytes + length (slot_of n) in
      let e : a + (k * slot_bytes - a) ≡ k * slot_bytes = omega (arith, length_slot_of n short) in
      let d : (l : List ℕ) → drop (k * slot_bytes - a) (drop a l) ≡ drop (k * slot_bytes) l = λ l. drop-drop (k * slot_bytes - a) a l ∙ ap (λ i. drop i l) e in
      ap (take slot_bytes) (sym (d (laid M (m * slot_bytes) (slot_of n)))
      ∙ ap (drop (k * slot_bytes - a)) (drop_laid M (m * slot_bytes) (slot_of n) (omega (arith, length_slot_of n short))) ∙ d M)

  pub other_slots : (k : ℕ) → (k ≡ m → ⊥) → slot_at (laid M (m * slot_bytes) (slot_of n)) k ≡ slot_at M k
  other_slots k d = ⊎_elim (λ h. entered_before M n m room short k h) (λ (h : m ≤ k). behind k (omega arith)) (below_or k m)

------------------------------------------------------------------------
-- A sound table

module _ (parts : ℕ) (M : List ℕ) where
  -- slot k is as a sound table has it
  abbrev pub SoundAt : ℕ → Type 0
  SoundAt k = (zero_or_good M k ≡ true) × (beyond_zero parts M k ≡ true)

  pub sound_each : makers_sound parts M ≡ true → (k : ℕ) → k < slot_count M → SoundAt k
  unfolding makers_sound
  sound_each e k u = (
    all_from_at (zero_or_good M) (slot_count M) 0 k (every_at _ 0 e) (omega arith) (omega arith),
    all_from_at (beyond_zero parts M) (slot_count M) 0 k (every_at _ 1 e) (omega arith) (omega arith),
  )

  pub each_sound : ((k : ℕ) → k < slot_count M → SoundAt k) → makers_sound parts M ≡ true
  unfolding makers_sound every
  each_sound f =
      let a : allb (zero_or_good M) (slots_of M) ≡ true = all_from_all (zero_or_good M) (slot_count M) 0 (λ k l u. (f k (omega arith)).0) in
      let b : allb (beyond_zero parts M) (slots_of M) ≡ true = all_from_all (beyond_zero parts M) (slot_count M) 0 (λ k l u. (f k (omega arith)).1) in
      rw (a, b)

-- zeros are sound
pub zeros_sound : (parts n : ℕ) → makers_sound parts (replicate n 0) ≡ true
unfolding zero_or_good beyond_zero
zeros_sound parts n =
    each_sound parts (replicate {A = ℕ} n 0) (λ k u. let z = zero_slot_lem n k in (rw z, rw (z, or-true)))

-- and so is a sound table in which the slot of a part has no number or a good one laid over it
module _ (parts : ℕ) (M n : List ℕ) (m : ℕ) (registered : m < parts) (room : m < slot_count M) (fits : NoneOrGood n) (sound : makers_sound parts M ≡ true) where
  sound_at : (k : ℕ) (b : Bool) → eqb k m ≡ b → k < slot_count M → SoundAt parts (laid M (m * slot_bytes) (slot_of n)) k
  unfolding zero_or_good beyond_zero
  sound_at k true e u =
      let q = eqb-true k m e in
      let h : slot_at (laid M (m * slot_bytes) (slot_of n)) k ≡ slot_of n = rw q (entered_here M n m room (label_short n fits)) in
      (rw h (slot_passes n fits), rw (lt-ltb k parts (omega arith)))
  sound_at k false e u =
      let o = sound_each parts M sound k u in
      rw (other_slots M n m room (label_short n fits) k (eqb-false k m e)) o

  pub sound_laid : makers_sound parts (laid M (m * slot_bytes) (slot_of n)) ≡ true
  sound_laid =
      each_sound parts (laid M (m * slot_bytes) (slot_of n)) (λ k u. sound_at k (eqb k m) refl (omega (arith, length_laid M (m * slot_bytes) (slot_of n))))

------------------------------------------------------------------------
-- A table that has a label for each place, or none

pub record Labelled (slots : ℕ) (L : ℕ → List ℕ) (M : List ℕ) : Type 0 where
  pub sized : length M ≡ slots * slot_bytes
  pub holds : (k : ℕ) → k < slots → slot_at M k ≡ slot_of (L (k + 1))
  pub good : (k : ℕ) → k < slots → NoneOrGood (L (k + 1))

pub zeros_labelled : (slots : ℕ) → Labelled slots (λ p. []) (replicate (slots * slot_bytes) 0)
zeros_labelled slots =
    let Z : List ℕ = replicate (slots * slot_bytes) 0 in
    let len : length Z ≡ slots * slot_bytes = length-replicate (slots * slot_bytes) 0 in
    record {
      sized = len;
      holds =
          λ k u. zeros_are (slot_at Z k) (zero_slot_lem (slots * slot_bytes) k) ∙ ap (λ n. replicate n 0) (length_slot Z k (omega arith)) ∙ sym slot_of_none;
      good = λ k u. inl refl;
    }

-- with another label for one place
module _ {slots : ℕ} {L : ℕ → List ℕ} {M : List ℕ} (H : Labelled slots L M) (p : ℕ) (n : List ℕ) (some : 0 < p) (inside : p ≤ slots) (fits : NoneOrGood n) where
  abbrev laid_in : List ℕ
  laid_in = laid M ((p - 1) * slot_bytes) (slot_of n)

  room : p - 1 < slot_count M
  room = omega (arith, H.sized)

  labels_at : (k : ℕ) (b : Bool) → eqb (k + 1) p ≡ b → k < slots → (slot_at laid_in k ≡ slot_of (cond b n (L (k + 1)))) × NoneOrGood (cond b n (L (k + 1)))
  labels_at k true e u =
      let q : k ≡ p - 1 = omega (arith, eqb-true (k + 1) p e) in
      (rw q (entered_here M n (p - 1) room (label_short n fits)), fits)
  labels_at k false e u =
      let d : k ≡ p - 1 → ⊥ = λ z. eqb-false (k + 1) p e (omega arith) in
      (other_slots M n (p - 1) room (label_short n fits) k d ∙ H.holds k u, H.good k u)

  pub labelled_laid : Labelled slots (λ q. cond (eqb q p) n (L q)) (laid M ((p - 1) * slot_bytes) (slot_of n))
  labelled_laid = record {
    sized = length_laid M ((p - 1) * slot_bytes) (slot_of n) ∙ H.sized;
    holds = λ k u. (labels_at k (eqb (k + 1) p) refl u).0;
    good = λ k u. (labels_at k (eqb (k + 1) p) refl u).1;
  }

-- What such a table shows of slot k
module _ {slots : ℕ} {L : ℕ → List ℕ} {M : List ℕ} (H : Labelled slots L M) (k : ℕ) (u : k < slots) where
  pub labelled_zero_or_good : zero_or_good M k ≡ true
  unfolding zero_or_good
  labelled_zero_or_good = rw (H.holds k u) (slot_passes (L (k + 1)) (H.good k u))

  pub labelled_beyond : (parts : ℕ) → beyond_zero parts M k ≡ (ltb k parts || is_zero (length (L (k + 1))))
  unfolding beyond_zero
  labelled_beyond parts = rw (H.holds k u, slot_zero (L (k + 1)))

  labelled_head : get_or (slot_at M k) 0 0 ≡ length (L (k + 1))
  unfolding slot_of
  labelled_head = ap (λ s. get_or s 0 0) (H.holds k u)

  pub labelled_used : used_at M k ≡ not (is_zero (length (L (k + 1))))
  unfolding used_at unused_at
  labelled_used = ap (λ i. not (is_zero i)) labelled_head

  pub labelled_read : take (get_or M (k * slot_bytes) 0) (drop (k * slot_bytes + 1) M) ≡ L (k + 1)
  unfolding number_at
  labelled_read =
      let short = label_short (L (k + 1)) (H.good k u) in
      sym (number_read M k (omega (arith, labelled_head, slot_head M k))) ∙ ap number_in (H.holds k u) ∙ number_of_slot (L (k + 1)) short
