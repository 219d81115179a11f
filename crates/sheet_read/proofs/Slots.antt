-- The register filled with numbers, slot by slot.
use mathlib.Core.Path.{◌≡◌, refl, ap, sym, subst, ◌∙◌}
use mathlib.Core.Logic.{⊎_elim}
use mathlib.Core.Bool.{true}
use mathlib.Core.List.Memᴰ
use mathlib.Core.List.{List, [], ◌∷◌, ◌++◌, map, append_assoc, append-nil, Memᴰ}
use Prim.Native.Nat.{ℕ, zero, suc, ◌+◌, ◌-◌, ◌*◌, ◌≤◌, ◌<◌}
use native.Mathlib.Numerals.{add-one}
use native.Mathlib.Omega.{arith}
use lib.ListN.{length, take, drop, get_or, replicate, length-append, length-drop, length-replicate}
use lib.Seq.{drop-cons, length-take-le}
use Rattle.ground.specs.Lists.{allb, concat, is_zero}
use Rattle.ground.specs.Laid.{laid, zeroed}
use Rattle.ground.proofs.Laws.{zeros_all, allb_drop, allb_take}
use Rattle.ground.proofs.Laid.{laid_nil, laid_laid, laid_cons, drop_laid, length_laid}
use Rattle.repeats.specs.Inner.{number_here, next_place}
use Rattle.register.specs.Number.{longest_number}
use Rattle.register.specs.Register.{slot_bytes, slot_of, slot_at, slot_count, register_length, register_of}
use Rattle.register.proofs.Entered.{length_slot_of, slot_written}
use Rattle.register.proofs.Sound.{whole}
use Rattle.sheet.specs.Sheet.{number_item}
use Rattle.sheet.specs.Inner.{head_bytes, numbers_at, end_at}
use Rattle.sheet.proofs.Places.{end_last, numbers_at_last, numbers_many}
use Rattle.sheet_read.specs.Inner.{NumberStands, NumbersStand}

-- numbers that slots have room for
abbrev pub Shorts : List (List ℕ) → Type 0
Shorts ps = (p : List ℕ) → Memᴰ p ps → length p ≤ longest_number

shorts_more : (ps : List (List ℕ)) (p : List ℕ) → Shorts ps → length p ≤ longest_number → Shorts (ps ++ (p ∷ []))
shorts_more ps p f h q m = ⊎_elim (λ k. f q k) (λ k. let e : q ≡ p = Memᴰ.eq_of_singleton k in rw e h) (Memᴰ.append_cases ps m)

-- slots one behind the other
slots_append : (a b : List (List ℕ)) → concat (map slot_of (a ++ b)) ≡ concat (map slot_of a) ++ concat (map slot_of b)
unfolding concat
slots_append [] b = refl
slots_append (x ∷ a) b = rw append_assoc (ap (λ (y : List ℕ). slot_of x ++ y) (slots_append a b))

pub slots_long : (ps : List (List ℕ)) → Shorts ps → length (concat (map slot_of ps)) ≡ length ps * slot_bytes
unfolding concat
slots_long [] f = refl
slots_long (p ∷ ps) f =
    length-append (slot_of p) (concat (map slot_of ps))
    ∙ (omega (arith, length_slot_of p (f p (Memᴰ.head refl)), slots_long ps (λ q m. f q (Memᴰ.tail m))))

slots_one : (p : List ℕ) → concat (map slot_of (p ∷ [])) ≡ slot_of p
unfolding concat
slots_one p = append-nil (slot_of p)

module _ (m : ℕ) where
  pub register_none : replicate (m * slot_bytes) 0 ≡ register_of m []
  unfolding register_of concat
  register_none = sym (laid_nil (replicate (m * slot_bytes) 0) 0)

  module _ (ps : List (List ℕ)) (f : Shorts ps) (room : length ps ≤ m) where
    abbrev X : List ℕ
    X = concat (map slot_of ps)

    inside : 0 + length X ≤ length (replicate {A = ℕ} (m * slot_bytes) 0)
    inside = omega (arith, slots_long ps f, length-replicate {A = ℕ} (m * slot_bytes) 0)

    pub register_size : length (register_of m ps) ≡ m * slot_bytes
    unfolding register_of
    register_size = length_laid (replicate (m * slot_bytes) 0) 0 X ∙ length-replicate (m * slot_bytes) 0

    -- what lies behind the slots is free
    pub rest_free : allb is_zero (drop (length ps * slot_bytes) (register_of m ps)) ≡ true
    unfolding register_of
    rest_free =
        let e : 0 + length X ≡ length ps * slot_bytes = omega (arith, slots_long ps f) in
        let d = drop_laid (replicate (m * slot_bytes) 0) 0 X inside in
        let g : drop (length ps * slot_bytes) (laid (replicate (m * slot_bytes) 0) 0 X) ≡ drop (length ps * slot_bytes)
        (replicate (m * slot_bytes) 0) = rw (← e) d in
        rw g (allb_drop is_zero (length ps * slot_bytes) (replicate (m * slot_bytes) 0) (zeros_all (m * slot_bytes)))

    pub slot_free : allb is_zero (slot_at (register_of m ps) (length ps)) ≡ true
    unfolding slot_at
    slot_free = allb_take is_zero slot_bytes (drop (length ps * slot_bytes) (register_of m ps)) rest_free

    pub register_more : (p : List ℕ) → length p ≤ longest_number →
        laid (register_of m ps) (length ps * slot_bytes) (slot_of p) ≡ register_of m (ps ++ (p ∷ []))
    unfolding register_of
    register_more p h =
        let e : 0 + length X ≡ length ps * slot_bytes = omega (arith, slots_long ps f) in
        let l = laid_laid (replicate (m * slot_bytes) 0) 0 X (slot_of p) in
        rw (← e, l, slots_append ps (p ∷ []), slots_one p)

-- a number written with its length into a slot that is free
pub number_set : (R p : List ℕ) (k : ℕ) → k < slot_count R → length p ≤ longest_number → allb is_zero (slot_at R k) ≡ true →
    laid R (k * slot_bytes) (number_item p) ≡ laid R (k * slot_bytes) (slot_of p)
unfolding number_item
number_set R p k h l z = sym (laid_cons R (k * slot_bytes) (length p) p) ∙ slot_written R p k h l z

-- a number and its length, as they stand in the sheet and are lent
module _ {s : List ℕ} {at k : ℕ} {R : List ℕ} (S : NumberStands s at k R) where
  pub number_long : length (number_here s at) ≡ get_or s at 0
  number_long = length-take-le (get_or s at 0) (drop (at + 1) s) (omega (arith, length-drop (at + 1) s, S.inside))

  pub number_lent : (n : ℕ) → n ≡ 1 + get_or s at 0 → take (at + n - at) (drop at s) ≡ number_item (number_here s at)
  unfolding number_item
  number_lent n e =
      let f : at + n - at ≡ suc (get_or s at 0) = omega arith in
      let d : drop at s ≡ get_or s at 0 ∷ drop (at + 1) s = drop-cons s at 0 (omega (arith, S.inside)) ∙ rw (add-one at) refl in
      rw (f, d, number_long)

-- a register of the same length
pub stand_again : {s : List ℕ} {n : ℕ} {R Q : List ℕ} → NumbersStand s n R → length Q ≡ length R → NumbersStand s n Q
unfolding register_length
stand_again S e = record { fits = rw e S.fits; slots = rw e S.slots; inside = S.inside; short = S.short }

-- k of n numbers are in a register that was emptied, and the next stands at a place
pub record Entering (s : List ℕ) (n : ℕ) (R reg : List ℕ) (at k : ℕ) : Type 0 where
  pub stands : NumbersStand s n R
  pub most : k ≤ n
  pub ends : at ≡ end_at s head_bytes k
  pub is : reg ≡ register_of (slot_count R) (numbers_at s head_bytes k)

module _ {s : List ℕ} {n : ℕ} {R : List ℕ} (S : NumbersStand s n R) where
  end_most : (k d : ℕ) → k + d ≡ n → end_at s head_bytes k ≤ end_at s head_bytes n
  end_most k zero e = let q : k ≡ n = omega arith in rw q (omega arith)
  end_most k (suc d) e = omega (arith, end_last s head_bytes k, end_most (suc k) d (omega arith))

  -- the next number stands where the last ends
  stands_next : (k : ℕ) → k < n → NumberStands s (end_at s head_bytes k) k R
  stands_next k h = record {
    inside = omega (arith, end_last s head_bytes k, end_most (suc k) (n - suc k) (omega arith), S.inside);
    short = S.short k h;
    slot = omega (arith, S.slots);
  }

  none_short : Shorts (numbers_at s head_bytes 0)
  unfolding numbers_at
  none_short p m = absurd (Memᴰ.not-nil m)

  numbers_short : (k : ℕ) → k ≤ n → Shorts (numbers_at s head_bytes k)
  numbers_short zero h = none_short
  numbers_short (suc k) h =
      subst Shorts (sym (numbers_at_last s head_bytes k))
      (shorts_more (numbers_at s head_bytes k) (number_here s (end_at s head_bytes k)) (numbers_short k (omega arith))
      (omega (arith, number_long (stands_next k (omega arith)), S.short k (omega arith))))

  slot_filled : (k : ℕ) → k < n →
      laid (register_of (slot_count R) (numbers_at s head_bytes k)) (k * slot_bytes)
      (number_item (number_here s (end_at s head_bytes k))) ≡ register_of (slot_count R) (numbers_at s head_bytes (k + 1))
  slot_filled k h =
      let ps = numbers_at s head_bytes k in
      let p = number_here s (end_at s head_bytes k) in
      let f = numbers_short k (omega arith) in
      let m = slot_count R in
      let c : length ps ≡ k = numbers_many s head_bytes k in
      let r : length ps ≤ m = omega (arith, S.slots) in
      let l : length p ≤ longest_number = omega (arith, number_long (stands_next k h), S.short k h) in
      let w : length (register_of m ps) ≡ m * slot_bytes = register_size m ps f r in
      let z : allb is_zero (slot_at (register_of m ps) k) ≡ true = subst (λ (i : ℕ). allb is_zero (slot_at (register_of m ps) i) ≡ true) c
      (slot_free m ps f r) in
      let a = number_set (register_of m ps) p k (omega (arith, S.slots)) l z in
      let g : laid (register_of m ps) (k * slot_bytes) (slot_of p) ≡ register_of m (ps ++ (p ∷ [])) = subst
      (λ (i : ℕ). laid (register_of m ps) (i * slot_bytes) (slot_of p) ≡ register_of m (ps ++ (p ∷ []))) c (register_more m ps f r p l) in
      a ∙ g ∙ ap (register_of m) (sym (rw (add-one k) (numbers_at_last s head_bytes k)))

  pub entering_start : {Z : List ℕ} → Z ≡ zeroed R → Entering s n Z Z head_bytes 0
  unfolding numbers_at end_at
  entering_start {Z} e =
      let l : length Z ≡ length R = ap length e ∙ length-replicate (length R) 0 in
      record {
        stands = stand_again S l;
        most = omega arith;
        ends = refl;
        is = e ∙ ap (λ (x : ℕ). replicate x 0) (whole R S.fits) ∙ register_none (slot_count R) ∙ rw l;
      }

module _ {s : List ℕ} {n : ℕ} {R reg : List ℕ} {at k : ℕ} (E : Entering s n R reg at k) where
  pub entering_size : length reg ≡ length R
  entering_size =
      ap length E.is ∙ register_size (slot_count R) (numbers_at s head_bytes k) (numbers_short E.stands k E.most)
      (omega (arith, numbers_many s head_bytes k, E.stands.slots, E.most)) ∙ sym (whole R E.stands.fits)

  pub entering_stands : k < n → NumberStands s at k reg
  entering_stands h =
      let l = entering_size in
      let x = stands_next E.stands k h in rw E.ends (record { inside = x.inside; short = x.short; slot = rw l x.slot })

  pub entering_on : k < n → (r : ℕ) (Q : List ℕ) → r ≡ next_place s at → Q ≡ laid reg (k * slot_bytes) (number_item (number_here s at)) →
      Entering s n R Q r (k + 1)
  entering_on h r Q e f = record {
    stands = E.stands;
    most = omega arith;
    ends = e ∙ ap (next_place s) E.ends ∙ sym (rw (add-one k) (end_last s head_bytes k));
    is = f ∙ (rw (E.is, E.ends) (slot_filled E.stands k h));
  }
