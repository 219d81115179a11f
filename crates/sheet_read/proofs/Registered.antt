-- The register of some parts, byte for byte: it is sound and has these parts, and it is what registration sets down one after the other in an
-- emptied register, where 16, which reading never gives, is left aside.
use mathlib.Core.Path.{◌≡◌, refl, ap, sym, ◌∙◌}
use mathlib.Core.Logic.{⊎_elim, ◌≢◌}
use mathlib.Core.Bool.{Bool, true, false, not}
use mathlib.Core.List.{List, [], ◌∷◌, ◌++◌, map, append_assoc, append-nil}
use Prim.Native.Nat.{ℕ, suc, ◌+◌, ◌*◌, ◌≤◌, ◌<◌}
use native.Mathlib.Omega.{arith}
use lib.ListN.{length-replicate, length, take, drop, replicate, length-append}
use lib.Seq.{drop-drop, take_at, drop_at}
use borrow.Author.Tests.{not-true}
use Rattle.ground.specs.Lists.{allb, anyb, distinct, concat, eq_list, from}
use Rattle.ground.specs.Laid.{zeroed}
use Rattle.ground.specs.Calls.{done, answer}
use Rattle.ground.proofs.Laws.{and_left, and_right, and_both, or_left, or_right, anyb_append, allb_append, eq_list_sym}
use Rattle.ground.proofs.Laid.{laid_front}
use Rattle.register.specs.Number.{longest_number, good_number, punctuation_at_end}
use Rattle.register.specs.Register.{slot_bytes, slot_of, slot_at, slot_count, slot_good, number_at, parts_of, register_length, register_sound}
use Rattle.register.specs.Register.{register_of, place_from, place_in}
use Rattle.register.specs.Calls.{registering}
use Rattle.register.specs.Inner.{Ready}
use Rattle.register.proofs.Slots.{number_short}
use Rattle.register.proofs.Sound.{Holds, whole, holds_parts, holds_sound}
use Rattle.register.proofs.Entered.{length_slot_of, number_of_slot, slot_of_good}
use Rattle.register.proofs.Answers.{registering_done}
use Rattle.nodes.proofs.Lists.{same_or}
use Rattle.nodes.proofs.Sorted.{allb_mem}
use Rattle.sheet_read.proofs.Slots.{Shorts, slots_long, register_none, register_size, rest_free, register_more}

good_short : (ps : List (List ℕ)) → allb good_number ps ≡ true → Shorts ps
good_short ps g p m = number_short p (allb_mem good_number ps p g m)

-- slots that stand in a register W from slot a on
record Stand (W : List ℕ) (a : ℕ) (ps : List (List ℕ)) : Type 0 where
  numbers : map (number_at W) (from a (length ps)) ≡ ps
  good : (k : ℕ) → a ≤ k → k < a + length ps → slot_good (slot_at W k) ≡ true

stand_none : (W : List ℕ) (a : ℕ) → Stand W a []
unfolding from
stand_none W a = record { numbers = refl; good = λ k l u. absurd (omega arith) }

stand_on : (W : List ℕ) (a : ℕ) (p : List ℕ) (ps : List (List ℕ)) → good_number p ≡ true → slot_at W a ≡ slot_of p → Stand W (suc a) ps →
    Stand W a (p ∷ ps)
unfolding from number_at
stand_on W a p ps g e s =
    let l = number_short p g in
    record {
      numbers = rw (e, number_of_slot p l) (ap (◌∷◌ p) s.numbers);
      good =
          λ k b u. ⊎_elim (λ (q : k ≡ a). rw (q, e) (slot_of_good p l g)) (λ (q : k ≢ a). s.good k (omega arith) (omega arith))
          (same_or k a);
    }

slot_first : (W : List ℕ) (a : ℕ) (p X : List ℕ) → length p ≤ longest_number → drop (a * slot_bytes) W ≡ slot_of p ++ X →
    (slot_at W a ≡ slot_of p) × (drop (suc a * slot_bytes) W ≡ X)
unfolding slot_at
slot_first W a p X l h =
    let e : suc a * slot_bytes ≡ a * slot_bytes + slot_bytes = omega arith in (
      ap (take slot_bytes) h ∙ take_at (slot_of p) X slot_bytes (length_slot_of p l),
      rw e (sym (drop-drop slot_bytes (a * slot_bytes) W) ∙ ap (drop slot_bytes) h ∙ drop_at (slot_of p) X slot_bytes (length_slot_of p l)),
    )

stand : (W : List ℕ) (a : ℕ) (ps : List (List ℕ)) (X : List ℕ) → allb good_number ps ≡ true →
    drop (a * slot_bytes) W ≡ concat (map slot_of ps) ++ X → Stand W a ps
unfolding allb concat
stand W a [] X g h = stand_none W a
stand W a (p ∷ ps) X g h =
    let good : good_number p ≡ true = and_left (good_number p) (allb good_number ps) g in
    let f = slot_first W a p (concat (map slot_of ps) ++ X) (number_short p good) (h ∙ append_assoc (slot_of p) (concat (map slot_of ps)) X) in
    stand_on W a p ps good f.0 (stand W (suc a) ps X (and_right (good_number p) (allb good_number ps) g) f.1)

module _ (m : ℕ) (ps : List (List ℕ)) (good : allb good_number ps ≡ true) (once : distinct eq_list ps ≡ true) (room : length ps ≤ m) where
  abbrev W : List ℕ
  W = register_of m ps

  stands : Stand (register_of m ps) 0 ps
  unfolding register_of
  stands =
      stand (register_of m ps) 0 ps (drop (length (concat (map slot_of ps))) (replicate (m * slot_bytes) 0)) good
      (laid_front (replicate (m * slot_bytes) 0) (concat (map slot_of ps))
      (simp length-replicate (omega (arith, slots_long ps (good_short ps good)))))

  register_holds : Holds (register_of m ps) (length ps)
  register_holds = record {
    inside = omega (arith, register_size m ps (good_short ps good) room);
    good = λ k u. stands.good k (omega arith) (omega arith);
    rest = rest_free m ps (good_short ps good) room;
    once = ap (distinct eq_list) stands.numbers ∙ once;
  }

  pub register_parts : parts_of (register_of m ps) ≡ ps
  register_parts = holds_parts (register_of m ps) (length ps) register_holds ∙ stands.numbers

  pub register_sound_lem : register_sound (register_of m ps) ≡ true
  register_sound_lem = holds_sound (register_of m ps) (length ps) register_holds

  pub register_long : length (register_of m ps) ≡ m * slot_bytes
  register_long = register_size m ps (good_short ps good) room

-- numbers set down one after the other as registration does
unfoldable pub register_all : List ℕ → List (List ℕ) → List ℕ
register_all R [] = R
register_all R (p ∷ ps) = register_all (registering p R).after ps

first_no : (test : List ℕ → Bool) (p : List ℕ) (ps : List (List ℕ)) → anyb test (p ∷ ps) ≡ false → test p ≡ false
unfolding anyb
first_no test p ps e = or_left (test p) (anyb test ps) e

-- no two of them are the same: a number has no place among those before it
unplaced : (k : ℕ) (p : List ℕ) (qs ps : List (List ℕ)) → distinct eq_list (qs ++ (p ∷ ps)) ≡ true → place_from k p qs ≡ 0
unfolding place_from distinct
unplaced k p [] ps d = refl
unplaced k p (q ∷ qs) ps d =
    let o : anyb (eq_list q) (qs ++ (p ∷ ps)) ≡ false = not-true _
    (and_left (not (anyb (eq_list q) (qs ++ (p ∷ ps)))) (distinct eq_list (qs ++ (p ∷ ps))) d) in
    let u : eq_list p q ≡ false = eq_list_sym p q ∙ first_no (eq_list q) p ps
    (or_right (anyb (eq_list q) qs) (anyb (eq_list q) (p ∷ ps)) (sym (anyb_append (eq_list q) qs (p ∷ ps)) ∙ o)) in
    rw u (unplaced (suc k) p qs ps (and_right (not (anyb (eq_list q) (qs ++ (p ∷ ps)))) (distinct eq_list (qs ++ (p ∷ ps))) d))

front_once : (qs ps : List (List ℕ)) → distinct eq_list (qs ++ ps) ≡ true → distinct eq_list qs ≡ true
unfolding distinct
front_once [] ps d = refl
front_once (q ∷ qs) ps d =
    let o : anyb (eq_list q) (qs ++ ps) ≡ false = not-true _ (and_left (not (anyb (eq_list q) (qs ++ ps))) (distinct eq_list (qs ++ ps)) d) in
    let u : anyb (eq_list q) qs ≡ false = or_left (anyb (eq_list q) qs) (anyb (eq_list q) ps) (sym (anyb_append (eq_list q) qs ps) ∙ o) in
    and_both (not (anyb (eq_list q) qs)) (distinct eq_list qs) (ap not u)
    (front_once qs ps (and_right (not (anyb (eq_list q) (qs ++ ps))) (distinct eq_list (qs ++ ps)) d))

-- the next number of a list that fits
module _ (R : List ℕ) (fits : register_length R ≡ true) where
  ready : (qs : List (List ℕ)) → allb good_number qs ≡ true → distinct eq_list qs ≡ true → length qs ≤ slot_count R →
      Ready (register_of (slot_count R) qs)
  unfolding register_length
  ready qs g d r =
      let l : length (register_of (slot_count R) qs) ≡ length R = register_long (slot_count R) qs g d r ∙ sym (whole R fits) in
      record { fits = rw l fits; sound = register_sound_lem (slot_count R) qs g d r }

  module _ (qs : List (List ℕ)) (p : List ℕ) (ps : List (List ℕ)) (good : allb good_number (qs ++ (p ∷ ps)) ≡ true)
      (once : distinct eq_list (qs ++ (p ∷ ps)) ≡ true) (room : length (qs ++ (p ∷ ps)) ≤ slot_count R) where
    abbrev n : ℕ
    n = slot_count R

    short : length qs < n
    short = omega (arith, length-append qs (p ∷ ps))

    front_good : allb good_number qs ≡ true
    front_good = and_left (allb good_number qs) (allb good_number (p ∷ ps)) (sym (allb_append good_number qs (p ∷ ps)) ∙ good)

    next_good_lem : good_number p ≡ true
    unfolding allb
    next_good_lem =
        and_left (good_number p) (allb good_number ps)
        (and_right (allb good_number qs) (allb good_number (p ∷ ps)) (sym (allb_append good_number qs (p ∷ ps)) ∙ good))

    parts_now : parts_of (register_of n qs) ≡ qs
    parts_now = register_parts n qs front_good (front_once qs (p ∷ ps) once) (omega (arith, short))

    new : place_in p (parts_of (register_of n qs)) ≡ 0
    unfolding place_in
    new = rw parts_now (unplaced 1 p qs ps once)

    registered : (registering p (register_of n qs)).after ≡ register_of n (qs ++ (p ∷ []))
    unfolding registering
    registered =
        let e = parts_now in
        rw e (register_more n qs (good_short qs front_good) (omega (arith, short)) p (number_short p next_good_lem))

    -- and registration does so: it is refused by nothing but 16
    pub registered_unless_16 : punctuation_at_end p ≡ false → answer (registering p (register_of n qs)) ≡ done (length qs + 1)
    registered_unless_16 whole =
        let Q = register_of n qs in
        let r = ready qs front_good (front_once qs (p ∷ ps) once) (omega (arith, short)) in
        let e = parts_now in
        let l : slot_count Q ≡ n = omega (arith, register_long n qs front_good (front_once qs (p ∷ ps) once) (omega (arith, short))) in
        rw e at (registering_done Q r p next_good_lem whole new (rw (e, l) short))

  register_rest : (qs ps : List (List ℕ)) → allb good_number (qs ++ ps) ≡ true → distinct eq_list (qs ++ ps) ≡ true →
      length (qs ++ ps) ≤ slot_count R → register_all (register_of (slot_count R) qs) ps ≡ register_of (slot_count R) (qs ++ ps)
  unfolding register_all
  register_rest qs [] g d r = rw append-nil
  register_rest qs (p ∷ ps) g d r =
      let e = append_assoc qs (p ∷ []) ps in
      ap (λ (Q : List ℕ). register_all Q ps) (registered qs p ps g d r) ∙ register_rest (qs ++ (p ∷ [])) ps (rw e g) (rw e d) (rw e r) ∙ ap
      (register_of (slot_count R)) e

  pub registered_in_order : (ps : List (List ℕ)) → allb good_number ps ≡ true → distinct eq_list ps ≡ true → length ps ≤ slot_count R →
      register_of (slot_count R) ps ≡ register_all (zeroed R) ps
  registered_in_order ps g d r =
      sym (ap (λ (Q : List ℕ). register_all Q ps) (ap (λ (x : ℕ). replicate x 0) (whole R fits) ∙ register_none (slot_count R))
      ∙ register_rest [] ps g d r)
