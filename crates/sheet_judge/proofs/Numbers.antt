-- Laws of the numbers of a sheet: those that stand from a place on, and where the next ends.
use mathlib.Core.Path.{◌≡◌, refl, ap, sym, ◌∙◌}
use mathlib.Core.Bool.{Bool, true, false, ◌||◌, not}
use mathlib.Core.List.{List, [], ◌∷◌, ◌++◌, append_assoc, append-nil}
use Prim.Native.Nat.{ℕ, suc, ◌+◌, ◌-◌, ◌≤◌, ◌<◌}
use native.Mathlib.Nat.{sub-zero}
use native.Mathlib.Numerals.{add-one}
use native.Mathlib.Omega.{arith}
use lib.ListN.{length, take, drop, get_or, length-drop}
use lib.Seq.{drop-drop}
use Rattle.ground.specs.Lists.{anyb, every, eq_list}
use Rattle.ground.proofs.Laws.{anyb_append}
use Rattle.repeats.specs.Inner.{number_here, next_place}
use Rattle.register.specs.Number.{good_number}
use Rattle.sheet.specs.Reading.{Item, item, fault, onward, one, number_size, new_number, numbers}
use Rattle.sheet.specs.Inner.{head_bytes, place_of, numbers_at, end_at}
use Rattle.sheet.proofs.Places.{end_last, numbers_at_last, numbers_many, size_here, size_some, read_here}
use Rattle.sheet.proofs.Written.{one_bad, numbers_all}
use Rattle.sheet.proofs.Items.{one_short, one_ok, place_item, place_moved, Moved, all_faulty, all_next}
use Rattle.sheet_judge.specs.Inner.{Numbered}

any_cons : (p : List ℕ → Bool) (x : List ℕ) (xs : List (List ℕ)) → anyb p (x ∷ xs) ≡ (p x || anyb p xs)
unfolding anyb
any_cons p x xs = refl

any_end : (p : List ℕ → Bool) → anyb p [] ≡ false
unfolding anyb
any_end p = refl

-- The number at a place
module _ (s : List ℕ) (at : ℕ) where
  module _ (seen : List (List ℕ)) where
    abbrev this : Item (List ℕ)
    this = one number_size (new_number seen) (drop at s) at

    new_here :
        new_number seen (take (number_size (drop at s)) (drop at s)) ≡ every (good_number (number_here s at) ∷ not (anyb (eq_list (number_here s at)) seen) ∷ [])
    unfolding new_number
    new_here = rw (read_here s at)

    pub number_none : length s ≤ at → this ≡ fault at
    number_none h = one_short number_size (new_number seen) (drop at s) at (omega (arith, length-drop at s, size_some s at))

    pub number_cut : length s - at < 1 + get_or s at 0 → this ≡ fault at
    number_cut k = one_short number_size (new_number seen) (drop at s) at (omega (arith, length-drop at s, size_here s at))

    pub number_bad : good_number (number_here s at) ≡ false → this ≡ fault at
    unfolding every
    number_bad g = one_bad number_size (new_number seen) (drop at s) at (new_here ∙ rw g)

    pub number_twice : good_number (number_here s at) ≡ true → anyb (eq_list (number_here s at)) seen ≡ true → this ≡ fault at
    unfolding every
    number_twice g h = one_bad number_size (new_number seen) (drop at s) at (new_here ∙ rw (g, h))

    pub number_taken : at + 1 + get_or s at 0 ≤ length s → good_number (number_here s at) ≡ true →
        anyb (eq_list (number_here s at)) seen ≡ false → at + 1 + get_or s at 0 ≡ place_of this
    unfolding every
    number_taken l g h =
        let i = one_ok number_size (new_number seen) (drop at s) at (omega (arith, length-drop at s, size_here s at)) (new_here ∙ rw (g, h)) in
        let e : at + 1 + get_or s at 0 ≡ at + number_size (drop at s) = omega (arith, size_here s at) in
        e ∙ sym (ap place_of i ∙ place_item (take (number_size (drop at s)) (drop at s)) (drop (number_size (drop at s)) (drop at s))
        (at + number_size (drop at s)))

-- numbers read before those of a reading
unfoldable pub ahead : List (List ℕ) → Item (List (List ℕ)) → Item (List (List ℕ))
ahead pre (item ns bs o) = item (pre ++ ns) bs o
ahead pre (fault o) = fault o

ahead_on : (pre : List (List ℕ)) (x : List ℕ) (m : Item (List (List ℕ))) →
    ahead pre (onward m (λ ns bs o. item (x ∷ ns) bs o)) ≡ ahead (pre ++ (x ∷ [])) m
unfolding ahead onward
ahead_on pre x (item ns bs o) = rw (append_assoc)
ahead_on pre x (fault o) = refl

-- the loop over the numbers: k of n are read, and the next starts at a place
pub record Numbering (s : List ℕ) (n k at : ℕ) : Type 0 where
  pub seen : List (List ℕ)
  pub same : (x : List ℕ) → anyb (eq_list x) seen ≡ anyb (eq_list x) (numbers_at s head_bytes k)
  pub goes : numbers n [] (drop head_bytes s) head_bytes ≡ ahead (numbers_at s head_bytes k) (numbers (n - k) seen (drop at s) at)
  pub ends : at ≡ end_at s head_bytes k
  pub inside : at ≤ length s

ahead_none : (m : Item (List (List ℕ))) → ahead [] m ≡ m
unfolding ahead
ahead_none (item ns bs o) = refl
ahead_none (fault o) = refl

pub ahead_fault : (pre : List (List ℕ)) (o : ℕ) → ahead pre (fault o) ≡ fault o
unfolding ahead
ahead_fault pre o = refl

ahead_item : (pre ns : List (List ℕ)) (bs : List ℕ) (o : ℕ) → ahead pre (item ns bs o) ≡ item (pre ++ ns) bs o
unfolding ahead
ahead_item pre ns bs o = refl

turn_or : (a b : Bool) → (b || a) ≡ (a || (b || false))
turn_or true true = refl
turn_or true false = refl
turn_or false true = refl
turn_or false false = refl

none_at : (s : List ℕ) → numbers_at s head_bytes 0 ≡ []
unfolding numbers_at
none_at s = refl

end_none : (s : List ℕ) → end_at s head_bytes 0 ≡ head_bytes
unfolding end_at
end_none s = refl

pub numbering_start : (s : List ℕ) (n : ℕ) → head_bytes ≤ length s → Numbering s n 0 head_bytes
numbering_start s n h = record {
  seen = [];
  same = λ x. rw (none_at s) refl;
  goes = rw (none_at s, sub-zero) (sym (ahead_none (numbers n [] (drop head_bytes s) head_bytes)));
  ends = sym (end_none s);
  inside = h;
}

module _ {s : List ℕ} {n k at : ℕ} (N : Numbering s n k at) where
  abbrev next : Item (List ℕ)
  next = one number_size (new_number N.seen) (drop at s) at

  pub numbering_end : n ≡ k → Numbered s n at
  numbering_end e =
      let z : n - k ≡ 0 = omega arith in
      record {
        ns = numbers_at s head_bytes k;
        many = numbers_many s head_bytes k ∙ sym e;
        inside = N.inside;
        goes = N.goes ∙ rw (z, numbers_all.ends N.seen (drop at s) at, ahead_item (numbers_at s head_bytes k) [] (drop at s) at, append-nil);
      }

  module _ (h : k < n) where
    pub numbering_fault : next ≡ fault at → numbers n [] (drop head_bytes s) head_bytes ≡ fault at
    numbering_fault f =
        let z : n - k ≡ suc (n - (k + 1)) = omega arith in
        N.goes ∙ rw (z, all_faulty numbers_all (n - (k + 1)) N.seen (drop at s) at f) (ahead_fault (numbers_at s head_bytes k) at)

    module _ (r : ℕ) (p : r ≡ place_of next) (f : (r ≡ at → ⊥)) where
      M : Moved number_size (new_number N.seen) (drop at s) at r
      M = place_moved number_size (new_number N.seen) (drop at s) at r p f

      ends_at : r ≡ next_place s at
      ends_at = M.ends ∙ (omega (arith, size_here s at))

      at_is : numbers_at s head_bytes (k + 1) ≡ numbers_at s head_bytes k ++ (number_here s at ∷ [])
      at_is = rw (add-one k) (numbers_at_last s head_bytes k ∙ rw (← N.ends) refl)

      pub next_inside : r ≤ length s
      next_inside = omega (arith, M.ends, M.inside, length-drop at s, N.inside)

      pub numbering_on : Numbering s n (k + 1) r
      numbering_on =
          let z : n - k ≡ suc (n - (k + 1)) = omega arith in
          let x = number_here s at in
          let d : drop (number_size (drop at s)) (drop at s) ≡ drop r s = drop-drop (number_size (drop at s)) at s ∙ ap (λ (i : ℕ). drop i s)
          (sym M.ends) in
          let g = all_next numbers_all (n - (k + 1)) N.seen (drop at s) at (take (number_size (drop at s)) (drop at s))
          (drop (number_size (drop at s)) (drop at s)) (at + number_size (drop at s)) M.is in
          let e = M.ends in
          let y = read_here s at in
          let b = rw (y, d, ← e) at g in
          record {
            seen = x ∷ N.seen;
            same =
                λ w. any_cons (eq_list w) x N.seen ∙ rw
                (N.same w, at_is, anyb_append (eq_list w) (numbers_at s head_bytes k) (x ∷ []), any_cons (eq_list w) x [], any_end (eq_list w))
                (turn_or (anyb (eq_list w) (numbers_at s head_bytes k)) (eq_list w x));
            goes = N.goes ∙ rw (z, b, at_is) (ahead_on (numbers_at s head_bytes k) x (numbers (n - (k + 1)) (x ∷ N.seen) (drop r s) r));
            ends = ends_at ∙ sym (rw (add-one k) (end_last s head_bytes k ∙ rw (← N.ends) refl));
            inside = next_inside;
          }
