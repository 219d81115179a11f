-- Laws of stretches between separators, walked by position.
use mathlib.Core.Path.{◌≡◌, refl, ap, sym, ◌∙◌}
use mathlib.Core.Bool.{Bool, true, false, cond}
use mathlib.Core.List.{List, [], ◌∷◌}
use Prim.Native.Nat.{ℕ, suc, ◌+◌, ◌-◌, ◌≤◌, ◌<◌}
use native.Mathlib.Numerals.{add-one}
use native.Mathlib.Omega.{arith}
use lib.ListN.{length, get_or, take, drop, drop_of_length-le, length-drop}
use lib.Seq.{drop-cons, drop-drop, take_all}
use lib.Dec.{eqb}
use borrow.Author.Tests.{eq-eqb, ne_eqb, eqb-true, eqb-false, le-leb, lt-leb}
use Rattle.std.specs.List.{slice_split, onto_first}
use Rattle.desk_text.specs.Parted.{in_front, parted, parted_from}
use Rattle.desk_text.specs.Inner.{up_to, EndOf}

-- the stretches: the only one, and the first of more
in_front_same : (x : ℕ) (ss : List (List ℕ)) → onto_first x ss ≡ in_front x ss
unfolding in_front
in_front_same x [] = refl
in_front_same x (s ∷ ss) = refl

-- the library's parts
pub parted_split : (b : ℕ) (l : List ℕ) → slice_split (λ x. eqb x b) l ≡ parted b l
unfolding parted
parted_split b [] = refl
parted_split b (x ∷ xs) = rw (parted_split b xs, in_front_same x (parted b xs))

pub parted_last : (b : ℕ) (l : List ℕ) → length l ≤ up_to b l → parted b l ≡ l ∷ []
unfolding up_to parted in_front
parted_last b [] h = refl
parted_last b (x ∷ xs) h = go (eqb x b) h (parted_last b xs)
  where
    go : (t : Bool) → length (x ∷ xs) ≤ cond t 0 (suc (up_to b xs)) → (length xs ≤ up_to b xs → parted b xs ≡ xs ∷ []) →
        cond t ([] ∷ parted b xs) (in_front x (parted b xs)) ≡ (x ∷ xs) ∷ []
    go true g f = absurd (omega arith)
    go false g f = let e = f (omega arith) in rw e

pub parted_more : (b : ℕ) (l : List ℕ) → up_to b l < length l → parted b l ≡ take (up_to b l) l ∷ parted b (drop (suc (up_to b l)) l)
unfolding up_to parted in_front
parted_more b [] h = absurd (omega arith)
parted_more b (x ∷ xs) h = go (eqb x b) h (parted_more b xs)
  where
    go : (t : Bool) → cond t 0 (suc (up_to b xs)) < length (x ∷ xs) →
        (up_to b xs < length xs → parted b xs ≡ take (up_to b xs) xs ∷ parted b (drop (suc (up_to b xs)) xs))
        → cond t ([] ∷ parted b xs) (in_front x (parted b xs)) ≡ take (cond t 0 (suc (up_to b xs))) (x ∷ xs) ∷ parted b
        (drop (suc (cond t 0 (suc (up_to b xs)))) (x ∷ xs))
    go true g f = refl
    go false g f = let e = f (omega arith) in rw e

-- the stretches from a position on: one step, and the end
pub parted_from_lem : (b : ℕ) (l : List ℕ) → parted_from b l 0 ≡ parted b l
unfolding parted_from
parted_from_lem b l = rw (le-leb 0 (length l) (omega arith))

pub from_none : (b : ℕ) (l : List ℕ) (at : ℕ) → length l < at → parted_from b l at ≡ []
unfolding parted_from
from_none b l at h = rw (lt-leb at (length l) h)

module _ (b : ℕ) (l : List ℕ) (at r : ℕ) (h : at ≤ length l) (e : EndOf l at b r) where
  pub from_more : r < length l → parted_from b l at ≡ take (r - at) (drop at l) ∷ parted_from b l (r + 1)
  unfolding parted_from
  from_more g =
      let s : r - at ≡ up_to b (drop at l) = omega (arith, e.ends) in
      let u : up_to b (drop at l) < length (drop at l) = simp length-drop (omega (arith, e.ends)) in
      let d : drop (suc (up_to b (drop at l))) (drop at l) ≡ drop (r + 1) l =
      drop-drop (suc (up_to b (drop at l))) at l ∙ ap (λ n. drop n l)
      (let q : at + suc (up_to b (drop at l)) ≡ r + 1 = omega (arith, e.ends) in q) in
      rw (le-leb at (length l) h, le-leb (r + 1) (length l) (omega arith), s)
      (parted_more b (drop at l) u ∙ ap (◌∷◌ (take (up_to b (drop at l)) (drop at l))) (ap (parted b) d))

  pub from_last : r ≡ length l → parted_from b l at ≡ take (r - at) (drop at l) ∷ []
  unfolding parted_from
  from_last g =
      let u : length (drop at l) ≤ up_to b (drop at l) = simp length-drop (omega (arith, e.ends)) in
      let t : take (r - at) (drop at l) ≡ drop at l = take_all (r - at) (drop at l) (simp length-drop (omega arith)) in
      rw (le-leb at (length l) h, t) (parted_last b (drop at l) u)

  pub from_step : parted_from b l at ≡ take (r - at) (drop at l) ∷ parted_from b l (r + 1)
  from_step = go (eqb r (length l)) refl
    where
      go : (t : Bool) → eqb r (length l) ≡ t → parted_from b l at ≡ take (r - at) (drop at l) ∷ parted_from b l (r + 1)
      go true q =
          let m = eqb-true r (length l) q in from_last m ∙ ap (◌∷◌ (take (r - at) (drop at l))) (sym (from_none b l (r + 1) (omega arith)))
      go false q = from_more (omega (arith, eqb-false r (length l) q, e.high))

-- every stretch ends somewhere
pub up_to_inside : (b : ℕ) (l : List ℕ) → up_to b l ≤ length l
unfolding up_to
up_to_inside b [] = omega arith
up_to_inside b (x ∷ xs) = go (eqb x b) (up_to_inside b xs)
  where
    go : (t : Bool) → up_to b xs ≤ length xs → cond t 0 (suc (up_to b xs)) ≤ length (x ∷ xs)
    go true h = omega arith
    go false h = omega arith

pub end_there : (b : ℕ) (l : List ℕ) (at : ℕ) → at ≤ length l → EndOf l at b (at + up_to b (drop at l))
end_there b l at h =
    let n = up_to_inside b (drop at l) in record { ends = refl; low = omega arith; high = omega (arith, simp length-drop at n) }
