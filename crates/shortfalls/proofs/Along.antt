-- The shortfall summed label by label along a row: what each label adds, and that the whole is the shortfall.
use mathlib.Core.Path.{◌≡◌, refl, sym, ap, ◌∙◌}
use mathlib.Core.List.{List, [], ◌∷◌, ◌++◌, append_assoc, append-nil}
use Prim.Native.Nat.{ℕ, ◌+◌, ◌-◌, ◌≤◌}
use native.Mathlib.Omega.{arith}
use lib.ListN.{length, get_or}
use lib.Dec.{ltb, eqb}
use borrow.Author.Tests.{eqb-true, eqb-false, ltb-true, ltb-false}
use Rattle.ground.proofs.Laws.{by_cond}
use Rattle.kits.specs.Kits.{most_place, count}
use Rattle.kits.specs.Inner.{Counts}
use Rattle.kits.proofs.Along.{count_next, upto_none, upto_next}
use Rattle.kits.proofs.Inclusion.{count_none, Rises, on}
use Rattle.kits.proofs.Units.{Upto, no_more, place}
use Rattle.shortfalls.specs.declared.Passed.{Passed}
use Rattle.shortfalls.specs.Shortfalls.{shortfall}
use Rattle.shortfalls.specs.Inner.{none_passed, left_of, passing, after, along, short_in}
use Rattle.shortfalls.proofs.Sums.{short_none, short_same, short_more, short_least}

-- A label more
module _ (p : Passed) (x l : ℕ) where
  pass_last : (passing p x l).last ≡ x
  unfolding passing
  pass_last = by_cond (λ (q : Passed). q.last ≡ x) (ltb 0 l) _ _ (λ h. refl) (λ h. refl)

  pass_least : p.short ≤ (passing p x l).short
  unfolding passing
  pass_least = by_cond (λ (q : Passed). p.short ≤ q.short) (ltb 0 l) _ _ (λ h. omega arith) (λ h. omega arith)

  pass_most : (passing p x l).short ≤ p.short + 1
  unfolding passing
  pass_most = by_cond (λ (q : Passed). q.short ≤ p.short + 1) (ltb 0 l) _ _ (λ h. omega arith) (λ h. omega arith)

-- The labels of a row: it is a fold, which never falls and grows by at most one a label
pub along_append : (Q : List ℕ) (p : Passed) (a b : List ℕ) → along Q p (a ++ b) ≡ along Q (along Q p a) b
unfolding along
along_append Q p [] b = refl
along_append Q p (x ∷ a) b = along_append Q (after Q p x) a b

pub along_next : (Q : List ℕ) (p : Passed) (a : List ℕ) (x : ℕ) → along Q p (a ++ (x ∷ [])) ≡ after Q (along Q p a) x
unfolding along
along_next Q p a x = along_append Q p a (x ∷ [])

pub along_least : (Q : List ℕ) (p : Passed) (r : List ℕ) → p.short ≤ (along Q p r).short
unfolding along
along_least Q p [] = omega arith
along_least Q p (x ∷ r) = omega (arith, pass_least p x (left_of Q x p.last p.left), along_least Q (after Q p x) r)

along_most : (Q : List ℕ) (p : Passed) (r : List ℕ) → (along Q p r).short ≤ p.short + length r
unfolding along
along_most Q p [] = omega arith
along_most Q p (x ∷ r) = omega (arith, pass_most p x (left_of Q x p.last p.left), along_most Q (after Q p x) r)

-- What the labels a have made
record Made (Q bin a : List ℕ) (p : Passed) : Type 0 where
  upto : Upto p.last a
  left : p.left ≡ get_or Q p.last 0 - count p.last a
  short : p.short ≡ shortfall bin a

module _ (Q bin : List ℕ) (C : Counts Q bin) where
  module _ (a : List ℕ) (p : Passed) (x : ℕ) (g : p.last ≤ x) (h : x ≤ most_place) (M : Made Q bin a p) where
    left_is : left_of Q x p.last p.left ≡ get_or Q x 0 - count x a
    unfolding left_of
    left_is = by_cond (λ (v : ℕ). v ≡ get_or Q x 0 - count x a) (eqb x p.last) p.left (get_or Q x 0)
        (λ e. M.left ∙ ap (λ y. get_or Q y 0 - count y a) (sym (eqb-true x p.last e)))
        (λ e. let n = eqb-false x p.last e in omega (arith, upto_none M.upto x (omega arith)))

    made_next : Made Q bin (a ++ (x ∷ [])) (after Q p x)
    unfolding passing
    made_next = by_cond (Made Q bin (a ++ (x ∷ []))) (ltb 0 (left_of Q x p.last p.left)) _ _
        (λ e. let l = ltb-true 0 (left_of Q x p.last p.left) e in record {
          upto = upto_next M.upto x g;
          left = omega (arith, left_is, count_next x a);
          short = M.short ∙ sym (short_same bin a x h (omega (arith, left_is, C x)));
        })
        (λ e. let l = ltb-false 0 (left_of Q x p.last p.left) e in record {
          upto = upto_next M.upto x g;
          left = omega (arith, left_is, count_next x a);
          short = ap (λ s. s + 1) M.short ∙ sym (short_more bin a x h (omega (arith, left_is, C x)));
        })

  made_along : (a r : List ℕ) (p : Passed) {q : ℕ} → p.last ≡ q → Rises q r → Upto most_place r → Made Q bin a p →
      Made Q bin (a ++ r) (along Q p r)
  unfolding along
  made_along a [] p e s u M = rw append-nil M
  made_along a (x ∷ r) p e (on g s) (place h u) M =
      let k : p.last ≤ x = omega arith in
      rw (append_assoc a (x ∷ []) r) at
      (made_along (a ++ (x ∷ [])) r (after Q p x) (pass_last p x (left_of Q x p.last p.left)) s u (made_next a p x k h M))

  -- of a row of places that rises the whole is the shortfall
  pub short_along : (r : List ℕ) → get_or Q 0 0 ≡ 0 → Rises 0 r → Upto most_place r → short_in Q r ≡ shortfall bin r
  unfolding short_in
  short_along r z s u =
      (made_along [] r none_passed refl s u
      (record { upto = no_more; left = omega (arith, count_none 0); short = sym (short_none bin) })).short

  short_units : (r : List ℕ) → get_or Q 0 0 ≡ 0 → Rises 0 r → Upto most_place r → shortfall bin r ≤ length r
  unfolding short_in
  short_units r z s u = omega (arith, short_along r z s u, along_most Q none_passed r)

-- and at most the number of its units, whatever the bin
pub short_few : (bin : List ℕ) {r : List ℕ} → Rises 0 r → Upto most_place r → shortfall bin r ≤ length r
short_few bin {r} s u = omega (arith, short_least bin r, short_units [] [] (λ p. sym (count_none p)) r refl s u)
