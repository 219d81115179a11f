-- A bookmark's row looked at in one pass, with the last place and how many of it have come: that is each sentence of the request over the whole row.
use mathlib.Core.Path.{◌≡◌, refl, sym, ap, ◌∙◌}
use mathlib.Core.Logic.{◌↔◌, ◌≢◌, ⊎_elim}
use mathlib.Core.Bool.{Bool, true, false, ◌&&◌, ◌||◌, cond, not, and-true}
use mathlib.Core.List.{List, [], ◌∷◌}
use Prim.Native.Nat.{ℕ, suc, ◌+◌, ◌≤◌, ◌<◌}
use native.Mathlib.Omega.{arith}
use lib.Dec.{leb}
use lib.ListN.{length, get_or, drop, drop_of_length-le}
use lib.Seq.{drop-cons}
use borrow.Author.Tests.{leb-true, le-leb, lt-leb, eqb-false, ne_eqb, not-true}
use Rattle.ground.specs.Lists.{allb, every, is_zero}
use Rattle.ground.proofs.Laws.{and_left, and_right, and_both, every_at, same_cases}
use Rattle.kits.specs.Kits.{most_quantity, most_units, count, units_in}
use Rattle.kits.specs.Inner.{GoodRow}
use Rattle.kits.proofs.Inclusion.{count_none, count_same, count_other, count_tail, counted_member, Rises, end, on, rises_from}
use Rattle.kits.proofs.Inclusion.{rises_none, rises_low, rises_at, rises_is}
use Rattle.kits.proofs.Units.{Upto, no_more, place, upto_at, upto_is, row_rising, row_upto}
use Rattle.nodes.proofs.Lists.{zero_or, same_or}
use Rattle.nodes.proofs.Sorted.{allb_mem, mem_allb}
use Rattle.questions.specs.Inner.{had_of}
use Rattle.questions.proofs.BinWalk.{had_same, had_none}
use Rattle.pages.specs.declared.Bookmark.{Bookmark}
use Rattle.pages.specs.Pages.{never_falls, is_place, few_in, good_units, good_bookmark}
use Rattle.pages.specs.Inner.{good_place, good_along, len_shown}

-- One place, test by test
module _ (parts last x had : ℕ) where
  place_is : good_place parts last x had ≡ true → (last ≤ x) × (0 < x) × (x ≤ parts) × (had ≤ most_quantity)
  unfolding good_place every
  place_is e =
      let e₁ = and_right (leb last x) _ e in
      let e₂ = and_right (not (is_zero x)) _ e₁ in
      let e₃ = and_right (leb x parts) _ e₂ in
      let z : x ≡ 0 → ⊥ = eqb-false x 0 (not-true (is_zero x) (and_left (not (is_zero x)) _ e₁)) in (
        leb-true last x (and_left (leb last x) _ e),
        omega arith,
        leb-true x parts (and_left (leb x parts) _ e₂),
        leb-true had most_quantity (and_left (leb had most_quantity) _ e₃),
      )

  pub place_few : good_place parts last x had ≡ true → had ≤ most_quantity
  place_few e = (place_is e).3

  is_place_lem : last ≤ x → 0 < x → x ≤ parts → had ≤ most_quantity → good_place parts last x had ≡ true
  unfolding good_place every
  is_place_lem a b c d = rw (le-leb last x a, ne_eqb x 0 (λ e. omega arith), le-leb x parts c, le-leb had most_quantity d)

-- One step of the pass, by index, and its end
module _ (parts last had : ℕ) (r : List ℕ) (i : ℕ) where
  along_step : i < length r → (x n : ℕ) → x ≡ get_or r i 0 → n ≡ had_of x last had + 1 →
      good_along parts last had (drop i r) ≡ (good_place parts last x n && good_along parts x n (drop (i + 1) r))
  unfolding good_along
  along_step h x n e f = let k : i + 1 ≡ suc i = omega arith in rw (k, f, e, drop-cons r i 0 h)

  -- a place that may not come, and one that may
  pub good_along_no : i < length r → (x n : ℕ) → x ≡ get_or r i 0 → n ≡ had_of x last had + 1 → good_place parts last x n ≡ false →
      false ≡ good_along parts last had (drop i r)
  good_along_no h x n e f g = sym (along_step h x n e f ∙ ap (λ b. b && good_along parts x n (drop (i + 1) r)) g)

  pub good_along_yes : i < length r → (x n : ℕ) → x ≡ get_or r i 0 → n ≡ had_of x last had + 1 → good_place parts last x n ≡ true →
      good_along parts x n (drop (i + 1) r) ≡ good_along parts last had (drop i r)
  good_along_yes h x n e f g = sym (along_step h x n e f ∙ ap (λ b. b && good_along parts x n (drop (i + 1) r)) g)

  pub good_along_end : length r ≤ i → true ≡ good_along parts last had (drop i r)
  unfolding good_along
  good_along_end h = rw (drop_of_length-le r h)

-- What is good of the rest of a row, behind the place `last` of which `had` have come
record GoodRest (parts last had : ℕ) (r : List ℕ) : Type 0 where
  rises : Rises last r
  some_place : Rises 1 r
  upto : Upto parts r
  again : had + count last r ≤ most_quantity
  few : (p : ℕ) → count p r ≤ most_quantity

-- no more have come of a place than of the last one
pub had_few : (x last had : ℕ) → had_of x last had ≤ had
had_few x last had = ⊎_elim
    (λ (e : x ≡ last). omega (arith, had_same x last had e))
    (λ (e : x ≢ last). omega (arith, had_none x last had e))
    (same_or x last)

-- how many of x have come with it, where `had` of `last` have come
module _ (x last had : ℕ) (r : List ℕ) (s : Rises x r) (h : last ≤ x) where
  -- with what is to come of them
  come_again : x ≡ last → had_of x last had + 1 + count x r ≡ had + count last (x ∷ r)
  come_again e = omega (arith, had_same x last had e, count_same x r, ap (λ y. count y (x ∷ r)) e)

  come_new : (x ≡ last → ⊥) → (had_of x last had ≡ 0) × (count last (x ∷ r) ≡ 0)
  come_new n = (sym (had_none x last had n), count_other last x r (λ e. n (sym e)) ∙ rises_none s last (omega arith))

-- what the pass takes is good
along_rest : (parts last had : ℕ) (r : List ℕ) → had ≤ most_quantity → good_along parts last had r ≡ true → GoodRest parts last had r
unfolding good_along
along_rest parts last had [] h e = record {
  rises = end;
  some_place = end;
  upto = no_more;
  again = omega (arith, count_none last);
  few = λ p. omega (arith, count_none p);
}
along_rest parts last had (x ∷ r) h e =
    let n = had_of x last had + 1 in
    let p = place_is parts last x n (and_left (good_place parts last x n) _ e) in
    go p (along_rest parts x n r p.3 (and_right (good_place parts last x n) _ e))
  where
    go : (last ≤ x) × (0 < x) × (x ≤ parts) × (had_of x last had + 1 ≤ most_quantity) → GoodRest parts x (had_of x last had + 1) r →
        GoodRest parts last had (x ∷ r)
    go p g = record {
      rises = on p.0 g.rises;
      some_place = on p.1 g.rises;
      upto = place p.2 g.upto;
      again = ⊎_elim
          (λ (e : x ≡ last). omega (arith, come_again x last had r g.rises p.0 e, g.again))
          (λ (e : x ≢ last). omega (arith, (come_new x last had r g.rises p.0 e).1, h))
          (same_or x last);
      few = λ q. ⊎_elim
          (λ (e : q ≡ x). rw e (omega (arith, count_same x r, g.again)))
          (λ (e : q ≢ x). omega (arith, count_other q x r e, g.few q))
          (same_or q x);
    }

-- and what is good the pass takes
rest_along : (parts last had : ℕ) (r : List ℕ) → Rises last r → Rises 1 r → Upto parts r → had + count last r ≤ most_quantity →
    ((p : ℕ) → count p r ≤ most_quantity) → good_along parts last had r ≡ true
unfolding good_along
rest_along parts last had [] s z u a f = refl
rest_along parts last had (x ∷ r) (on h s) (on z t) (place v u) a f =
    let n = had_of x last had + 1 in
    let k : n + count x r ≤ most_quantity = ⊎_elim
    (λ (e : x ≡ last). omega (arith, come_again x last had r s h e, a))
    (λ (e : x ≢ last). omega (arith, (come_new x last had r s h e).0, count_same x r, f x))
    (same_or x last) in
    and_both (good_place parts last x n) _ (is_place_lem parts last x n h z v (omega arith))
    (rest_along parts x n r s (rises_from z s) u k (λ p. omega (arith, f p, count_tail p x r)))

-- The sentences over a whole row: "falls somewhere"
never_falls_rises : (x : ℕ) (r : List ℕ) → never_falls (x ∷ r) ≡ true → Rises x r
unfolding never_falls
never_falls_rises x [] e = end
never_falls_rises x (y ∷ r) e =
    on (leb-true x y (and_left (leb x y) (never_falls (y ∷ r)) e)) (never_falls_rises y r (and_right (leb x y) (never_falls (y ∷ r)) e))

rises_never_falls : (p : ℕ) (r : List ℕ) → Rises p r → never_falls r ≡ true
unfolding never_falls
rises_never_falls p [] s = refl
rises_never_falls p (x ∷ []) s = refl
rises_never_falls p (x ∷ y ∷ r) (on h (on k s)) = and_both (leb x y) (never_falls (y ∷ r)) (le-leb x y k) (rises_never_falls x (y ∷ r) (on k s))

-- "has a place 0 or one beyond the registered parts"
place_from_lem : (parts x : ℕ) → is_place parts x ≡ true → (0 < x) × (x ≤ parts)
unfolding is_place every
place_from_lem parts x e =
    (leb-true 1 x (and_left (leb 1 x) _ e), leb-true x parts (and_left (leb x parts) _ (and_right (leb 1 x) _ e)))

places_upto : (parts : ℕ) (r : List ℕ) → allb (is_place parts) r ≡ true → Upto parts r
unfolding allb
places_upto parts [] e = no_more
places_upto parts (x ∷ r) e =
    place (place_from_lem parts x (and_left (is_place parts x) _ e)).1 (places_upto parts r (and_right (is_place parts x) _ e))

places_rise : (parts : ℕ) (r : List ℕ) → never_falls r ≡ true → allb (is_place parts) r ≡ true → Rises 1 r
unfolding allb
places_rise parts [] f e = end
places_rise parts (x ∷ r) f e = on (place_from_lem parts x (and_left (is_place parts x) _ e)).0 (never_falls_rises x r f)

upto_places : (parts p : ℕ) (r : List ℕ) → 0 < p → Rises p r → Upto parts r → allb (is_place parts) r ≡ true
unfolding allb is_place every
upto_places parts p [] z s u = refl
upto_places parts p (x ∷ r) z (on h s) (place v u) = rw (le-leb 1 x (omega arith), le-leb x parts v) (upto_places parts x r (omega arith) s u)

-- "or has more than 15 equal places"
few_each : (r : List ℕ) → allb (few_in r) r ≡ true → (p : ℕ) → count p r ≤ most_quantity
unfolding few_in
few_each r e p = ⊎_elim
    (λ (z : count p r ≡ 0). omega arith)
    (λ (z : 0 < count p r). leb-true (count p r) most_quantity (allb_mem (few_in r) r p e ((counted_member p r).0 z)))
    (zero_or (count p r))

each_few : (r : List ℕ) → ((p : ℕ) → count p r ≤ most_quantity) → allb (few_in r) r ≡ true
unfolding few_in
each_few r f = mem_allb (few_in r) r (λ p m. le-leb (count p r) most_quantity (f p))

-- All three sentences
module _ (parts : ℕ) (r : List ℕ) where
  units_known : good_units parts r ≡ true → Rises 1 r × Upto parts r × ((p : ℕ) → count p r ≤ most_quantity)
  unfolding good_units every
  units_known e =
      let a = and_left (never_falls r) _ e in
      let e₁ = and_right (never_falls r) _ e in
      let b = and_left (allb (is_place parts) r) _ e₁ in
      let e₂ = and_right (allb (is_place parts) r) _ e₁ in
      (places_rise parts r a b, places_upto parts r b, few_each r (and_left (allb (few_in r) r) _ e₂))

  known_units : Rises 1 r → Upto parts r → ((p : ℕ) → count p r ≤ most_quantity) → good_units parts r ≡ true
  unfolding good_units every
  known_units s u f = rw (rises_never_falls 1 r s, upto_places parts 1 r (omega arith) s u, each_few r f)

  -- the pass from the start says it of the whole row
  pub along_is_good : good_along parts 0 0 r ≡ good_units parts r
  along_is_good = same_cases (good_along parts 0 0 r) (good_units parts r)
      (λ e. let g = along_rest parts 0 0 r (omega arith) e in known_units g.some_place g.upto g.few)
      (λ e.
      let k = units_known e in
      rest_along parts 0 0 r (rises_from (omega arith) k.0) k.0 k.1 (omega (arith, rises_none k.0 0 (omega arith))) k.2)

  -- The same by places: what a good row is, but for its length
  pub good_units_is : (good_units parts r ≡ true) ↔
      (((i : ℕ) → i + 1 < length r → get_or r i 0 ≤ get_or r (i + 1) 0) × ((i : ℕ) → i < length r → 0 < get_or r i 0)
      × ((i : ℕ) → i < length r → get_or r i 0 ≤ parts) × ((p : ℕ) → count p r ≤ most_quantity))
  good_units_is = (
    λ e. let k = units_known e in (rises_at k.0, rises_low k.0, upto_at k.1, k.2),
    λ f. known_units (rises_is 1 r (λ h. f.1 0 h) f.0) (upto_is parts r f.2) f.3,
  )

  -- so the units of a good row are good
  pub good_row_units : GoodRow parts r → good_units parts r ≡ true
  good_row_units g = known_units (row_rising g) (row_upto g) g.few

-- what the pass goes by
pub ruleset one_pass = (had_few, place_few, good_along_no, good_along_yes, good_along_end, along_is_good)

-- The whole bookmark, test by test
module _ (parts : ℕ) (b : Bookmark) where
  pub mark_not_begun : b.begun ≡ false → true ≡ good_bookmark parts b
  unfolding good_bookmark
  mark_not_begun e = rw e

  module _ (e : b.begun ≡ true) where
    pub mark_long : most_units < b.row.len → false ≡ good_bookmark parts b
    unfolding good_bookmark every
    mark_long h = rw (e, lt-leb b.row.len most_units h)

    pub mark_units : b.row.len ≤ most_units → {v : Bool} → v ≡ good_units parts (units_in b.row) → v ≡ good_bookmark parts b
    unfolding good_bookmark every
    mark_units h f = rw (e, le-leb b.row.len most_units h, and-true) f

-- As many places as count in a good bookmark are there
counted_short : (begun : Bool) (n : ℕ) (more : List Bool) → (not begun || every (leb n most_units ∷ more)) ≡ true → cond begun n 0 ≤ most_units
counted_short true n more h = leb-true n most_units (every_at _ 0 h)
counted_short false n more h = omega arith

pub shown_short : (parts : ℕ) (b : Bookmark) → good_bookmark parts b ≡ true → len_shown b ≤ most_units
unfolding good_bookmark len_shown
shown_short parts b h = counted_short b.begun b.row.len _ h
