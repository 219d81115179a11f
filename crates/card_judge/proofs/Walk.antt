-- The walk over the lines of a card: what is known behind k of them, and what the judge may answer.
use mathlib.Core.Path.{◌≡◌, refl, ap, sym, ◌∙◌}
use mathlib.Core.Bool.{true, false}
use mathlib.Core.List.{List, [], ◌∷◌, ◌++◌, append_assoc}
use Prim.Native.Nat.{ℕ, suc, ◌+◌, ◌-◌, ◌≤◌, ◌<◌}
use native.Mathlib.Nat.{sub-zero}
use native.Mathlib.Omega.{arith}
use lib.ListN.{length, take, drop, get_or, length-drop, length-append}
use lib.Seq.{drop-drop}
use borrow.Author.Tests.{eq-eqb, ne_eqb}
use Rattle.ground.specs.Lists.{is_zero}
use Rattle.repeats.specs.Inner.{next_place}
use Rattle.kits.specs.Kits.{most_units}
use Rattle.sheet.specs.Reading.{Item, item, fault, onward, one}
use Rattle.sheet.proofs.Items.{all_faulty, all_next}
use Rattle.card.specs.Card.{NamedLine, units_said}
use Rattle.card.specs.Inner.{card_head}
use Rattle.card.specs.Reading.{named_size, rises_over, new_line, lines_said, the_end, decode_card}
use Rattle.card.specs.declared.Card.{Card}
use Rattle.card.proofs.Written.{lines_all}
use Rattle.card_judge.specs.Inner.{card_judged, behind_lines, behind_head, line_here, LineBefore, comes_next, line_end}
use Rattle.card_judge.proofs.Lines.{Taken, line_size, line_here_lem, next_rises, line_moves, units_few}
use Rattle.std.specs.Prelude.{Option, None, Some, Ok, Err}

-- a line read before those of a reading
line_ahead : (t : ℕ) (pre : List NamedLine) (x : NamedLine) (m : Item (List NamedLine)) →
    onward (onward m (λ xs bs o. item (x ∷ xs) bs o)) (behind_lines t pre) ≡ onward m (behind_lines t (pre ++ (x ∷ [])))
unfolding onward
line_ahead t pre x (item xs bs o) = rw (append_assoc)
line_ahead t pre x (fault o) = refl

-- k lines are read and have so many units, the last starts at prev and the next at a place
pub record Judging (s : List ℕ) (c : Card) (units : ℕ) (prev : Option ℕ) (at k : ℕ) : Type 0 where
  pub pre : List NamedLine
  pub seen : List NamedLine
  pub goes : behind_head s c ≡ onward (lines_said (c.lines - k) seen (drop at s) at) (behind_lines c.tag pre)
  pub many : length pre ≡ k
  pub sum : units ≡ units_said seen
  pub rises : (n : List ℕ) → rises_over n seen ≡ comes_next s prev n
  pub latest : LineBefore s prev
  pub few : units ≤ most_units
  pub inside : at ≤ length s

none_sum : 0 ≡ units_said []
unfolding units_said
none_sum = refl

none_rises : (s : List ℕ) (n : List ℕ) → rises_over n [] ≡ comes_next s None n
unfolding rises_over
none_rises s n = refl

sum_more : (x : NamedLine) (seen : List NamedLine) → units_said (x ∷ seen) ≡ x.quantity + units_said seen
unfolding units_said
sum_more x seen = refl

pub judging_start : (s : List ℕ) (c : Card) → card_head ≤ length s → Judging s c 0 None card_head 0
judging_start s c h = record {
  pre = [];
  seen = [];
  goes = rw (sub-zero) refl;
  many = refl;
  sum = none_sum;
  rises = none_rises s;
  latest = tt;
  few = omega arith;
  inside = h;
}

module _ {s : List ℕ} {c : Card} {units : ℕ} {prev : Option ℕ} {at k : ℕ} (J : Judging s c units prev at k) where
  -- at a line at fault
  pub judging_fault : k < c.lines → one named_size (new_line J.seen) (drop at s) at ≡ fault at → Err at ≡ card_judged (behind_head s c)
  unfolding card_judged onward
  judging_fault h e =
      let z : c.lines - k ≡ suc (c.lines - (k + 1)) = omega arith in
      let f = all_faulty lines_all (c.lines - (k + 1)) J.seen (drop at s) at e in
      let g : behind_head s c ≡ fault at = J.goes ∙ rw (z, f) refl in
      rw g

  -- behind the last line
  ended : c.lines ≡ k → behind_head s c ≡ behind_lines c.tag J.pre [] (drop at s) at
  unfolding onward
  ended e =
      let z : c.lines - k ≡ 0 = omega arith in
      J.goes ∙ rw (z, lines_all.ends J.seen (drop at s) at) refl

  pub judging_more : c.lines ≡ k → at < length s → Err at ≡ card_judged (behind_head s c)
  unfolding card_judged the_end
  judging_more e h =
      let g = ended e in
      let z : is_zero (length (drop at s)) ≡ false = ne_eqb (length (drop at s)) 0 (λ q. omega (arith, length-drop at s)) in
      rw (g, z)

  pub judging_end : c.lines ≡ k → length s ≤ at → Ok c ≡ card_judged (behind_head s c)
  unfolding card_judged the_end
  judging_end e h =
      let g = ended e in
      let z : is_zero (length (drop at s)) ≡ true = eq-eqb (length (drop at s)) 0 (omega (arith, length-drop at s)) in
      let l : c.lines ≡ length (J.pre ++ []) = omega (arith, J.many, length-append J.pre []) in
      rw (g, z) (ap Ok (same_card l))
    where
      same_card : {n : ℕ} → c.lines ≡ n → c ≡ record { tag = c.tag; lines = n }
      same_card e = λ t. record { tag = c.tag; lines = e t }

  -- one line more
  module _ (r : ℕ) (ends : Some r ≡ line_end s prev units at) where
    passed : Taken s prev units at J.seen J.sum J.rises r
    passed = line_moves s prev units at J.seen J.sum J.rises r ends

    pub line_whole : next_place s at < length s
    line_whole = omega (arith, passed.inside, line_size s at, length-drop at s, J.inside)

    pub judging_on : (q : ℕ) → k < c.lines → q ≡ get_or s (next_place s at) 0 → Judging s c (units + q) (Some at) r (k + 1)
    judging_on q h amount =
        let z : c.lines - k ≡ suc (c.lines - (k + 1)) = omega arith in
        let x : NamedLine = line_here s at in
        let b = take (named_size (drop at s)) (drop at s) in
        let rest = drop (named_size (drop at s)) (drop at s) in
        let e = passed.ends in
        let d : rest ≡ drop r s = drop-drop (named_size (drop at s)) at s ∙ ap (λ (i : ℕ). drop i s) (sym e) in
        let y = line_here_lem s at in
        let n = all_next lines_all (c.lines - (k + 1)) J.seen (drop at s) at b rest (at + named_size (drop at s)) passed.is in
        let g = rw (y, d, ← e) at n in
        let few : units_said J.seen + x.quantity ≤ most_units = rw y at (units_few J.seen b passed.is_good) in
        record {
          pre = J.pre ++ (x ∷ []);
          seen = x ∷ J.seen;
          goes = J.goes ∙ rw (z, g) (line_ahead c.tag J.pre x (lines_said (c.lines - (k + 1)) (x ∷ J.seen) (drop r s) r));
          many = length-append J.pre (x ∷ []) ∙ (omega (arith, J.many));
          sum = omega (arith, J.sum, sum_more x J.seen, amount);
          rises = next_rises s at x J.seen refl;
          latest = omega (arith, line_whole);
          few = omega (arith, J.sum, few, amount);
          inside = omega (arith, e, passed.inside, length-drop at s, J.inside);
        }

-- a fault in the head
pub judged_fault : (s : List ℕ) (o : ℕ) → decode_card s ≡ fault o → Err o ≡ card_judged (decode_card s)
unfolding card_judged
judged_fault s o e = rw e
