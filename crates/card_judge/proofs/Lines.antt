-- Laws of one line of a card: the line at a place, what it passes by, and where it ends.
use mathlib.Core.Path.{◌≡◌, refl, ap, ◌∙◌}
use mathlib.Core.Bool.{Bool, true, false, ◌&&◌, cond, and-true, and-false}
use mathlib.Core.List.{List, ◌∷◌}
use Prim.Native.Nat.{ℕ, ◌+◌, ◌-◌, ◌≤◌, ◌<◌}
use native.Mathlib.Nat.{add-zero}
use native.Mathlib.Omega.{arith}
use lib.ListN.{length, take, drop, get_or, length-drop}
use lib.Dec.{leb}
use lib.Seq.{get_or-take, get_or-drop, take-take, drop-drop}
use borrow.Author.Tests.{leb-true, le-leb, lt-leb}
use Rattle.std.specs.Prelude.{Option, None, Some}
use Rattle.ground.specs.Lists.{every}
use Rattle.ground.proofs.Laws.{every_at}
use Rattle.repeats.specs.Inner.{number_here, next_place}
use Rattle.kits.specs.Kits.{before, most_units}
use Rattle.register.specs.Register.{number_in}
use Rattle.sheet.specs.Reading.{item, fault, one, number_size}
use Rattle.sheet.proofs.Places.{size_here, drop_taken}
use Rattle.card.specs.Card.{NamedLine, units_said}
use Rattle.card.specs.Reading.{named_size, named_in, rises_over, new_line}
use Rattle.card_judge.specs.Inner.{line_here, comes_next, line_passes, line_end}

------------------------------------------------------------------------
-- The line at a place

module _ (s : List ℕ) (at : ℕ) where
  abbrev bytes_here : List ℕ
  bytes_here = take (named_size (drop at s)) (drop at s)

  pub line_size : named_size (drop at s) ≡ 1 + (get_or s at 0 + 1)
  unfolding named_size
  line_size = omega (arith, size_here s at)

  length_here : get_or bytes_here 0 0 ≡ get_or s at 0
  length_here = get_or-take (named_size (drop at s)) (drop at s) 0 0 (omega (arith, line_size)) ∙ get_or-drop at s 0 0 ∙ rw (add-zero) refl

  number_is : number_in bytes_here ≡ number_here s at
  unfolding number_in
  number_is =
      let n = get_or s at 0 in
      let t = take-take n (n + 1) (drop 1 (drop at s)) (omega arith) in
      rw (length_here, line_size, drop_taken 1 (n + 1) (drop at s), t, drop-drop) refl

  quantity_is : get_or bytes_here (number_size bytes_here) 0 ≡ get_or s (next_place s at) 0
  unfolding number_size
  quantity_is =
      let i = 1 + get_or s at 0 in
      let e : at + i ≡ next_place s at = omega arith in
      rw length_here (get_or-take (named_size (drop at s)) (drop at s) i 0 (omega (arith, line_size)) ∙ get_or-drop at s i 0 ∙ rw e refl)

  pub line_here_lem : named_in bytes_here ≡ line_here s at
  unfolding named_in
  line_here_lem = λ t. record { number = number_is t; quantity = quantity_is t }

-- the number before: none, or one that is known
first_passes : (s n : List ℕ) → true ≡ comes_next s None n
first_passes s n = refl

later_told : (s : List ℕ) (p : ℕ) (n : List ℕ) {r : Bool} → r ≡ before (number_here s p) n → r ≡ comes_next s (Some p) n
later_told s p n e = e

------------------------------------------------------------------------
-- What it passes by

-- behind a line more
pub next_rises : (s : List ℕ) (at : ℕ) (x : NamedLine) (seen : List NamedLine) → x.number ≡ number_here s at →
    (n : List ℕ) → rises_over n (x ∷ seen) ≡ comes_next s (Some at) n
unfolding rises_over
next_rises s at x seen e n = ap (λ (m : List ℕ). before m n) e

------------------------------------------------------------------------
-- Where it ends

module _ (s : List ℕ) (prev : Option ℕ) (units at : ℕ) where
  pub end_cut : at ≤ length s → length s - at < 1 + (get_or s at 0 + 1) → None ≡ line_end s prev units at
  unfolding line_end
  end_cut h l = rw (lt-leb (named_size (drop at s)) (length (drop at s)) (omega (arith, line_size s at, length-drop at s)))

  pub end_bad : line_passes s prev units at ≡ false → None ≡ line_end s prev units at
  unfolding line_end
  end_bad g = rw (g, and-false)

  pub end_good : (n : ℕ) → n ≡ 1 + (get_or s at 0 + 1) → at ≤ length s → n ≤ length s - at → line_passes s prev units at ≡ true →
      Some (at + n) ≡ line_end s prev units at
  unfolding line_end
  end_good n e h l g =
      let z : n ≡ named_size (drop at s) = omega (arith, line_size s at) in
      rw (le-leb (named_size (drop at s)) (length (drop at s)) (omega (arith, line_size s at, length-drop at s)), g, z)

  -- behind lines seen that have these units, the last of which starts at prev
  module _ (seen : List NamedLine) (sum : units ≡ units_said seen) (rises : (n : List ℕ) → rises_over n seen ≡ comes_next s prev n) where
    line_told : new_line seen (bytes_here s at) ≡ line_passes s prev units at
    unfolding new_line every
    line_told = rw (line_here_lem s at, rises (number_here s at), sum, and-true) refl

    -- the line as the reader takes it, where it passes
    pub record Taken (r : ℕ) : Type 0 where
      pub inside : named_size (drop at s) ≤ length (drop at s)
      pub is_good : new_line seen (bytes_here s at) ≡ true
      pub is : one named_size (new_line seen) (drop at s) at
          ≡ item (bytes_here s at) (drop (named_size (drop at s)) (drop at s)) (at + named_size (drop at s))
      pub ends : r ≡ at + named_size (drop at s)

    pub line_stays : None ≡ line_end s prev units at → one named_size (new_line seen) (drop at s) at ≡ fault at
    unfolding line_end one
    line_stays e = rw line_told (go (leb (named_size (drop at s)) (length (drop at s)) && line_passes s prev units at) e)
      where
        go : (x : Bool) → None ≡ cond x (Some (at + named_size (drop at s))) None →
            cond x (item (bytes_here s at) (drop (named_size (drop at s)) (drop at s)) (at + named_size (drop at s))) (fault at) ≡ fault at
        go true e = cc
        go false e = refl

    pub line_moves : (r : ℕ) → Some r ≡ line_end s prev units at → Taken r
    unfolding line_end one
    line_moves r e = go (leb (named_size (drop at s)) (length (drop at s))) refl (line_passes s prev units at) refl e
      where
        go : (x : Bool) → leb (named_size (drop at s)) (length (drop at s)) ≡ x → (y : Bool) → line_passes s prev units at ≡ y →
            Some r ≡ cond (x && y) (Some (at + named_size (drop at s))) None → Taken r
        go true l true g h = record {
          inside = leb-true (named_size (drop at s)) (length (drop at s)) l;
          is_good = line_told ∙ g;
          is = rw (line_told, l, g) refl;
          ends = cc;
        }
        go true l false g h = cc
        go false l y g h = cc

-- a line that passes leaves the units few
pub units_few : (seen : List NamedLine) (b : List ℕ) → new_line seen b ≡ true → units_said seen + (named_in b).quantity ≤ most_units
unfolding new_line
units_few seen b h = leb-true (units_said seen + (named_in b).quantity) most_units (every_at _ 4 h)
