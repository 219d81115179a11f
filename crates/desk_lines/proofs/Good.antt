-- What a line that was taken apart has behind its letter and its tag.
use mathlib.Core.Path.{◌≡◌, refl, ap, sym, ◌∙◌}
use mathlib.Core.Logic.{◌⊎◌, inl, inr}
use mathlib.Core.Bool.{Bool, true, false, ◌&&◌, cond, false≢true}
use mathlib.Core.List.{List, [], ◌∷◌}
use Prim.Native.Nat.{ℕ, ◌+◌, ◌≤◌, ◌<◌}
use native.Mathlib.Omega.{arith}
use lib.ListN.{length, get_or, drop}
use lib.Dec.{eqb, leb}
use borrow.Author.Tests.{eqb-true, eqb-false, leb-true}
use Rattle.ground.specs.Lists.{allb, anyb, every}
use Rattle.ground.proofs.Laws.{and_right, every_at, below_or}
use Rattle.desk_text.specs.Inner.{EndOf, up_to, StandsFrom}
use Rattle.desk_text.specs.Amounts.{amount_of, good_amount}
use Rattle.desk_text.specs.Letters.{registers, inserts, writes, takes_list}
use Rattle.desk_text.specs.Lines.{space, longest_line, fields_of, fields_from, filled, good_pairs}
use Rattle.desk_text.specs.Lines.{Parsed, none, line, line_if, exactly, pairs, amount_and_pairs, behind_letter, lettered, parsed}
use Rattle.desk_text.proofs.Parted.{from_step, end_there}
use Rattle.desk_text.proofs.Lines.{field_at, count_step, count_end}
use Rattle.desk_lists.specs.Inner.{Pairs}

-- the one field from a position on is the rest of the line
module _ (l : List ℕ) (at : ℕ) (one : length (fields_from l at) ≡ 1) where
  pub one_inside : at ≤ length l
  one_inside = go (below_or (length l) at)
    where
      go : (length l < at) ⊎ (at ≤ length l) → at ≤ length l
      go (inl h) = absurd (omega (arith, count_end l at h))
      go (inr h) = h

  one_last : (r : ℕ) → EndOf l at space r → r ≡ length l
  one_last r e = go (below_or r (length l))
    where
      go : (r < length l) ⊎ (length l ≤ r) → r ≡ length l
      go (inl h) =
          let a = count_step l at r one_inside e in
          let b = count_step l (r + 1) (r + 1 + up_to space (drop (r + 1) l)) (omega arith) (end_there space l (r + 1) (omega arith)) in
          absurd (omega arith)
      go (inr h) = omega (arith, e.high)

  pub one_field : get_or (fields_from l at) 0 [] ≡ field_at l at (length l)
  one_field =
      let r = at + up_to space (drop at l) in
      let e : EndOf l at space r = end_there space l at one_inside in
      ap (λ fs. get_or fs 0 []) (from_step space l at r one_inside e) ∙ ap (field_at l at) (one_last r e)

-- a line is not none, and has one letter and one list of fields
abbrev is_line : Parsed → Bool
is_line none = false
is_line (line x t fs) = true

abbrev letter_in : Parsed → ℕ
letter_in none = 0
letter_in (line x t fs) = x

abbrev fields_in : Parsed → List (List ℕ)
fields_in none = []
fields_in (line x t fs) = fs

no_line : {x t : ℕ} {fs : List (List ℕ)} → none ≡ line x t fs → ⊥
no_line e = false≢true (ap is_line e)

-- what its fields fs are, of those behind some others
record Behind (x : ℕ) (gs fs : List (List ℕ)) : Type 0 where
  one : x ≡ registers → length fs ≡ 1
  good : (x ≡ registers → ⊥) → good_pairs fs ≡ true
  some : allb filled gs ≡ true → allb filled fs ≡ true

some_rest : (f : List ℕ) (gs : List (List ℕ)) → allb filled (f ∷ gs) ≡ true → allb filled gs ≡ true
unfolding allb
some_rest f gs h = and_right (filled f) (allb filled gs) h

no_fields : (fs : List (List ℕ)) → length fs ≡ 0 → good_pairs fs ≡ true
unfolding good_pairs
no_fields [] e = refl
no_fields (f ∷ fs) e = absurd (omega arith)

module _ (x t : ℕ) (fs : List (List ℕ)) where
  passed : (b : Bool) (p : Parsed) → cond b p none ≡ line x t fs → (b ≡ true) × (p ≡ line x t fs)
  passed true p e = (refl, e)
  passed false p e = absurd (no_line e)

  if_line : (b : Bool) (y u : ℕ) (gs : List (List ℕ)) → line_if b y u gs ≡ line x t fs → (b ≡ true) × (y ≡ x) × (gs ≡ fs)
  unfolding line_if
  if_line b y u gs e = let p = passed b (line y u gs) e in (p.0, ap letter_in p.1, ap fields_in p.1)

  -- the letters with a list: it is good where the line is, and filled where the fields hs are
  pairs_behind : (b : Bool) (y u : ℕ) (hs gs : List (List ℕ)) → (y ≡ registers → ⊥) → (b ≡ true → good_pairs gs ≡ true) →
      (allb filled hs ≡ true → allb filled gs ≡ true) → line_if b y u gs ≡ line x t fs → Behind x hs fs
  pairs_behind b y u hs gs n g f e =
      let p = if_line b y u gs e in
      record {
        one = λ q. absurd (n (p.1 ∙ q));
        good = λ _. ap good_pairs (sym p.2) ∙ g p.0;
        some = λ h. ap (allb filled) (sym p.2) ∙ f h;
      }

  amount_behind : (y : ℕ) (gs : List (List ℕ)) → (y ≡ registers → ⊥) → amount_and_pairs y gs ≡ line x t fs → Behind x gs fs
  unfolding amount_and_pairs
  amount_behind y [] n e = absurd (no_line e)
  amount_behind y (a ∷ gs) n e =
      pairs_behind (good_amount a && good_pairs gs) y (amount_of a) (a ∷ gs) gs n (and_right (good_amount a) (good_pairs gs)) (some_rest a gs) e

  letter_behind : (y : ℕ) (gs : List (List ℕ)) → behind_letter y gs ≡ line x t fs → Behind x gs fs
  unfolding behind_letter exactly pairs
  letter_behind y gs = go (eqb y registers) (eqb y inserts) (eqb y writes) (anyb (eqb y) takes_list) refl
    where
      go : (r i w k : Bool) → eqb y registers ≡ r →
          cond r (line_if (eqb (length gs) 1) y 0 gs) (cond i (amount_and_pairs y gs) (cond w (line_if (eqb (length gs) 0) y 0 gs)
          (cond k (line_if (good_pairs gs) y 0 gs) none))) ≡ line x t fs → Behind x gs fs
      go true i w k q e =
          let p = if_line (eqb (length gs) 1) y 0 gs e in
          record {
            one = λ _. ap length (sym p.2) ∙ eqb-true (length gs) 1 p.0;
            good = λ n. absurd (n (sym p.1 ∙ eqb-true y registers q));
            some = λ h. ap (allb filled) (sym p.2) ∙ h;
          }
      go false true w k q e = amount_behind y gs (eqb-false y registers q) e
      go false false true k q e =
          pairs_behind (eqb (length gs) 0) y 0 gs gs (eqb-false y registers q) (λ z. no_fields gs (eqb-true (length gs) 0 z)) (λ h. h) e
      go false false false true q e = pairs_behind (good_pairs gs) y 0 gs gs (eqb-false y registers q) (λ z. z) (λ h. h) e
      go false false false false q e = absurd (no_line e)

  fields_behind : (gs : List (List ℕ)) → lettered gs ≡ line x t fs → Behind x gs fs
  unfolding lettered
  fields_behind [] e = absurd (no_line e)
  fields_behind (f ∷ gs) e =
      let b = letter_behind (get_or f 0 0) gs (passed (eqb (length f) 1) (behind_letter (get_or f 0 0) gs) e).1 in
      record { one = b.one; good = b.good; some = λ h. b.some (some_rest f gs h) }

-- a line whose fields stand from a position on
module _ (l : List ℕ) (x t from : ℕ) (S : StandsFrom l (parsed l) x t from) where
  tests : List Bool
  tests = leb 1 (length l) ∷ leb (length l) longest_line ∷ allb filled (fields_of l) ∷ []

  passes : (every tests ≡ true) × (lettered (fields_of l) ≡ line x t (fields_from l from))
  unfolding parsed tests
  passes = passed x t (fields_from l from) (every tests) (lettered (fields_of l)) S.is

  behind : Behind x (fields_of l) (fields_from l from)
  behind = fields_behind x t (fields_from l from) (fields_of l) passes.1

  -- "P number registers"
  pub one_number : x ≡ registers → length (fields_from l from) ≡ 1
  one_number = behind.one

  -- every other letter
  pub list_pairs : (x ≡ registers → ⊥) → Pairs l from
  unfolding tests
  list_pairs n =
      record {
        short = leb-true (length l) longest_line (every_at tests 1 passes.0);
        inside = S.inside;
        some = behind.some (every_at tests 2 passes.0);
        good = behind.good n;
      }
