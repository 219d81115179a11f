-- The walk for a bin: what a label makes of what is asked of a row, and what the walk knows at each node.
use mathlib.Core.Path.{◌≡◌, refl, ◌∙◌}
use mathlib.Core.Bool.{Bool, true, false, cond, ◌&&◌}
use mathlib.Core.List.{List, [], ◌∷◌}
use Prim.Native.Nat.{ℕ, zero, suc, ◌+◌, ◌-◌, ◌≤◌, ◌<◌}
use native.Mathlib.Numerals.{add-one}
use native.Mathlib.Omega.{arith}
use lib.ListN.{length, get_or}
use lib.Dec.{ltb, eqb}
use borrow.Author.Tests.{eqb-true, eq-eqb, ne_eqb, lt-ltb, le-ltb}
use Rattle.ground.proofs.Laws.{empty_list}
use Rattle.kits.specs.Kits.{most_place, good_list}
use Rattle.kits.specs.Inner.{quantity, quantities, fits_along}
use Rattle.kits.proofs.Good.{GoodLines, none, line, good_even, good_lines_lem}
use Rattle.kits.proofs.Quantities.{quantities_at}
use Rattle.nodes.specs.Nodes.{child, next, label, tag}
use Rattle.nodes.specs.Inner.{Shape, rank}
use Rattle.nodes.proofs.Walk.{child_less, next_less}
use Rattle.questions.specs.Inner.{fits, found_from, NoneAbove, AtBin, had_of}
use Rattle.questions.proofs.Asked.{Visit, here, stops, next_asks, skips, behind_is, Enters, child_asks, root_asks}

-- Within a bin: the label x comes behind `last`, which has come `had` times
module _ (Q : List ℕ) (x last had : ℕ) (s : List ℕ) where
  -- the bin must have more of it than have come, and then one more has
  fits_on : fits_along Q last had (x ∷ s) ≡ (ltb (had_of x last had) (get_or Q x 0) && fits_along Q x (suc (had_of x last had)) s)
  unfolding fits_along had_of
  fits_on = go (eqb x last) refl
    where
      go : (t : Bool) → eqb x last ≡ t →
          cond t (ltb had (get_or Q x 0) && fits_along Q last (suc had) s)
          (ltb 0 (get_or Q x 0) && fits_along Q x 1 s) ≡
          (ltb (cond t had 0) (get_or Q x 0) && fits_along Q x (suc (cond t had 0)) s)
      go true e = rw (eqb-true x last e)
      go false e = refl

  -- m are in the bin, and n have come
  module _ {m n : ℕ} (a : m ≡ get_or Q x 0) (e : n ≡ had_of x last had) where
    pub fits_over : m ≤ n → fits_along Q last had (x ∷ s) ≡ false
    fits_over h = fits_on ∙ rw (← a, ← e, le-ltb n m h)

    pub fits_enters : n < m → fits_along Q last had (x ∷ s) ≡ fits_along Q x (n + 1) s
    fits_enters h = fits_on ∙ rw (← a, ← e, lt-ltb n m h, add-one)

  -- past the bin's last place
  pub fits_past : {top : ℕ} → NoneAbove Q top → top < x → x ≤ most_place → fits_along Q last had (x ∷ s) ≡ false
  unfolding fits_along
  fits_past T h g = rw (T x h g, le-ltb had 0 (omega arith)) (both (eqb x last))
    where
      both : (b : Bool) → cond b false false ≡ false
      both true = refl
      both false = refl

-- Places strictly rise: the place of the last line is above what came before, and no line has a place above it
last_line : {n prev : ℕ} {l : List ℕ} → GoodLines n prev l → (i : ℕ) → i + 2 ≡ length l → (p : ℕ) → get_or l i 0 < p →
    (prev < p) × (quantity l p ≡ 0)
unfolding quantity
last_line none i e p h = absurd (omega arith)
last_line (line {p = x} {q = q} {l = l} a b c d g) zero e p h =
    (omega arith, rw (ne_eqb p x (λ z. omega arith), empty_list l (omega arith)))
last_line (line a b c d g) (suc zero) e p h = absurd (omega (arith, good_even g))
last_line (line {p = x} {q = q} {l = l} a b c d g) (suc (suc i)) e p h =
    let t : (x < p) × (quantity l p ≡ 0) = last_line g i (omega arith) p h in
    (omega (arith, t.0), rw (ne_eqb p x (λ z. omega (arith, t.0)), t.1))

module _ (l : List ℕ) (g : good_list most_place l ≡ true) where
  pub above_none : length l < 2 → NoneAbove (quantities l) 0
  unfolding quantity
  above_none e p h b = quantities_at l p b ∙ rw (empty_list l (omega (arith, good_even (good_lines_lem most_place l g))))

  pub above_last : 2 ≤ length l → NoneAbove (quantities l) (get_or l (length l - 2) 0)
  above_last n p h b = quantities_at l p b ∙ (last_line (good_lines_lem most_place l g) (length l - 2) (omega arith) p h).1

-- How many of a label have come
module _ (x last had : ℕ) where
  pub had_same : x ≡ last → had ≡ had_of x last had
  unfolding had_of
  had_same q = rw (eq-eqb x last q)

  pub had_none : (x ≡ last → ⊥) → 0 ≡ had_of x last had
  unfolding had_of
  had_none n = rw (ne_eqb x last n)

-- The walk came onto a chain by a link, and has come to a later one
pub record CameTo (N Q : List ℕ) (top link last had at : ℕ) : Type 0 where
  pub knows : AtBin N Q top at last had
  pub lower : rank N at ≤ rank N link

pub came_first : {N Q : List ℕ} {top link last had : ℕ} → AtBin N Q top link last had → CameTo N Q top link last had link
came_first K = record { knows = K; lower = omega arith }

-- What it knows once it has read the label l of a node there; t is its measure
pub record SeenIn (N Q : List ℕ) (top link last had at l t : ℕ) : Type 0 where
  pub came : CameTo N Q top link last had at
  pub measured : rank N link ≡ t
  pub node : at ≡ 0 → ⊥
  pub l_is : l ≡ label N at

module _ {N Q : List ℕ} {top link last had at l t : ℕ} (v : SeenIn N Q top link last had at l t) where
  pub met : Visit (fits Q) (fits_along Q last had) N at l
  met = record { shape = v.came.knows.shape; asks = v.came.knows.asks; pos = let n = v.node in omega arith; l_is = v.l_is }

  -- above the bin's last place there is nothing here, below or behind
  pub past_top : top < l → found_from (fits Q) N at ≡ []
  past_top h = stops met (λ x s g b. fits_past Q x last had s v.came.knows.none_above (omega arith) b)

  pub to_next : {k : ℕ} → k ≡ next N at → (rank N k < rank N at) × CameTo N Q top link last had k
  to_next e = rw e (
    next_less v.came.knows.shape at (here met),
    record {
      knows = record { shape = v.came.knows.shape; none_above = v.came.knows.none_above; asks = next_asks met };
      lower = omega (arith, v.came.lower, next_less v.came.knows.shape at (here met));
    },
  )

  -- a label that is used up is skipped with all that is below it
  pub skipped : {m n k : ℕ} → m ≡ get_or Q l 0 → n ≡ had_of l last had → m ≤ n → k ≡ next N at →
      found_from (fits Q) N at ≡ found_from (fits Q) N k
  skipped a e h f = skips met (λ s. fits_over Q l last had s a e h) (behind_is f)

-- and once it has entered the node: n of its label have come before, fewer than the m in the bin, and its own tag is read
pub record Entered (N Q : List ℕ) (top link last had at l t m n own : ℕ) : Type 0 where
  pub comes : SeenIn N Q top link last had at l t
  pub most : m ≡ get_or Q l 0
  pub times : n ≡ had_of l last had
  pub some : n < m
  pub own_is : own ≡ tag N at

module _ {N Q : List ℕ} {top link last had at l t m n own : ℕ} (e : Entered N Q top link last had at l t m n own) where
  pub entered : Enters (fits Q) (fits_along Q last had) (fits_along Q l (n + 1)) N at l own
  unfolding fits_along
  entered = record { seen = met e.comes; goes = λ s. fits_enters Q l last had s e.most e.times e.some; own = e.own_is }

  pub to_child : {k : ℕ} → k ≡ child N at → (rank N k < t) × AtBin N Q top k l (n + 1)
  to_child f = rw f (
    omega (arith, e.comes.measured, e.comes.came.lower, child_less e.comes.came.knows.shape at (here (met e.comes))),
    record { shape = e.comes.came.knows.shape; none_above = e.comes.came.knows.none_above; asks = child_asks entered },
  )

-- where it begins: no label has come
pub root_at : {N Q : List ℕ} {top c : ℕ} → Shape most_place N → NoneAbove Q top → c ≡ child N 0 → AtBin N Q top c 0 0
root_at {N} {Q} S T e = record { shape = S; none_above = T; asks = root_asks S (fits Q) e }
