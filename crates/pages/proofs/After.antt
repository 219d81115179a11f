-- The walk to the first kit after a row, whichever the question. "Passes and comes after the row" is itself a test of rows: below a node that has the
-- row's first places it asks for what passes and comes after the places left.
use mathlib.Core.Path.{◌≡◌, refl, sym, ap, ap₂, ◌∙◌}
use mathlib.Core.Bool.{Bool, false, cond, ◌&&◌, and-false, and-true}
use mathlib.Core.List.{List, [], ◌∷◌, ◌++◌}
use Prim.Native.Nat.{ℕ, suc, ◌+◌, ◌≤◌, ◌<◌}
use native.Mathlib.Numerals.{add-one}
use native.Mathlib.Omega.{arith}
use lib.ListN.{length, take, drop, get_or, take-append-drop, drop_of_length-le}
use lib.Seq.{drop-cons, take-suc}
use borrow.Author.Tests.{lt-ltb, le-ltb, eq-eqb, ne_eqb}
use Rattle.kits.specs.Kits.{most_place, before}
use Rattle.kits.proofs.Order.{before_along}
use Rattle.nodes.specs.Nodes.{child, next, label, tag, size, row_of}
use Rattle.nodes.specs.Inner.{Used, Shape, rank}
use Rattle.nodes.proofs.Rows.{climb, row_root, row_step}
use Rattle.nodes.proofs.Walk.{root_inside, next_less}
use Rattle.questions.specs.Inner.{found_from, first_from, Asks}
use Rattle.questions.proofs.Found.{found_alike}
use Rattle.questions.proofs.Asked.{Visit, next_asks, stops, skips, none_at, no_first, same_first, behind_next, behind_is, Enters, found_below, found_behind}
use Rattle.pages.specs.Inner.{passes_after, first_after, Alongside, Reaches, ended, here, later}

-- What comes after the places left of the row
module _ (rest : List ℕ → Bool) where
  -- nothing, where nothing passes
  passes_dead : (r s : List ℕ) → rest s ≡ false → passes_after r rest s ≡ false
  unfolding passes_after
  passes_dead r s e = rw e

  -- behind the row's end every row does
  passes_all : (x : ℕ) (s : List ℕ) → passes_after [] rest (x ∷ s) ≡ rest (x ∷ s)
  unfolding passes_after before
  passes_all x s = and-true (rest (x ∷ s))

  module _ (p : ℕ) (r : List ℕ) where
    -- none that goes on with a smaller label, and all with a greater one
    passes_smaller : (x : ℕ) (s : List ℕ) → x < p → passes_after (p ∷ r) rest (x ∷ s) ≡ false
    unfolding passes_after before
    passes_smaller x s h = rw (le-ltb p x (omega arith), ne_eqb p x (λ e. omega arith)) (and-false (rest (x ∷ s)))

    passes_greater : (x : ℕ) (s : List ℕ) → p < x → passes_after (p ∷ r) rest (x ∷ s) ≡ rest (x ∷ s)
    unfolding passes_after before
    passes_greater x s h = rw (lt-ltb p x h) (and-true (rest (x ∷ s)))

    -- with the same label those that come after the places behind it
    passes_equal : (on : List ℕ → Bool) (x : ℕ) (s : List ℕ) → x ≡ p → rest (x ∷ s) ≡ on s → passes_after (p ∷ r) rest (x ∷ s) ≡ passes_after r on s
    unfolding passes_after before
    passes_equal on x s e f = rw (le-ltb p x (omega arith), eq-eqb p x (sym e), f)

-- a row that ends comes after nothing
passes_none : (on : List ℕ → Bool) (r : List ℕ) → passes_after r on [] ≡ false
unfolding passes_after before
passes_none on [] = and-false (on [])
passes_none on (y ∷ r) = and-false (on [])

-- What the walk knows at a link: what the question asks there, and that the node above has the first d places of the row
pub record Beside (r : List ℕ) (test rest : List ℕ → Bool) (N : List ℕ) (i d : ℕ) : Type 0 where
  pub shape : Shape most_place N
  pub asks : Asks test rest N i
  pub along : Alongside r N i d

module _ {r : List ℕ} {test rest : List ℕ → Bool} {N : List ℕ} {i d : ℕ} (B : Beside r test rest N i d) where
  -- so it asks for what passes and comes after the places left
  after_asks : Asks (passes_after r test) (passes_after (drop d r) rest) N i
  unfolding passes_after
  after_asks = record {
    live = B.asks.live;
    left = λ q s. ap₂ ◌&&◌ (B.asks.left q s)
        (ap₂ (λ a b. before a (b ++ s)) (sym (take-append-drop d r)) (B.along.above q) ∙ before_along (take d r) (drop d r) s);
  }

  -- where all rows come after it that go on from here with the label or a greater one, the walk is the question's
  all_after : (0 < i → (x : ℕ) (s : List ℕ) → label N i ≤ x → passes_after (drop d r) rest (x ∷ s) ≡ rest (x ∷ s)) →
      found_from (passes_after r test) N i ≡ found_from test N i
  all_after f = found_alike B.shape (passes_after r test) test i B.asks.live
      (λ q x s g b. after_asks.left q (x ∷ s) ∙ f q x s g ∙ sym (B.asks.left q (x ∷ s)))

  -- behind the row's end
  pub after_ended : {k : ℕ} → d ≡ length r → k ≡ first_from test N i → k ≡ first_after r test N i
  after_ended h f =
      let g : length r ≤ d = omega arith in
      let e : drop d r ≡ [] = drop_of_length-le r g in
      same_first (all_after (λ q x s g. ap (λ a. passes_after a rest (x ∷ s)) e ∙ passes_all rest x s)) f

  -- at a node the walk reads its label
  asks_visit : 0 < i → Visit test rest N i (label N i)
  asks_visit q = record { shape = B.shape; asks = B.asks; pos = q; l_is = refl }

  after_visit : 0 < i → Visit (passes_after r test) (passes_after (drop d r) rest) N i (label N i)
  after_visit q = record { shape = B.shape; asks = after_asks; pos = q; l_is = refl }

  next_beside : 0 < i → Beside r test rest N (next N i) d
  next_beside q = record {
    shape = B.shape;
    asks = next_asks (asks_visit q);
    along = record {
      inside = B.along.inside;
      above = λ n. ap (row_of N) ((B.shape.good i (B.asks.live q)).same n) ∙ B.along.above q;
    };
  }

-- The chain was passed up to a link: the walk is the same from there
pub record PassedTo (r : List ℕ) (test rest : List ℕ → Bool) (N : List ℕ) (link i d : ℕ) : Type 0 where
  pub beside : Beside r test rest N i d
  pub lower : rank N i ≤ rank N link
  pub same : found_from (passes_after r test) N link ≡ found_from (passes_after r test) N i

module _ {r : List ℕ} {test rest : List ℕ → Bool} {N : List ℕ} {link d : ℕ} (h : d < length r) where
  -- a node with a smaller label than the row's next place is passed with all that is below it
  pass : {i : ℕ} → PassedTo r test rest N link i d → 0 < i → label N i < get_or r d 0 → PassedTo r test rest N link (next N i) d
  pass {i} P q g =
      let B = P.beside in record {
        beside = next_beside B q;
        lower = omega (arith, P.lower, next_less B.shape i (B.asks.live q));
        same = P.same ∙ skips (after_visit B q)
            (λ s. ap (λ a. passes_after a rest (label N i ∷ s)) (drop-cons r d 0 h)
            ∙ passes_smaller rest (get_or r d 0) (drop (suc d) r) (label N i) s g) behind_next;
      }

  pass_to : {p i at : ℕ} → p ≡ get_or r d 0 → Reaches N p i at → PassedTo r test rest N link i d → PassedTo r test rest N link at d
  pass_to e ended P = P
  pass_to e (here q g) P = P
  pass_to e (later q g R) P = pass_to e R (pass P q (omega arith))

reached_label : {N : List ℕ} {p i at : ℕ} → Reaches N p i at → (at ≡ 0 → ⊥) → p ≤ label N at
reached_label ended n = absurd (n refl)
reached_label (here q g) n = g
reached_label (later q g R) n = reached_label R n

-- What it knows once it has reached a node and read its label l: the row's next place is p
pub record Meets (r : List ℕ) (test rest : List ℕ → Bool) (N : List ℕ) (link d at l p : ℕ) : Type 0 where
  pub beside : Beside r test rest N link d
  pub more : d ≡ length r → ⊥
  pub place : p ≡ get_or r d 0
  pub reached : Reaches N p link at
  pub node : at ≡ 0 → ⊥
  pub l_is : l ≡ label N at

-- What it reached: no node, where all have smaller labels, or one in the table
module _ {r : List ℕ} {test rest : List ℕ → Bool} {N : List ℕ} {link d at p : ℕ} (B : Beside r test rest N link d) (n : d ≡ length r → ⊥)
    (e : p ≡ get_or r d 0) (R : Reaches N p link at) where
  pub passed : PassedTo r test rest N link at d
  passed = pass_to (omega (arith, B.along.inside)) e R (record { beside = B; lower = omega arith; same = refl })

  pub after_unreached : at ≡ 0 → 0 ≡ first_after r test N link
  after_unreached z = no_first (passed.same ∙ none_at B.shape (passes_after r test) z)

  pub reached_inside : (at ≡ 0 → ⊥) → at < size N
  reached_inside n = (passed.beside.asks.live (omega arith)).inside

module _ {r : List ℕ} {test rest : List ℕ → Bool} {N : List ℕ} {link d at l p : ℕ} (M : Meets r test rest N link d at l p) where
  places_left : d < length r
  places_left = let n = M.more in omega (arith, M.beside.along.inside)

  pub came_to : PassedTo r test rest N link at d
  came_to = passed M.beside M.more M.place M.reached

  pos : 0 < at
  pos = let n = M.node in omega arith

  left_is : drop d r ≡ p ∷ drop (suc d) r
  left_is = drop-cons r d 0 places_left ∙ ap (λ a. a ∷ drop (suc d) r) (sym M.place)

  -- with a greater label all that is here, below or behind comes after the row
  pub after_greater : {k : ℕ} → p < l → k ≡ first_from test N at → k ≡ first_after r test N link
  after_greater g f = same_first (came_to.same ∙ all_after came_to.beside
      (λ q x s h. ap (λ a. passes_after a rest (x ∷ s)) left_is ∙ passes_greater rest p (drop (suc d) r) x s (omega (arith, M.l_is)))) f

  -- no row passes that goes on with this label or a greater one
  pub after_stopped : ((x : ℕ) (s : List ℕ) → l ≤ x → x ≤ most_place → rest (x ∷ s) ≡ false) → 0 ≡ first_after r test N link
  after_stopped f = no_first (came_to.same ∙ stops (after_visit came_to.beside pos)
      (λ x s g b. passes_dead rest (drop d r) (x ∷ s) (f x s (omega (arith, M.l_is)) b)))

  module _ (h : l ≤ p) where
    same_label : l ≡ p
    same_label = omega (arith, M.l_is, reached_label M.reached M.node)

    -- all that is behind comes after the row
    behind_is_after : {m k : ℕ} → m ≡ next N at → k ≡ first_from test N m → k ≡ first_after r test N m
    behind_is_after e f = rw e (same_first (all_after (next_beside came_to.beside pos)
        (λ q x s g. ap (λ a. passes_after a rest (x ∷ s)) left_is ∙ passes_greater rest p (drop (suc d) r) x s
        (omega (arith, M.l_is, same_label, (came_to.beside.shape.good at (came_to.beside.asks.live pos)).greater q)))) (rw (← e) f))

    -- no row passes that goes on with this label
    pub after_skipped : {m k : ℕ} → ((s : List ℕ) → rest (l ∷ s) ≡ false) → m ≡ next N at → k ≡ first_from test N m → k ≡ first_after r test N link
    after_skipped f e g =
        same_first (came_to.same ∙ skips (after_visit came_to.beside pos)
        (λ s. passes_dead rest (drop d r) (label N at ∷ s) (ap (λ x. rest (x ∷ s)) (sym M.l_is) ∙ f s)) (behind_is e)) (behind_is_after e g)

    module _ {on : List ℕ → Bool} {own : ℕ} (E : Enters test rest on N at l own) where
      -- the node's own row begins the row or is it, and does not come after it
      enters_after : Enters (passes_after r test) (passes_after (drop d r) rest) (passes_after (drop (suc d) r) on) N at l 0
      enters_after = record {
        seen = record { shape = came_to.beside.shape; asks = after_asks came_to.beside; pos = pos; l_is = M.l_is };
        goes = λ s. ap (λ a. passes_after a rest (l ∷ s)) left_is ∙ passes_equal rest p (drop (suc d) r) on l s same_label (E.goes s);
        own = sym (ap (λ b. cond b (tag N at) 0) (passes_none on (drop (suc d) r)));
      }

      pub child_along : {k : ℕ} → k ≡ child N at → Alongside r N k (d + 1)
      child_along e = rw e (record {
        inside = omega (arith, places_left);
        above = λ q.
            let B = came_to.beside in
            let u : Used N at = B.asks.live pos in
            ap (row_of N) ((B.shape.head at u.inside).back q) ∙ row_step (climb B.shape) at u
            ∙ ap₂ (λ a x. a ++ (x ∷ [])) (B.along.above pos) (sym M.l_is ∙ same_label ∙ M.place)
            ∙ sym (take-suc r d 0 places_left) ∙ ap (λ n. take n r) (sym (add-one d));
      })

      module _ {k b : ℕ} (e : k ≡ child N at) (f : b ≡ first_after r test N k) where
        pub after_below : (b ≡ 0 → ⊥) → b ≡ first_after r test N link
        after_below n = same_first came_to.same (found_below enters_after refl e f n)

        pub after_behind : {m a : ℕ} → b ≡ 0 → m ≡ next N at → a ≡ first_from test N m → a ≡ first_after r test N link
        after_behind z q g = same_first came_to.same (found_behind enters_after refl e f z (behind_is q) (behind_is_after q g))

-- where it begins: nothing of the row has come
pub root_along : {parts : ℕ} {N : List ℕ} (r : List ℕ) {k : ℕ} → Shape parts N → k ≡ child N 0 → Alongside r N k 0
root_along {N = N} r S e = rw e (record {
  inside = omega arith;
  above = λ q. ap (row_of N) ((S.head 0 (root_inside S)).back q) ∙ row_root (climb S);
})
