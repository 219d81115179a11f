-- The walk for a shortfall: what it knows at each node, and what it may leave out.
use mathlib.Core.Path.{◌≡◌, sym, ap, ap₂, ◌∙◌}
use mathlib.Core.Bool.{true, false, cond}
use mathlib.Core.List.{List, [], ◌∷◌, ◌++◌, map}
use Prim.Native.Nat.{ℕ, ◌+◌, ◌≤◌, ◌<◌}
use native.Mathlib.Omega.{arith}
use lib.ListN.{length, length-append, length-map}
use borrow.Author.Tests.{le-leb, lt-leb}
use Rattle.ground.specs.Lists.{keep}
use Rattle.kits.specs.Kits.{most_place}
use Rattle.nodes.specs.Nodes.{parent, child, next, label, tag, size, row_of}
use Rattle.nodes.specs.Inner.{Used, Shape, rank}
use Rattle.nodes.proofs.Rows.{climb, row_root, row_step}
use Rattle.nodes.proofs.Walk.{root_inside, root_child, child_live, child_less, next_less}
use Rattle.questions.specs.Inner.{answers, found_from, if_tag, some_tag}
use Rattle.questions.proofs.Found.{own_word, found_none, found_step, found_past}
use Rattle.shortfalls.specs.declared.Passed.{Passed}
use Rattle.shortfalls.specs.Shortfalls.{most_short}
use Rattle.shortfalls.specs.Inner.{none_passed, after, along, short_in, almost, short_at, PutBoth, PutFrom, PutIn, AtLink}
use Rattle.shortfalls.proofs.Along.{along_append, along_next, along_least}
use Rattle.shortfalls.proofs.Written.{both_same, nodes_on, nodes_same, nodes_none, nodes_down}

-- a row passes exactly when its shortfall does not pass d, and what begins with one that does not pass does not
almost_yes : (Q : List ℕ) (d : ℕ) (r : List ℕ) → (along Q none_passed r).short ≤ d → almost Q d r ≡ true
unfolding almost short_in
almost_yes Q d r h = le-leb (along Q none_passed r).short d h

almost_no : (Q : List ℕ) (d : ℕ) (r s : List ℕ) → d < (along Q none_passed r).short → almost Q d (r ++ s) ≡ false
unfolding almost short_in
almost_no Q d r s h =
    let e : (along Q none_passed (r ++ s)).short ≡ (along Q (along Q none_passed r) s).short = ap (λ (p : Passed). p.short)
    (along_append Q none_passed r s) in
    lt-leb (along Q none_passed (r ++ s)).short d (omega (arith, along_least Q (along Q none_passed r) s))

module _ {N Q : List ℕ} {d at : ℕ} {p : Passed} (A : AtLink N Q d at p) where
  -- a link that is followed is in the table, and the labels there may be passed
  pub link_inside : (at ≡ 0 → ⊥) → at < size N
  link_inside n = (A.live (omega arith)).inside

  -- at a link to nothing nothing is set down
  pub none_at : at ≡ 0 → {o z : List ℕ} {n : ℕ} → PutFrom Q d N at o z n n o z
  none_at e {o} {z} {n} =
      nodes_none (tag N) (short_at Q N) o z n (ap (found_from (almost Q d) N) e ∙ found_none A.shape (almost Q d))

-- What the walk knows once it has passed the label l of the node that it came to: q is what the node's own row makes; t is its measure
pub record Seen (N Q : List ℕ) (d at : ℕ) (p : Passed) (l : ℕ) (q : Passed) (t : ℕ) : Type 0 where
  pub knows : AtLink N Q d at p
  pub measured : rank N at ≤ t
  pub node : at ≡ 0 → ⊥
  pub l_is : l ≡ label N at
  pub q_is : q ≡ after Q p l

module _ {N Q : List ℕ} {d at : ℕ} {p : Passed} {l : ℕ} {q : Passed} {t : ℕ} (v : Seen N Q d at p l q t) where
  pos : 0 < at
  pos = let n = v.node in omega arith

  here : Used N at
  here = v.knows.live pos

  pub in_table : at < size N
  in_table = here.inside

  pub to_next : {m : ℕ} → m ≡ next N at → (rank N m < rank N at) × AtLink N Q d m p
  to_next e = rw e (
    next_less v.knows.shape at here,
    record {
      shape = v.knows.shape;
      live = (v.knows.shape.good at here).sibling;
      most = v.knows.most;
      few = v.knows.few;
      passed = λ g. v.knows.passed pos ∙ ap (λ i. along Q none_passed (row_of N i)) (sym ((v.knows.shape.good at here).same g));
    },
  )

  made : q ≡ along Q none_passed (row_of N at)
  made =
      v.q_is ∙ ap₂ (after Q) (v.knows.passed pos) v.l_is
      ∙ sym (along_next Q none_passed (row_of N (parent N at)) (label N at))
      ∙ ap (along Q none_passed) (sym (row_step (climb v.knows.shape) at here))

  short_is : q.short ≡ (along Q none_passed (row_of N at)).short
  short_is = ap (λ (x : Passed). x.short) made

  -- a branch whose shortfall passes d is left with all that is below it
  left_out : {m : ℕ} → d < q.short → m ≡ next N at → found_from (almost Q d) N at ≡ found_from (almost Q d) N m
  left_out h e =
      found_past v.knows.shape (almost Q d) at here (λ s. almost_no Q d (row_of N at) s (omega (arith, short_is))) ∙ ap
      (found_from (almost Q d) N) (sym e)

  module _ (h : q.short ≤ d) where
    pub to_child : {k : ℕ} → k ≡ child N at → (rank N k < t) × AtLink N Q d k q
    to_child e = rw e (
      omega (arith, v.measured, child_less v.knows.shape at here),
      record {
        shape = v.knows.shape;
        live = child_live v.knows.shape at in_table;
        most = v.knows.most;
        few = h;
        passed = λ g. made ∙ ap (λ i. along Q none_passed (row_of N i)) (sym ((v.knows.shape.head at in_table).back g));
      },
    )

    passes : almost Q d (row_of N at) ≡ true
    passes = almost_yes Q d (row_of N at) (omega (arith, short_is))

    own_passes : (f : ℕ → ℕ) → map f (keep (answers (almost Q d) N) (at ∷ [])) ≡ if_tag (tag N at) (f at)
    own_passes f = own_word v.knows.shape (almost Q d) f at ∙ ap (λ b. if_tag (cond b (tag N at) 0) (f at)) passes

    module _ {k m u : ℕ} (k-is : k ≡ child N at) (m-is : m ≡ next N at) (u-is : u ≡ tag N at) where
      parts_are : found_from (almost Q d) N at ≡ keep (answers (almost Q d) N) (at ∷ []) ++ (found_from (almost Q d) N k ++ found_from (almost Q d) N m)
      parts_are = rw (k-is, m-is) (found_step v.knows.shape (almost Q d) at here)

      own_tag : map (tag N) (keep (answers (almost Q d) N) (at ∷ [])) ≡ some_tag u
      own_tag = own_passes (tag N) ∙ ap some_tag (sym u-is)

      own_short : map (short_at Q N) (keep (answers (almost Q d) N) (at ∷ [])) ≡ if_tag u q.short
      unfolding short_at short_in
      own_short = own_passes (short_at Q N) ∙ ap₂ if_tag (sym u-is) (sym short_is)

      pub room : length (found_from (almost Q d) N at) ≡ length (some_tag u) + (length (found_from (almost Q d) N k) + length (found_from (almost Q d) N m))
      room =
          let own = keep (answers (almost Q d) N) (at ∷ []) in
          let below = found_from (almost Q d) N k in
          let behind = found_from (almost Q d) N m in
          omega (
            arith,
            ap length parts_are,
            length-append own (below ++ behind),
            length-append below behind,
            ap length own_tag,
            length-map own (tag N),
          )

      set_down_lem : {o o₁ o₂ o₃ z z₁ z₂ z₃ : List ℕ} {n a b r : ℕ} →
          PutBoth o z n (some_tag u) (if_tag u q.short) a o₁ z₁ →
          PutFrom Q d N k o₁ z₁ a b o₂ z₂ →
          PutFrom Q d N m o₂ z₂ b r o₃ z₃ →
          PutFrom Q d N at o z n r o₃ z₃
      set_down_lem x y w =
          let below = found_from (almost Q d) N k in
          let behind = found_from (almost Q d) N m in
          nodes_same (tag N) (short_at Q N) parts_are
          (nodes_on (tag N) (short_at Q N) (keep (answers (almost Q d) N) (at ∷ [])) (below ++ behind) (both_same own_tag own_short x)
          (nodes_on (tag N) (short_at Q N) below behind y w))

-- The walk came onto a chain by a link, with the outputs o and z and the place n, and has come to a later link, with the outputs o₁ and z₁ and the place k:
-- whatever sets down what is found from there on has set down the whole
pub record CameTo (N Q : List ℕ) (d link : ℕ) (p : Passed) (o z : List ℕ) (n : ℕ) (o₁ z₁ : List ℕ) (at k : ℕ) : Type 0 where
  pub knows : AtLink N Q d at p
  pub lower : rank N at ≤ rank N link
  pub whole : {r : ℕ} {o₂ z₂ : List ℕ} → PutFrom Q d N at o₁ z₁ k r o₂ z₂ → PutFrom Q d N link o z n r o₂ z₂

pub came_first : {N Q o z : List ℕ} {d link n : ℕ} {p : Passed} → AtLink N Q d link p → CameTo N Q d link p o z n o z link n
came_first A = record { knows = A; lower = omega arith; whole = λ w. w }

module _ {N Q o z o₁ z₁ : List ℕ} {d link n at k : ℕ} {p : Passed} (C : CameTo N Q d link p o z n o₁ z₁ at k) where
  pub came_ends : k + length (found_from (almost Q d) N at) ≡ n + length (found_from (almost Q d) N link)
  came_ends =
      let down = nodes_down (tag N) (short_at Q N) o₁ z₁ k (found_from (almost Q d) N at) in
      omega (arith, (C.whole down).one.behind, length-map (found_from (almost Q d) N link) (tag N))

  module _ {l t m : ℕ} {q : Passed} (v : Seen N Q d at p l q t) (m-is : m ≡ next N at) where
    pub came_past : d < q.short → CameTo N Q d link p o z n o₁ z₁ m k
    came_past h = record {
      knows = (to_next v m-is).1;
      lower = omega (arith, C.lower, (to_next v m-is).0);
      whole = λ w. C.whole (nodes_same (tag N) (short_at Q N) (left_out v h m-is) w);
    }

    pub came_on : {c u a b : ℕ} {o₂ o₃ z₂ z₃ : List ℕ} → q.short ≤ d → c ≡ child N at → u ≡ tag N at →
        PutBoth o₁ z₁ k (some_tag u) (if_tag u q.short) a o₂ z₂ → PutFrom Q d N c o₂ z₂ a b o₃ z₃ → CameTo N Q d link p o z n o₃ z₃ m b
    came_on h e f x y = record {
      knows = (to_next v m-is).1;
      lower = omega (arith, C.lower, (to_next v m-is).0);
      whole = λ w. C.whole (set_down_lem v h e m-is f x y w);
    }

-- where it begins: no label is passed
pub root_link : {N : List ℕ} (Q : List ℕ) (d : ℕ) {k : ℕ} → Shape most_place N → d ≤ most_short → k ≡ child N 0 → AtLink N Q d k none_passed
unfolding along
root_link {N} Q d S h e = rw e (record {
  shape = S;
  live = root_child S;
  most = h;
  few = omega arith;
  passed = λ g. ap (along Q none_passed) (sym (ap (row_of N) ((S.head 0 (root_inside S)).back g) ∙ row_root (climb S)));
})

-- what is set down from the root's first child on is all
pub root_set : (Q : List ℕ) (d : ℕ) (N : List ℕ) {k r : ℕ} {o o' z z' : List ℕ} → k ≡ child N 0 → PutFrom Q d N k o z 0 r o' z' →
    PutIn Q d N o z r o' z'
root_set Q d N e w = nodes_same (tag N) (short_at Q N) (ap (found_from (almost Q d) N) (sym e)) w
