-- Equal labels on a path: labels rise down it, so they stand together. A climb counts them from the last one up.
use mathlib.Core.Path.{◌≡◌, sym, ap, ◌∙◌}
use mathlib.Core.Logic.{⊎_elim, ◌≢◌}
use mathlib.Core.Bool.{Bool, true, false}
use mathlib.Core.List.{List}
use Prim.Native.Nat.{ℕ, zero, suc, ◌+◌, ◌≤◌, ◌<◌}
use native.Mathlib.Omega.{arith}
use Rattle.ground.specs.Inner.{Says, holds, fails}
use Rattle.kits.specs.Kits.{count, most_units, most_quantity}
use Rattle.nodes.specs.Nodes.{parent, child, label, depth, size, row_of}
use Rattle.nodes.specs.Inner.{Used, Live, Climb, Links}
use Rattle.nodes.proofs.Lists.{same_or}
use Rattle.nodes.proofs.Rows.{used_pos, live_inside, row_step, count_snoc_same, count_above}
use Rattle.nodes_check.specs.Inner.{Kin, Few, FewIfLast, Fews}
use Rattle.nodes_check.proofs.Answers.{says_as}

-- the way up from i, whose label is x, has come to the node at, and k labels of the row are x
pub record Climbing (N : List ℕ) (i x at k : ℕ) : Type 0 where
  pub is : x ≡ label N i
  pub live : Live N at
  pub low : label N at ≤ x
  pub most : k ≤ most_quantity
  pub found : count x (row_of N i) ≡ k + count x (row_of N at)

module _ {N : List ℕ} (C : Climb N) where
  -- how often x is in the row of a node whose label is x
  count_own : (x i : ℕ) → Used N i → label N i ≡ x → count x (row_of N i) ≡ suc (count x (row_of N (parent N i)))
  count_own x i u e = rw (← e) (ap (count (label N i)) (row_step C i u) ∙ count_snoc_same (label N i) (row_of N (parent N i)))

  own_used : (x i : ℕ) → Live N i → 0 < x → label N i ≡ x → Used N i
  own_used x zero l g e = absurd (omega (arith, C.no_label))
  own_used x (suc i) l g e = l (omega arith)

  pub climb_start : {i x at : ℕ} → Used N i → x ≡ label N i → at ≡ parent N i → Climbing N i x at 1
  climb_start {i} {x} u xe ae = rw ae (record {
    is = xe;
    live = C.above i u;
    low = omega (arith, C.rising i u);
    most = omega arith;
    found = omega (arith, count_own x i u (omega arith));
  })

  module _ {i x at k l : ℕ} (u : Used N i) (s : Climbing N i x at k) (le : l ≡ label N at) where
    again : l ≡ x → Used N at
    again e = own_used x at s.live (omega (arith, s.is, u.named)) (omega arith)

    pub climb_next : {p : ℕ} → l ≡ x → (k ≡ most_quantity → ⊥) → p ≡ parent N at → Climbing N i x p (k + 1)
    climb_next e n pe = rw pe (record {
      is = s.is;
      live = C.above at (again e);
      low = omega (arith, C.rising at (again e));
      most = omega (arith, s.most, n);
      found = omega (arith, s.found, count_own x at (again e) (omega arith));
    })

    pub climb_many : l ≡ x → k ≡ most_quantity → Says (Few N i) false
    climb_many e m =
        fails (λ f. omega (arith, f.few, s.found, count_own x at (again e) (omega arith), ap (λ (y : ℕ). count y (row_of N i)) s.is))

    pub climb_end : (l ≡ x → ⊥) → Says (Few N i) true
    climb_end n =
        holds (record {
          few = omega (
            arith,
            s.most,
            s.found,
            s.low,
            n,
            count_above C x at s.live (omega (arith, s.low, n)),
            ap (λ (y : ℕ). count y (row_of N i))
                s.is,
          );
        })

-- whether a label is the last of its kind is read off the first child
module _ {N : List ℕ} {i l : ℕ} (le : l ≡ label N i) where
  pub last_free : l ≡ 0 → Says (FewIfLast N i) true
  last_free z = holds (λ t. absurd (omega (arith, t.named)))

  module _ {c : ℕ} (ce : c ≡ child N i) where
    pub child_inside : Links N → i < size N → c < size N
    child_inside L h = omega (arith, ce, live_inside L.up (child N i) (L.down i h))

    module _ {m : ℕ} (me : m ≡ label N c) where
      pub last_goes_on : m ≡ l → Says (FewIfLast N i) true
      last_goes_on e = holds (λ t. absurd (t.other (ap (label N) (sym ce) ∙ sym me ∙ e ∙ le)))

      pub last_says : {b : Bool} → (l ≡ 0 → ⊥) → (m ≡ l → ⊥) → Says (Few N i) b → Says (FewIfLast N i) b
      last_says z n s =
          says_as s (λ f _. f) (λ g. g (record { named = omega (arith, z); other = λ e. n (me ∙ ap (label N) ce ∙ e ∙ sym le) }))

-- Where a child goes on with the label, its own count is one more: so it is enough to ask where none does
module _ {N : List ℕ} (K : Kin N) (shallow : (i : ℕ) → Used N i → depth N i ≤ most_units) (F : Fews N) where
  abbrev C : Climb N
  C = K.links.up

  few_from : (d i : ℕ) → Used N i → most_units < depth N i + d → Few N i
  few_from zero i u h = absurd (omega (arith, shallow i u))
  few_from (suc d) i u h = ⊎_elim
      (λ (e : label N (child N i) ≡ label N i).
      let c : Used N (child N i) = own_used C (label N i) (child N i) (K.links.down i u.inside) u.named e in
      let p : parent N (child N i) ≡ i = K.back i u.inside (used_pos C (child N i) c) in
      let f : Few N (child N i) = few_from d (child N i) c (omega (arith, C.deeper (child N i) c, ap (depth N) p)) in
      record {
        few = omega (
          arith,
          f.few,
          count_own C (label N i) (child N i) c e,
          ap (λ (x : ℕ). count (label N i) (row_of N x)) p,
          ap
              (λ (x : ℕ). count x (row_of N (child N i))) e,
        );
      })
      (λ (n : label N (child N i) ≢ label N i). F.each i u.inside (record { named = u.named; other = n }))
      (same_or (label N (child N i)) (label N i))

  pub few_all : (i : ℕ) → Used N i → Few N i
  few_all i u = few_from (suc most_units) i u (omega arith)
