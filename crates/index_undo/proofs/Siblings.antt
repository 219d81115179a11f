-- The links of a table by labels: a link leads to the child with the least label above another one, a first child's above none, a next
-- sibling's above the node's own.
use mathlib.Core.Path.{◌≡◌, ap, subst}
use mathlib.Core.List.{List}
use Prim.Native.Nat.{ℕ, ◌≤◌, ◌<◌}
use native.Mathlib.Omega.{arith}
use Rattle.nodes.specs.Nodes.{parent, child, next, label, size}
use Rattle.nodes.specs.Inner.{Used, Live, OnChain, here, later, Shape}
use Rattle.nodes.proofs.Rows.{climb, used_pos, live_inside}
use Rattle.nodes.proofs.Walk.{child_live}
use Rattle.nodes.proofs.Chain.{past}

-- a is the child of q with the least label above l, 0 where there is none
pub record LeastAbove (N : List ℕ) (q l a : ℕ) : Type 0 where
  pub live : Live N a
  pub mine : 0 < a → parent N a ≡ q
  pub above : 0 < a → l < label N a
  pub least : (x : ℕ) → Used N x → parent N x ≡ q → l < label N x → (0 < a) × (label N a ≤ label N x)

module _ {parts : ℕ} {N : List ℕ} (S : Shape parts N) where
  -- labels rise along a chain
  chain_least : {h x : ℕ} → OnChain N h x → Live N h → 0 < x → (0 < h) × (label N h ≤ label N x)
  chain_least here l g = (g, omega arith)
  chain_least (later {h = h} k o) l g =
      let r = chain_least o (S.good h (l k)).sibling g in
      (k, omega (arith, r.1, (S.good h (l k)).greater r.0))

  -- of two nodes on a chain, the one with the greater label is behind the other
  further_on : {h j x : ℕ} → OnChain N h j → OnChain N h x → Live N h → 0 < j → label N j < label N x → OnChain N (next N j) x
  further_on here p l g less = past p (λ e. omega (arith, less, ap (label N) e))
  further_on (later {h = h} k o) p l g less =
      let v : Live N (next N h) = (S.good h (l k)).sibling in
      let r = chain_least o v g in
      further_on o (past p (λ e. omega (arith, less, r.1, (S.good h (l k)).greater r.0, ap (label N) e))) v g less

  pub child_least : (i : ℕ) → i < size N → LeastAbove N i 0 (child N i)
  child_least i h = record {
    live = (S.head i h).first;
    mine = (S.head i h).back;
    above = λ g. ((S.head i h).first g).named;
    least = λ x u e _.
        chain_least (subst (λ (q : ℕ). OnChain N (child N q) x) e (S.good x u).chained) (S.head i h).first (used_pos (climb S) x u);
  }

  pub next_least : (j : ℕ) → Used N j → LeastAbove N (parent N j) (label N j) (next N j)
  next_least j v = record {
    live = (S.good j v).sibling;
    mine = (S.good j v).same;
    above = (S.good j v).greater;
    least = λ x u e less.
        chain_least
        (further_on (S.good j v).chained (subst (λ (q : ℕ). OnChain N (child N q) x) e (S.good x u).chained)
        (child_live S (parent N j) (live_inside (climb S) (parent N j) (S.good j v).above)) (used_pos (climb S) j v) less)
        (S.good j v).sibling (used_pos (climb S) x u);
  }
