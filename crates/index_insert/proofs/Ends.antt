-- The node that a row leads to below another: it is the one node with that row.
use mathlib.Core.Path.{◌≡◌, refl, sym, ap, ap₂, ◌∙◌}
use mathlib.Core.Logic.{◌≢◌}
use mathlib.Core.List.{List, [], ◌∷◌, ◌++◌, append_assoc, append-nil}
use Prim.Native.Nat.{ℕ, suc, ◌+◌, ◌<◌}
use native.Mathlib.Omega.{arith}
use lib.ListN.{length, take, length-append}
use lib.Seq.{take-append-le, take_all}
use Rattle.nodes.specs.Nodes.{parent, label, depth, size, row_of}
use Rattle.nodes.specs.Inner.{Used, Live, Shape}
use Rattle.nodes.proofs.Rows.{climb, live_inside, length_snoc, row_root, row_length, row_step, deep_used, snoc_injective, Ancestor, ancestor}
use Rattle.nodes.proofs.Order.{one_node}
use Rattle.index_links.specs.Links.{child_with, node_of, one_more, recount}
use Rattle.index_links.proofs.Chains.{with_found, with_row, with_missing}
use Rattle.index_insert.specs.Enter.{enter_below, enter}
use Rattle.index_insert.proofs.Entered.{Entered}

-- all of a row but what comes behind its next label
take_next : (r : List ℕ) (l : ℕ) (ls : List ℕ) → take (suc (length r)) (r ++ (l ∷ ls)) ≡ r ++ (l ∷ [])
take_next r l ls =
    let q : List ℕ = r ++ (l ∷ []) in
    let n : length q ≡ length r + 1 = length_snoc r l in
    ap (take (suc (length r))) (sym (append_assoc r (l ∷ []) ls)) ∙ take-append-le (suc (length r)) q ls (omega arith)
    ∙ take_all (suc (length r)) q (omega arith)

module _ {parts : ℕ} {N : List ℕ} (S : Shape parts N) where
  -- where the row of a node goes on from that of p, p has a child with the next label
  child_on_the_way : (p e l : ℕ) (ls : List ℕ) → Live N p → Live N e → row_of N e ≡ row_of N p ++ (l ∷ ls) → child_with N p l ≢ 0
  child_on_the_way p e l ls lp le h z =
      let r : List ℕ = row_of N p in
      let de : depth N e ≡ length r + suc (length ls) = sym (row_length (climb S) e le) ∙ ap length h ∙ length-append r (l ∷ ls) in
      let a : Ancestor N e (suc (length r)) = ancestor (climb S) e le (suc (length r)) (omega arith) in
      let ae : row_of N a.node ≡ r ++ (l ∷ []) = a.is ∙ ap (take (suc (length r))) h ∙ take_next r l ls in
      let u : Used N a.node = deep_used (climb S) a.node a.live
      (omega (arith, row_length (climb S) a.node a.live, ap length ae, length_snoc r l)) in
      let s = snoc_injective (row_of N (parent N a.node)) r (label N a.node) l (sym (row_step (climb S) a.node u) ∙ ae) in
      let q : parent N a.node ≡ p = one_node S (parent N a.node) p (S.good a.node u).above lp s.0 in
      with_missing S (live_inside (climb S) p lp) l z a.node u q s.1

  pub node_of_row : (ls : List ℕ) (p e : ℕ) → Live N p → Live N e → row_of N e ≡ row_of N p ++ ls → node_of N p ls ≡ e
  unfolding node_of
  node_of_row [] p e lp le h = one_node S p e lp le (sym (h ∙ append-nil (row_of N p)))
  node_of_row (l ∷ ls) p e lp le h =
      let home : p < size N = live_inside (climb S) p lp in
      let n : child_with N p l ≢ 0 = child_on_the_way p e l ls lp le h in
      let w = with_found S home l (child_with N p l) refl (omega arith) in
      let c : row_of N (child_with N p l) ++ ls ≡ row_of N p ++ (l ∷ ls) =
      ap (λ (r : List ℕ). r ++ ls) (with_row S home l (child_with N p l) refl (omega arith)) ∙ append_assoc (row_of N p) (l ∷ []) ls in
      node_of_row ls (child_with N p l) e (λ _. w.0) le (h ∙ sym c)

-- A row that is entered leads to its end, from the root and from every node on its way
module _ {parts q t new : ℕ} {N M r : List ℕ} (X : Entered parts N M q r t new) where
  pub entered_node : (p : ℕ) (ls : List ℕ) → Live N p → row_of N p ++ ls ≡ r → node_of M p ls ≡ X.end
  entered_node p ls l e =
      node_of_row X.shape ls p X.end (λ g. X.used p (l g)) X.live
      (X.is ∙ sym e ∙ ap (λ (x : List ℕ). x ++ ls) (sym (X.rows p l)))

  root_leads : node_of M 0 r ≡ X.end
  root_leads =
      node_of_row X.shape r 0 X.end (λ g. absurd (omega arith)) X.live
      (X.is ∙ ap (λ (x : List ℕ). x ++ r) (sym (row_root (climb X.shape))))

  end_deep : length r ≡ depth M X.end
  end_deep = sym (ap length X.is) ∙ row_length (climb X.shape) X.end X.live

  -- the kit is counted in from there
  pub enter_counts : M ≡ enter_below N 0 r t → enter N r t ≡ recount one_more M (depth M X.end) X.end
  unfolding enter
  enter_counts w =
      ap (λ (Y : List ℕ). recount one_more Y (length r) (node_of Y 0 r)) (sym w) ∙ ap₂ (λ (k j : ℕ). recount one_more M k j) end_deep root_leads
