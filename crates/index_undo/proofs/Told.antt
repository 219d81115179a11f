-- A sound table is told by the kits that it holds and the nodes where their rows stand: two that agree in these agree in every word.
use mathlib.Core.Path.{◌≡◌, sym, ap, subst, ◌∙◌}
use mathlib.Core.Logic.{⊎_elim}
use mathlib.Core.List.{List, [], ◌∷◌, ◌++◌}
use Prim.Native.Nat.{ℕ, zero, suc, ◌/◌, ◌%◌, ◌≤◌, ◌<◌}
use native.Mathlib.Omega.{arith}
use lib.ListN.{length, get_or}
use lib.Seq.{ext_get_or}
use Rattle.nodes.specs.Nodes.{words_per_node, at, word, parent, child, next, label, depth, tag, tally, size, row_of}
use Rattle.nodes.specs.Inner.{Used, Live, Shape, Sound}
use Rattle.nodes.specs.Held.{Kit, held, tag_in, count_beginning}
use Rattle.nodes.proofs.Lists.{zero_or}
use Rattle.nodes.proofs.Rows.{climb, live_inside, row_root, row_step, row_length, snoc_injective}
use Rattle.nodes.proofs.Order.{one_node}
use Rattle.nodes.proofs.Held.{tag_of_row}
use Rattle.nodes.proofs.Beginnings.{Begun, used_begun, begun_used}
use Rattle.nodes.proofs.Tallies.{tally_counts}
use Rattle.index_undo.specs.Inner.{KeepsRows, ToldByRows}
use Rattle.index_undo.proofs.Siblings.{LeastAbove, child_least, next_least}

-- what holds of each word of a node
each_word : (P : ℕ → Type 0) → P 0 → P 1 → P 2 → P 3 → P 4 → P 5 → P 6 → (k : ℕ) → k < words_per_node → P k
each_word P a b c d e f g zero h = a
each_word P a b c d e f g (suc zero) h = b
each_word P a b c d e f g (suc (suc zero)) h = c
each_word P a b c d e f g (suc (suc (suc zero))) h = d
each_word P a b c d e f g (suc (suc (suc (suc zero)))) h = e
each_word P a b c d e f g (suc (suc (suc (suc (suc zero))))) h = f
each_word P a b c d e f g (suc (suc (suc (suc (suc (suc zero)))))) h = g
each_word P a b c d e f g (suc (suc (suc (suc (suc (suc (suc k))))))) h = absurd (omega arith)

module _ {parts : ℕ} {N M : List ℕ} (So : Sound parts N) (To : Sound parts M) (K : KeepsRows N M) (same-held : held M ≡ held N) where
  abbrev S : Shape parts N
  S = So.shape

  abbrev T : Shape parts M
  T = To.shape

  -- M has no other nodes: their rows would begin kits that N holds
  used_back : (i : ℕ) → Used M i → Used N i
  used_back i u =
      let o = begun_used So (row_of M i) (subst (λ (ks : List Kit). Begun ks (row_of M i)) same-held (used_begun To i u)) in
      subst (Used N) (one_node T o.0 i (λ _. K.used o.0 o.1) (λ _. u) (K.rows o.0 o.1 ∙ o.2)) o.1

  keeps_live : (i : ℕ) → Live N i → Live M i
  keeps_live i l g = K.used i (l g)

  same_row : (i : ℕ) → Live N i → row_of M i ≡ row_of N i
  same_row zero l = row_root (climb T) ∙ sym (row_root (climb S))
  same_row (suc i) l = K.rows (suc i) (l (omega arith))

  -- what is above a node, and its label
  same_above : (i : ℕ) → Used N i → (parent M i ≡ parent N i) × (label M i ≡ label N i)
  same_above i u =
      let s = snoc_injective (row_of M (parent M i)) (row_of N (parent N i)) (label M i) (label N i)
      (sym (row_step (climb T) i (K.used i u)) ∙ K.rows i u ∙ row_step (climb S) i u) in
      let p : Live N (parent N i) = (S.good i u).above in (
        one_node T (parent M i) (parent N i) (T.good i (K.used i u)).above (keeps_live (parent N i) p) (s.0 ∙ sym (same_row (parent N i) p)),
        s.1,
      )

  -- links that lead by the same rule lead to the same node
  same_link : {q l a b : ℕ} → LeastAbove N q l a → LeastAbove M q l b → b ≡ a
  same_link {q} {l} {a} {b} A B = ⊎_elim
      (λ (z : b ≡ 0). ⊎_elim
      (λ (y : a ≡ 0). z ∙ sym y)
      (λ (g : 0 < a). absurd (omega (arith, z, (to_M g).0)))
      (zero_or a))
      (λ (h : 0 < b).
      let o = to_N h in
      let u : Used N a = A.live o.0 in
      let v : Used N b = used_back b (B.live h) in
      let e : label N b ≡ label N a = omega (arith, o.1, (to_M o.0).1, (same_above a u).1, (same_above b v).1) in
      one_node S b a (λ _. v) (λ _. u)
      (row_step (climb S) b v ∙ ap (λ (x : ℕ). row_of N x ++ (label N b ∷ [])) (sym (same_above b v).0 ∙ B.mine h ∙ sym (A.mine o.0))
      ∙ ap (λ (x : ℕ). row_of N (parent N a) ++ (x ∷ [])) e ∙ sym (row_step (climb S) a u)))
      (zero_or b)
    where
      to_M : 0 < a → (0 < b) × (label M b ≤ label M a)
      to_M g =
          let u : Used N a = A.live g in
          B.least a (K.used a u) ((same_above a u).0 ∙ A.mine g) (omega (arith, A.above g, (same_above a u).1))

      to_N : 0 < b → (0 < a) × (label N a ≤ label N b)
      to_N h =
          let v : Used N b = used_back b (B.live h) in
          A.least b v (sym (same_above b v).0 ∙ B.mine h) (omega (arith, B.above h, (same_above b v).1))

  same_child : (i : ℕ) → Live N i → child M i ≡ child N i
  same_child i l = same_link (child_least S i (live_inside (climb S) i l)) (child_least T i (live_inside (climb T) i (keeps_live i l)))

  same_next : (i : ℕ) → Used N i → next M i ≡ next N i
  same_next i u =
      same_link (next_least S i u)
      (subst (λ (q : ℕ). LeastAbove M q (label N i) (next M i)) (same_above i u).0
      (subst (λ (l : ℕ). LeastAbove M (parent M i) l (next M i)) (same_above i u).1 (next_least T i (K.used i u))))

  same_depth : (i : ℕ) → Live N i → depth M i ≡ depth N i
  same_depth i l = sym (row_length (climb T) i (keeps_live i l)) ∙ ap length (same_row i l) ∙ row_length (climb S) i l

  same_tag : (i : ℕ) → Live N i → tag M i ≡ tag N i
  same_tag i l =
      tag_of_row T i (keeps_live i l) ∙ ap (tag_in (row_of M i)) same-held ∙ ap (λ (r : List ℕ). tag_in r (held N)) (same_row i l)
      ∙ sym (tag_of_row S i l)

  same_tally : (i : ℕ) → Live N i → tally M i ≡ tally N i
  same_tally i l =
      tally_counts To i (keeps_live i l) ∙ ap (count_beginning (row_of M i)) same-held
      ∙ ap (λ (r : List ℕ). count_beginning r (held N)) (same_row i l) ∙ sym (tally_counts So i l)

  used_words : (i : ℕ) → Used N i → (k : ℕ) → k < words_per_node → word M i k ≡ word N i k
  used_words i u =
      let l : Live N i = λ _. u in
      each_word (λ (k : ℕ). word M i k ≡ word N i k) (same_above i u).0 (same_child i l) (same_next i u) (same_above i u).1
      (same_depth i l) (same_tag i l) (same_tally i l)

  root_words : (k : ℕ) → k < words_per_node → word M 0 k ≡ word N 0 k
  root_words =
      let l : Live N 0 = λ g. absurd (omega arith) in
      each_word (λ (k : ℕ). word M 0 k ≡ word N 0 k) (T.root.no_parent ∙ sym S.root.no_parent) (same_child 0 l)
      (T.root.no_next ∙ sym S.root.no_next) (T.root.no_label ∙ sym S.root.no_label) (same_depth 0 l) (same_tag 0 l) (same_tally 0 l)

  module _ (same_length : length M ≡ length N) where
    -- a node that is free in N is free in M
    free_label : (i : ℕ) → i < size N → label N i ≡ 0 → label M i ≡ 0
    free_label i h z = ⊎_elim
        (λ (y : label M i ≡ 0). y)
        (λ (g : 0 < label M i). absurd
        (omega (arith, (used_back i (record { inside = omega (arith, same_length); named = g })).named)))
        (zero_or (label M i))

    same_words : (i k : ℕ) → i < size N → k < words_per_node → word M i k ≡ word N i k
    same_words zero k h w = root_words k w
    same_words (suc i) k h w = ⊎_elim
        (λ (z : label N (suc i) ≡ 0).
        T.free (suc i) (omega arith) (omega (arith, same_length)) (free_label (suc i) h z) k w ∙ sym (S.free (suc i) (omega arith) h z k w))
        (λ (g : 0 < label N (suc i)). used_words (suc i) (record { inside = h; named = g }) k w)
        (zero_or (label N (suc i)))

    same_table : M ≡ N
    same_table = ext_get_or 0 M N same_length (λ j h.
        let e : at (j / words_per_node) (j % words_per_node) ≡ j = omega arith in
        ap (λ (x : ℕ). get_or M x 0) (sym e) ∙ same_words (j / words_per_node) (j % words_per_node) (omega (arith, same_length, S.sized.whole)) (omega arith)
        ∙ ap (λ (x : ℕ). get_or N x 0) e)

-- The law
pub told_by_rows : {parts : ℕ} {N M : List ℕ} → ToldByRows parts N M
told_by_rows = same_table
