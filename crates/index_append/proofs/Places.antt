-- Where the next node goes: the lowest free node is the number of nodes used, no child has the label yet, and its link stands behind the last child.
use mathlib.Core.Path.{◌≡◌, refl, sym, ap, subst, ◌∙◌}
use mathlib.Core.Logic.{⊎_elim, ◌≢◌}
use mathlib.Core.Bool.{false, cond}
use mathlib.Core.List.{List, [], ◌∷◌, ◌++◌, append_assoc, Memᴰ}
use Prim.Native.Nat.{ℕ, ◌≤◌, ◌<◌}
use native.Mathlib.Omega.{arith}
use lib.Dec.{ltb}
use Rattle.ground.proofs.Laws.{first_from_is, first_unique}
use Rattle.nodes.specs.Nodes.{parent, child, next, label, size, nodes_of, is_free, row_of, children}
use Rattle.nodes.specs.Inner.{Used, Live, Shape}
use Rattle.nodes.specs.Inner.{Siblings}
use Rattle.nodes.proofs.Lists.{zero_or}
use Rattle.nodes.proofs.Fields.{root_not_free}
use Rattle.nodes.proofs.Rows.{climb, used_pos, live_inside, up_ind, row_root, row_step}
use Rattle.nodes.proofs.Order.{one_node}
use Rattle.nodes.proofs.Chain.{siblings}
use Rattle.index_links.specs.Links.{child_with, last_below}
use Rattle.index_links.specs.Inner.{Chained, ends, goes}
use Rattle.index_links.proofs.Chains.{chained_end, below_on, the_children, child_lives, mine_child, with_found, with_row, with_missing}
use Rattle.index_insert.specs.Enter.{lowest_free, enter_below, lacks}
use Rattle.index_insert.proofs.Free.{used_not_free, unnamed_free}
use Rattle.index_insert.proofs.Entered.{enter_old, lacks_old}
use Rattle.index_append.specs.Inner.{Packed, Edge, top, below, LastChild}

-- The node that is taken next
module _ {parts : ℕ} {N : List ℕ} {n : ℕ} (S : Shape parts N) (K : Packed N n) where
  pub packed_passed : (i : ℕ) → i < n → is_free N i ≡ false
  packed_passed i h = ⊎_elim (λ (z : i ≡ 0). root_not_free N i z) (λ (g : 0 < i). used_not_free S i (K.used i g h)) (zero_or i)

  pub packed_lowest : lowest_free N ≡ n
  unfolding lowest_free nodes_of
  packed_lowest = first_unique (is_free N) 0 (size N) (lowest_free N) n
      (first_from_is (is_free N) 0 (size N) (size N) (omega arith))
      (record {
        low = omega arith;
        high = K.few;
        passed = λ i l u. packed_passed i u;
        found = λ u. unnamed_free S n K.some u (K.free n (omega arith) u);
      })

-- The last of a chain: none has a greater label, and all labels are below what is greater than its
module _ {N : List ℕ} (B : Siblings N) where
  last_greatest : {h : ℕ} {xs : List ℕ} (b i : ℕ) → Chained N h xs → Live N h → next N b ≡ 0 → Memᴰ b xs → Memᴰ i xs → label N i ≤ label N b
  last_greatest b i ends v z m k = absurd (mathlib.Core.List.Memᴰ.not-nil m)
  last_greatest {xs = h ∷ ys} b i (goes g c) v z m k = ⊎_elim
      (λ (e : b ≡ h). ⊎_elim
      (λ (q : i ≡ h). omega (arith, ap (label N) e, ap (label N) q))
      (λ j. absurd (mathlib.Core.List.Memᴰ.not-nil (subst (Memᴰ i) (chained_end c (ap (next N) (sym e) ∙ z)) j)))
      (mathlib.Core.List.Memᴰ.cases_cons k))
      (λ j. ⊎_elim
      (λ (q : i ≡ h). omega (arith, ap (label N) q, first_less b c (B.goes h (v g)) (λ r. B.rises h (v g) r) j))
      (λ l. last_greatest b i c (B.goes h (v g)) z j l)
      (mathlib.Core.List.Memᴰ.cases_cons k))
      (mathlib.Core.List.Memᴰ.cases_cons m)
    where
      first_less : {k x : ℕ} {zs : List ℕ} (b : ℕ) → Chained N k zs → Live N k → (0 < k → x < label N k) → Memᴰ b zs → x < label N b
      first_less b ends v f m = absurd (mathlib.Core.List.Memᴰ.not-nil m)
      first_less b (goes {h = k} g c) v f m = ⊎_elim
          (λ (e : b ≡ k). omega (arith, f g, ap (label N) e))
          (λ j. first_less b c (B.goes k (v g)) (λ r. omega (arith, f g, B.rises k (v g) r)) j)
          (mathlib.Core.List.Memᴰ.cases_cons m)

  last_is_below : (l : ℕ) {h : ℕ} {xs : List ℕ} (a b : ℕ) → Chained N h xs → Live N h → next N b ≡ 0 → label N b < l → Memᴰ b xs → last_below N l a xs ≡ b
  unfolding last_below
  last_is_below l a b ends v z e m = absurd (mathlib.Core.List.Memᴰ.not-nil m)
  last_is_below l {xs = h ∷ ys} a b (goes g c) v z e m = ⊎_elim
      (λ (q : b ≡ h). ends_here q (chained_end c (ap (next N) (sym q) ∙ z)))
      (λ j. last_is_below l (cond (ltb (label N h) l) h a) b c (B.goes h (v g)) z e j)
      (mathlib.Core.List.Memᴰ.cases_cons m)
    where
      ends_here : b ≡ h → ys ≡ [] → last_below N l a (h ∷ ys) ≡ b
      ends_here q r = below_on N l h ys a (subst (λ (x : ℕ). label N x < l) q e) ∙ none_left r ∙ sym q
        where
          none_left : ys ≡ [] → last_below N l h ys ≡ h
          none_left r = rw r (refl)

module _ {parts : ℕ} {N : List ℕ} {p b l : ℕ} (S : Shape parts N) (inside : p < size N) (H : LastChild N p b l) where
  there : 0 < b → Memᴰ b (children N p)
  there g = mine_child S inside b (H.used g) (H.mine g)

  pub behind_last : b ≡ last_below N l 0 (children N p)
  unfolding last_below
  behind_last = ⊎_elim
      (λ (z : b ≡ 0). z ∙ sym (no_child (H.none z)))
      (λ (g : 0 < b). sym (last_is_below (siblings S) l 0 b (the_children S inside) (child_lives S inside) (H.last g) (H.less g) (there g)))
      (zero_or b)
    where
      no_child : child N p ≡ 0 → last_below N l 0 (children N p) ≡ 0
      no_child z = rw (chained_end (the_children S inside) z) (refl)

  -- every child's label is below l
  pub behind_all : (j : ℕ) → Used N j → parent N j ≡ p → label N j < l
  behind_all j u e =
      let m : Memᴰ j (children N p) = mine_child S inside j u e in
      ⊎_elim
      (λ (z : b ≡ 0). absurd (mathlib.Core.List.Memᴰ.not-nil (subst (Memᴰ j) (chained_end (the_children S inside) (H.none z)) m)))
      (λ (g : 0 < b). omega (arith, H.less g, last_greatest (siblings S) b j (the_children S inside) (child_lives S inside) (H.last g) (there g) m))
      (zero_or b)

  pub behind_new : child_with N p l ≡ 0
  behind_new = ⊎_elim
      (λ (z : child_with N p l ≡ 0). z)
      (λ (k : 0 < child_with N p l).
      let w = with_found S inside l (child_with N p l) refl k in
      absurd (omega (arith, w.2, behind_all (child_with N p l) w.0 w.1)))
      (zero_or (child_with N p l))

  pub behind_inside : b < size N
  behind_inside = ⊎_elim (λ (z : b ≡ 0). omega (arith, S.sized.some_node)) (λ (g : 0 < b). (H.used g).inside) (zero_or b)

-- Down the row of a node the table has all
module _ {parts : ℕ} {N : List ℕ} (S : Shape parts N) where
  step_down : (i : ℕ) → Used N i → child_with N (parent N i) (label N i) ≡ i
  step_down i u =
      let c = child_with N (parent N i) (label N i) in
      let home : parent N i < size N = live_inside (climb S) (parent N i) (S.good i u).above in
      ⊎_elim
      (λ (z : c ≡ 0). absurd (with_missing S home (label N i) z i u refl refl))
      (λ (g : 0 < c). one_node S c i (λ _. (with_found S home (label N i) c refl g).0) (λ _. u)
      (with_row S home (label N i) c refl g ∙ sym (row_step (climb S) i u)))
      (zero_or c)

  pub enter_down : (t p : ℕ) → Live N p → (ls : List ℕ) → enter_below N 0 (row_of N p ++ ls) t ≡ enter_below N p ls t
  enter_down t p v =
      up_ind (climb S) (λ (p : ℕ). (ls : List ℕ) → enter_below N 0 (row_of N p ++ ls) t ≡ enter_below N p ls t)
      (λ ls. ap (λ (r : List ℕ). enter_below N 0 (r ++ ls) t) (row_root (climb S)))
      (λ i u f ls.
      let e : child_with N (parent N i) (label N i) ≡ i = step_down i u in
      let m : child_with N (parent N i) (label N i) ≢ 0 = λ z. omega (arith, used_pos (climb S) i u) in
      ap (λ (r : List ℕ). enter_below N 0 (r ++ ls) t) (row_step (climb S) i u)
      ∙ ap (λ (r : List ℕ). enter_below N 0 r t) (append_assoc (row_of N (parent N i)) (label N i ∷ []) ls)
      ∙ f (label N i ∷ ls)
      ∙ enter_old N (parent N i) (label N i) ls t m
      ∙ ap (λ (x : ℕ). enter_below N x ls t) e)
      p v

  pub lacks_down : (p : ℕ) → Live N p → (ls : List ℕ) → lacks N 0 (row_of N p ++ ls) ≡ lacks N p ls
  lacks_down p v =
      up_ind (climb S) (λ (p : ℕ). (ls : List ℕ) → lacks N 0 (row_of N p ++ ls) ≡ lacks N p ls)
      (λ ls. ap (λ (r : List ℕ). lacks N 0 (r ++ ls)) (row_root (climb S)))
      (λ i u f ls.
      let e : child_with N (parent N i) (label N i) ≡ i = step_down i u in
      let m : child_with N (parent N i) (label N i) ≢ 0 = λ z. omega (arith, used_pos (climb S) i u) in
      ap (λ (r : List ℕ). lacks N 0 (r ++ ls)) (row_step (climb S) i u)
      ∙ ap (lacks N 0) (append_assoc (row_of N (parent N i)) (label N i ∷ []) ls)
      ∙ f (label N i ∷ ls)
      ∙ lacks_old N (parent N i) (label N i) ls m
      ∙ ap (λ (x : ℕ). lacks N x ls) e)
      p v

  pub edge_live : {i : ℕ} → Edge N i → Live N i
  edge_live top = λ g. absurd (omega arith)
  edge_live (below u z e) = λ g. u
