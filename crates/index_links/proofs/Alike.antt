-- Tables that differ in tags and in numbers of kits alone: the same nodes are used, with the same links and the same rows.
use mathlib.Core.Path.{◌≡◌, refl, sym, ap, subst, ◌∙◌}
use mathlib.Core.Bool.{Bool, true}
use mathlib.Core.Logic.{⊎_elim}
use mathlib.Core.List.{List, [], ◌∷◌, map}
use Prim.Native.Nat.{ℕ, zero, suc, ◌<◌}
use native.Mathlib.Omega.{arith}
use lib.ListN.{length}
use Rattle.ground.specs.Lists.{first_or, keep, from}
use Rattle.ground.proofs.Laws.{same_cases}
use Rattle.nodes.specs.Nodes.{tag_word, word, parent, child, next, label, depth, tag, tally, size}
use Rattle.nodes.specs.Nodes.{nodes_of, is_free, free_nodes, tagged, path, row_of, chain, children, upward, is_under, tags_under}
use Rattle.nodes.specs.Inner.{Used, Live, Zero, OnChain, here, later, Good, Head, Shape}
use Rattle.nodes.specs.Held.{kits_in_order, kit_at, held}
use Rattle.nodes.proofs.Lists.{zero_or, never}
use Rattle.nodes.proofs.Fields.{root_not_free}
use Rattle.nodes.proofs.Sorted.{keep_same, map_same}
use Rattle.nodes.proofs.Decided.{free_zeros, zeros_free, in_node}
use Rattle.index_links.specs.Links.{has_label, child_with, node_of}
use Rattle.index_links.proofs.Splice.{zeros}

pub record Alike (N M : List ℕ) : Type 0 where
  pub lengths : length M ≡ length N
  pub words : (i w : ℕ) → w < tag_word → word M i w ≡ word N i w

pub alike_back : {N M : List ℕ} → Alike N M → Alike M N
alike_back A = record { lengths = sym A.lengths; words = λ i w h. sym (A.words i w h) }

pub alike_then : {N M L : List ℕ} → Alike N M → Alike M L → Alike N L
alike_then A B = record { lengths = B.lengths ∙ A.lengths; words = λ i w h. B.words i w h ∙ A.words i w h }

first_same : (p q : ℕ → Bool) (e : ℕ) (xs : List ℕ) → ((x : ℕ) → p x ≡ q x) → first_or e p xs ≡ first_or e q xs
unfolding first_or
first_same p q e [] f = refl
first_same p q e (x ∷ xs) f = rw (f x, first_same p q e xs f)

module _ {N M : List ℕ} (A : Alike N M) where
  pub alike_size : size M ≡ size N
  alike_size = omega (arith, A.lengths)

  pub alike_parent : (i : ℕ) → parent M i ≡ parent N i
  alike_parent i = A.words i 0 (omega arith)

  pub alike_child : (i : ℕ) → child M i ≡ child N i
  alike_child i = A.words i 1 (omega arith)

  pub alike_next : (i : ℕ) → next M i ≡ next N i
  alike_next i = A.words i 2 (omega arith)

  pub alike_label : (i : ℕ) → label M i ≡ label N i
  alike_label i = A.words i 3 (omega arith)

  pub alike_depth : (i : ℕ) → depth M i ≡ depth N i
  alike_depth i = A.words i 4 (omega arith)

  pub alike_used : (i : ℕ) → Used N i → Used M i
  alike_used i u = record { inside = omega (arith, u.inside, alike_size); named = omega (arith, u.named, alike_label i) }

  pub alike_live : (i : ℕ) → Live N i → Live M i
  alike_live i l g = alike_used i (l g)

  -- rows, and the way up
  paths : (k i : ℕ) → path M k i ≡ path N k i
  unfolding path
  paths zero i = refl
  paths (suc k) i = rw (alike_parent i, alike_label i, paths k (parent N i))

  pub alike_row : (i : ℕ) → row_of M i ≡ row_of N i
  unfolding row_of
  alike_row i = rw (alike_depth i) (paths (depth N i) i)

  pub alike_upward : (k i : ℕ) → upward M k i ≡ upward N k i
  unfolding upward
  alike_upward zero i = refl
  alike_upward (suc k) i = rw (alike_parent i, alike_upward k (parent N i))

  pub alike_under : (i j : ℕ) → is_under M i j ≡ is_under N i j
  unfolding is_under
  alike_under i j = rw (alike_depth j, alike_upward (depth N j) j)

  -- chains, and the way down
  chains : (n i : ℕ) → chain M n i ≡ chain N n i
  unfolding chain
  chains zero i = refl
  chains (suc n) zero = refl
  chains (suc n) (suc i) = rw (alike_next (suc i), chains n (next N (suc i)))

  pub alike_children : (p : ℕ) → children M p ≡ children N p
  unfolding children
  alike_children p = rw (alike_size, alike_child p) (chains (size N) (child N p))

  pub alike_child_with : (p l : ℕ) → child_with M p l ≡ child_with N p l
  unfolding child_with has_label
  alike_child_with p l =
      first_same (has_label M l) (has_label N l) 0 (children M p) (λ x. rw (alike_label x)) ∙ ap (first_or 0 (has_label N l)) (alike_children p)

  pub alike_node : (p : ℕ) (r : List ℕ) → node_of M p r ≡ node_of N p r
  unfolding node_of
  alike_node p [] = refl
  alike_node p (l ∷ r) = rw (alike_child_with p l) (alike_node (child_with N p l) r)

  pub alike_on_chain : {h i : ℕ} → OnChain N h i → OnChain M h i
  alike_on_chain here = here
  alike_on_chain {i = i} (later {h = h} g o) = later g (subst (λ (k : ℕ). OnChain M k i) (sym (alike_next h)) (alike_on_chain o))

  -- the shape
  pub alike_good : {parts i : ℕ} → Good parts N i → Good parts M i
  alike_good {i = i} g =
      let e : parent M i ≡ parent N i = alike_parent i in
      let x : next M i ≡ next N i = alike_next i in
      record {
        above = rw e (λ h. alike_used (parent N i) (g.above h));
        deeper = rw (e, alike_depth i, alike_depth (parent N i)) g.deeper;
        shallow = rw (alike_depth i) g.shallow;
        place = rw (alike_label i) g.place;
        rising = rw (e, alike_label i, alike_label (parent N i)) g.rising;
        few = rw (alike_label i, alike_row i) g.few;
        sibling = rw x (λ h. alike_used (next N i) (g.sibling h));
        same = rw (x, alike_parent (next N i), e) g.same;
        greater = rw (x, alike_label i, alike_label (next N i)) g.greater;
        chained = rw (e, alike_child (parent N i)) (alike_on_chain g.chained);
      }

-- a node without a label keeps its tag and its number
abbrev pub FreeKept : List ℕ → List ℕ → Type 0
FreeKept N M = (i : ℕ) → 0 < i → i < size N → label N i ≡ 0 → (tag M i ≡ tag N i) × (tally M i ≡ tally N i)

module _ {parts : ℕ} {N M : List ℕ} (A : Alike N M) (S : Shape parts N) where
  pub alike_shape : FreeKept N M → Shape parts M
  alike_shape kept = record {
    sized =
        record {
          whole = omega (arith, A.lengths, S.sized.whole);
          some_node = omega (arith, alike_size A, S.sized.some_node);
          most =
              omega (arith, alike_size A, S.sized.most);
        };
    root = record {
      no_parent = alike_parent A 0 ∙ S.root.no_parent;
      no_next = alike_next A 0 ∙ S.root.no_next;
      no_label = alike_label A 0 ∙ S.root.no_label;
      no_depth = alike_depth A 0 ∙ S.root.no_depth;
    };
    free = λ i g h z.
        let b : i < size N = omega (arith, alike_size A) in
        let y : label N i ≡ 0 = sym (alike_label A i) ∙ z in
        let o : Zero N i = S.free i g b y in
        zeros M i (alike_parent A i ∙ o 0 (omega arith)) (alike_child A i ∙ o 1 (omega arith)) (alike_next A i ∙ o 2 (omega arith)) z
        (alike_depth A i ∙ o 4 (omega arith)) ((kept i g b y).0 ∙ o 5 (omega arith)) ((kept i g b y).1 ∙ o 6 (omega arith));
    good = λ i u. alike_good A (S.good i (alike_used (alike_back A) i u));
    head = λ i h.
        let o : Head N i = S.head i (omega (arith, alike_size A)) in
        let c : child M i ≡ child N i = alike_child A i in
        record { first = rw c (λ g. alike_used A (child N i) (o.first g)); back = rw (c, alike_parent A (child N i)) o.back };
  }

-- free nodes of tables of good shape are told by their labels
module _ {parts : ℕ} {N M : List ℕ} (A : Alike N M) (S : Shape parts M) where
  free_too : (i : ℕ) → i < size N → is_free N i ≡ true → is_free M i ≡ true
  free_too i h e = ⊎_elim
      (λ (z : i ≡ 0). absurd (never (sym e ∙ root_not_free N i z)))
      (λ (g : 0 < i).
      let y : label M i ≡ 0 = alike_label A i ∙ free_zeros N i e 3 (omega arith) in
      zeros_free M i g (S.free i g (omega (arith, alike_size A)) y))
      (zero_or i)

module _ {parts : ℕ} {N M : List ℕ} (A : Alike N M) (S : Shape parts N) (T : Shape parts M) where
  pub alike_free : free_nodes M ≡ free_nodes N
  unfolding free_nodes nodes_of
  alike_free =
      ap (λ (n : ℕ). keep (is_free M) (from 0 n)) (alike_size A)
      ∙ keep_same (is_free M) (is_free N) (nodes_of N) (λ i m.
      let h : i < size N = in_node N i m in
      same_cases (is_free M i) (is_free N i) (free_too (alike_back A) S i (omega (arith, alike_size A))) (free_too A T i h))

-- with the same tags too, the same kits
module _ {N M : List ℕ} (A : Alike N M) (t : (i : ℕ) → tag M i ≡ tag N i) where
  tagged_same : keep (tagged M) (nodes_of M) ≡ keep (tagged N) (nodes_of N)
  unfolding tagged nodes_of
  tagged_same =
      ap (λ (n : ℕ). keep (tagged M) (from 0 n)) (alike_size A) ∙ keep_same (tagged M) (tagged N) (nodes_of N) (λ i m. rw (t i))

  pub alike_held : held M ≡ held N
  unfolding held kit_at
  alike_held =
      ap kits_in_order (map_same (kit_at M) (kit_at N) (keep (tagged M) (nodes_of M)) (λ i m. rw (alike_row A i, t i))
      ∙ ap (map (kit_at N)) tagged_same)

  pub alike_tags_under : (i : ℕ) → tags_under M i ≡ tags_under N i
  unfolding tags_under
  alike_tags_under i =
      ap length (keep_same (is_under M i) (is_under N i) (keep (tagged M) (nodes_of M)) (λ j m. alike_under A i j)
      ∙ ap (keep (is_under N i)) tagged_same)
