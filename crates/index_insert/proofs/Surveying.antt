-- A look over the table, from the last node down: what it has told so far is told of the nodes from there on.
use mathlib.Core.Path.{◌≡◌, refl, sym, ap, subst, ◌∙◌}
use mathlib.Core.Bool.{true, false}
use mathlib.Core.List.{List}
use Prim.Native.Nat.{ℕ, ◌+◌, ◌-◌, ◌≤◌, ◌<◌}
use native.Mathlib.Omega.{arith}
use lib.ListN.{length}
use Rattle.ground.specs.Lists.{anyb, keep, from, first_or}
use Rattle.ground.proofs.Laws.{first_from_here, first_from_on, first_from_end}
use Rattle.nodes.specs.Nodes.{label, tag, size, nodes_of, is_free}
use Rattle.nodes.specs.Inner.{Shape, bears, tag_borne}
use Rattle.nodes.proofs.Lists.{any_from_yes, any_from_no, any_from_end, count_from_yes, count_from_no, count_from_end}
use Rattle.nodes.proofs.Fields.{root_not_free, bears_yes, bears_no, from_root, borne_is, free_are}
use Rattle.nodes.proofs.Sorted.{found_anyb}
use Rattle.nodes.proofs.Decided.{node_in}
use Rattle.index_insert.specs.Enter.{lowest_free}
use Rattle.index_insert.specs.Inner.{HasFree}
use Rattle.index_insert.proofs.Free.{used_not_free, unnamed_free}

-- the nodes from i on have been looked at, and none of them bears the tag
pub record Surveying (N : List ℕ) (t n i free lowest : ℕ) : Type 0 where
  pub all_nodes : n ≡ size N
  pub above_root : 0 < i
  pub most : i + free ≤ n
  pub unborne : anyb (bears N t) (from i (size N - i)) ≡ false
  pub counted : free ≡ length (keep (is_free N) (from i (size N - i)))
  pub first : lowest ≡ first_or (size N) (is_free N) (from i (size N - i))

pub survey_start : {parts : ℕ} {N : List ℕ} {t n : ℕ} → Shape parts N → n ≡ size N → Surveying N t n n 0 n
survey_start {N = N} {t = t} {n = n} S e = record {
  all_nodes = e;
  above_root = omega (arith, S.sized.some_node);
  most = omega arith;
  unborne = any_from_end (bears N t) (size N) n (omega arith);
  counted = sym (count_from_end (is_free N) (size N) n (omega arith));
  first = e ∙ sym (first_from_end (size N) n (omega arith) (size N) (is_free N));
}

-- The node before i
module _ {parts : ℕ} {N : List ℕ} {t n i free lowest j : ℕ} (S : Shape parts N) (s : Surveying N t n i free lowest) (h : 1 < i) (e : j ≡ i - 1)
  where
    inside : j < size N
    inside = omega (arith, s.all_nodes, s.most)

    told : Surveying N t n (j + 1) free lowest
    told = let q : i ≡ j + 1 = omega arith in subst (λ (x : ℕ). Surveying N t n x free lowest) q s

    pub survey_borne : tag N j ≡ t → tag_borne N t ≡ true
    unfolding tag_borne
    survey_borne b = found_anyb (bears N t) (nodes_of N) j (node_in N j inside) (bears_yes N t j b)

    module _ (b : tag N j ≡ t → ⊥) where
      still_unborne : anyb (bears N t) (from j (size N - j)) ≡ false
      still_unborne = any_from_no (bears N t) (size N) j inside (bears_no N t j b) ∙ told.unborne

      pub survey_free : label N j ≡ 0 → Surveying N t n j (free + 1) j
      survey_free z =
          let f : is_free N j ≡ true = unnamed_free S j (omega arith) inside z in
          record {
            all_nodes = s.all_nodes;
            above_root = omega arith;
            most = omega (arith, s.most);
            unborne = still_unborne;
            counted = omega (arith, told.counted, count_from_yes (is_free N) (size N) j inside f);
            first = sym (first_from_here (size N) j inside (size N) (is_free N) f);
          }

      pub survey_used : (label N j ≡ 0 → ⊥) → Surveying N t n j free lowest
      survey_used z =
          let u : is_free N j ≡ false = used_not_free S j (omega arith) in
          record {
            all_nodes = s.all_nodes;
            above_root = omega arith;
            most = omega (arith, s.most);
            unborne = still_unborne;
            counted = told.counted ∙ sym (count_from_no (is_free N) (size N) j inside u);
            first = told.first ∙ sym (first_from_on (size N) j inside (size N) (is_free N) u);
          }

-- The root, which is never free
module _ {parts : ℕ} {N : List ℕ} {t n i free lowest : ℕ} (S : Shape parts N) (s : Surveying N t n i free lowest) (h : i ≤ 1) where
  all_told : Surveying N t n 1 free lowest
  all_told = let q : i ≡ 1 = omega (arith, s.above_root) in subst (λ (x : ℕ). Surveying N t n x free lowest) q s

  pub root_borne : tag N 0 ≡ t → tag_borne N t ≡ true
  root_borne e =
      sym (borne_is N t (size N) refl) ∙ any_from_yes (bears N t) (size N) 0 S.sized.some_node (bears_yes N t 0 e)

  pub root_unborne : (tag N 0 ≡ t → ⊥) → tag_borne N t ≡ false
  root_unborne e =
      sym (borne_is N t (size N) refl) ∙ any_from_no (bears N t) (size N) 0 S.sized.some_node (bears_no N t 0 e) ∙ all_told.unborne

  pub survey_free_nodes : HasFree N (record { count = free; lowest = lowest })
  unfolding lowest_free
  survey_free_nodes = record {
    counted = all_told.counted ∙ sym
        (count_from_no (is_free N) (size N) 0 S.sized.some_node (root_not_free N 0 refl)) ∙ ap length (free_are N (size N) refl);
    is_lowest = all_told.first ∙ sym
        (first_from_on (size N) 0 S.sized.some_node (size N) (is_free N) (root_not_free N 0 refl)) ∙ ap
        (first_or (size N) (is_free N)) (from_root N (size N) refl);
  }
