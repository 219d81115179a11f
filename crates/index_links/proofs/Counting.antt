-- What counting a kit keeps from node to node: going on from where it is leads to the same table, and each number still to change can.
use mathlib.Core.Path.{◌≡◌, sym, ap, subst, ◌∙◌}
use mathlib.Core.Bool.{true}
use mathlib.Core.List.{List}
use Prim.Native.Nat.{ℕ, suc, ◌≤◌}
use native.Mathlib.Omega.{arith}
use native.Mathlib.Numerals.{add-one}
use lib.ListN.{length, set}
use Rattle.kits.specs.Kits.{most_place}
use Rattle.nodes.specs.Nodes.{most_nodes, at, tally_word, parent, depth, tally, is_under}
use Rattle.nodes.specs.Inner.{Used, Shape}
use Rattle.index_links.specs.Links.{recount}
use Rattle.index_links.specs.Inner.{CanMove, moved}
use Rattle.index_links.proofs.Alike.{Alike, alike_depth, alike_live, alike_under}
use Rattle.index_links.proofs.Recount.{renumber_alike, renumber_shape, renumber_tally, under_itself, under_above, above_other}

pub record Counting (off on : ℕ) (N₀ : List ℕ) (i₀ : ℕ) (N : List ℕ) (i : ℕ) : Type 0 where
  pub same_length : length N ≡ length N₀
  pub counts : CanMove N i off on
  pub same : recount (moved off on) N (depth N i) i ≡ recount (moved off on) N₀ (depth N₀ i₀) i₀

module _ {off on : ℕ} {N₀ N : List ℕ} {i₀ i : ℕ} (C : Counting off on N₀ i₀ N i) where
  abbrev f : ℕ → ℕ
  f = moved off on

  abbrev S : Shape most_place N
  S = C.counts.shape

  pub counting_able : (off ≤ tally N i) × (tally N i ≤ most_nodes)
  counting_able = C.counts.able i (under_itself S i)

  pub counting_root_able : i ≡ 0 → (off ≤ tally N 0) × (tally N 0 ≤ most_nodes)
  counting_root_able z = subst (λ (j : ℕ). (off ≤ tally N j) × (tally N j ≤ most_nodes)) z counting_able

  pub counting_end : i ≡ 0 → {n : ℕ} {L : List ℕ} → n ≡ tally N 0 → L ≡ set N (at 0 tally_word) (f n) → L ≡ recount f N₀ (depth N₀ i₀) i₀
  unfolding recount
  counting_end z {n} {L} e le =
      le ∙ ap (λ (x : ℕ). set N (at 0 tally_word) (f x)) e ∙ ap (λ (k : ℕ). recount f N k 0) (sym S.root.no_depth)
      ∙ ap (λ (j : ℕ). recount f N (depth N j) j) (sym z) ∙ C.same

  module _ (nz : i ≡ 0 → ⊥) {q n : ℕ} {L : List ℕ} (qe : q ≡ parent N i) (ne : n ≡ tally N i) (le : L ≡ set N (at i tally_word) (f n)) where
    abbrev K : List ℕ
    K = set N (at i tally_word) (f (tally N i))

    is : L ≡ K
    is = le ∙ ap (λ (x : ℕ). set N (at i tally_word) (f x)) ne

    used : Used N i
    used = C.counts.live (omega arith)

    abbrev A : Alike N K
    A = renumber_alike N i (f (tally N i))

    deep : depth N i ≡ suc (depth N (parent N i))
    deep = (S.good i used).deeper ∙ add-one (depth N (parent N i))

    still_able : (j : ℕ) → is_under K j (parent N i) ≡ true → (off ≤ tally K j) × (tally K j ≤ most_nodes)
    still_able j h =
        let g : is_under N j (parent N i) ≡ true = sym (alike_under A j (parent N i)) ∙ h in
        rw (renumber_tally N i (f (tally N i)) j (above_other S i j used g)) (C.counts.able j (under_above S i j used g))

    same_up : recount f K (depth K (parent N i)) (parent N i) ≡ recount f N (depth N i) i
    unfolding recount
    same_up = rw (alike_depth A (parent N i), deep)

    pub counting_up : Counting off on N₀ i₀ L q
    counting_up = rw (qe, is) (record {
      same_length = A.lengths ∙ C.same_length;
      counts = record {
        shape = renumber_shape N i (f (tally N i)) S C.counts.live;
        live = alike_live A (parent N i) (S.good i used).above;
        few = C.counts.few;
        able = still_able;
      };
      same = same_up ∙ C.same;
    })
