-- What pruning keeps from node to node: going on from where it is leads to the same table.
use mathlib.Core.Path.{◌≡◌, sym, ap, ◌∙◌}
use mathlib.Core.List.{List}
use Prim.Native.Nat.{ℕ, suc, ◌<◌}
use native.Mathlib.Omega.{arith}
use native.Mathlib.Numerals.{add-one}
use lib.ListN.{length, set}
use Rattle.kits.specs.Kits.{most_place}
use Rattle.nodes.specs.Nodes.{at, tag_word, parent, child, depth, tag}
use Rattle.index_links.specs.Links.{unlink, one_less, recount}
use Rattle.index_links.specs.Inner.{CanMove, moved}
use Rattle.index_links.proofs.Alike.{alike_then, alike_live, alike_depth}
use Rattle.index_links.proofs.Retag.{retag_alike, retag_shape}
use Rattle.index_links.proofs.Recount.{recount_alike, recount_shape, one_off}
use Rattle.index_delete.specs.Strike.{prune, strike_at}
use Rattle.index_delete.specs.Inner.{Prunes}
use Rattle.index_delete.proofs.Trimmed.{prune_goes, prune_tag, prune_child, prune_root, up_prunes, up_depth, off}

pub record Pruning (N₀ : List ℕ) (i₀ : ℕ) (N : List ℕ) (i : ℕ) : Type 0 where
  pub same_length : length N ≡ length N₀
  pub prunes : Prunes most_place N i
  pub same : prune N (depth N i) i ≡ prune N₀ (depth N₀ i₀) i₀

module _ {N₀ N : List ℕ} {i₀ i : ℕ} (P : Pruning N₀ i₀ N i) where
  pub prune_end : i ≡ 0 → N ≡ prune N₀ (depth N₀ i₀) i₀
  prune_end e = sym (prune_root N i) ∙ ap (λ (k : ℕ). prune N k i) (sym (ap (depth N) e ∙ P.prunes.shape.root.no_depth)) ∙ P.same

  module _ (n : i ≡ 0 → ⊥) where
    pos : 0 < i
    pos = omega arith

    deep : depth N i ≡ suc (depth N (parent N i))
    deep = rw (← add-one (depth N (parent N i))) (P.prunes.shape.good i (P.prunes.live pos)).deeper

    pub prune_at_tag : {t : ℕ} → t ≡ tag N i → (t ≡ 0 → ⊥) → N ≡ prune N₀ (depth N₀ i₀) i₀
    prune_at_tag e h = sym (ap (λ (k : ℕ). prune N k i) deep ∙ prune_tag N (depth N (parent N i)) i (λ z. h (e ∙ z))) ∙ P.same

    module _ {t c : ℕ} (te : t ≡ tag N i) (tz : t ≡ 0) (ce : c ≡ child N i) where
      pub prune_at_child : (c ≡ 0 → ⊥) → N ≡ prune N₀ (depth N₀ i₀) i₀
      prune_at_child h = sym (ap (λ (k : ℕ). prune N k i) deep ∙ prune_child N (depth N (parent N i)) i (λ z. h (ce ∙ z))) ∙ P.same

      module _ (cz : c ≡ 0) {q : ℕ} {L : List ℕ} (qe : q ≡ parent N i) (le : L ≡ unlink N i) where
        lone : child N i ≡ 0
        lone = sym ce ∙ cz

        above : depth (unlink N i) (parent N i) ≡ depth N (parent N i)
        above = omega (arith, up_depth P.prunes pos lone, deep)

        pub prune_less : depth L q < depth N i
        prune_less = rw (qe, le) (omega (arith, above, deep))

        pub prune_up : Pruning N₀ i₀ L q
        prune_up = rw (qe, le) (record {
          same_length = sym (off P.prunes pos lone).same_length ∙ P.same_length;
          prunes = up_prunes P.prunes pos lone;
          same =
              ap (λ (k : ℕ). prune (unlink N i) k (parent N i)) above ∙ sym (prune_goes N (depth N (parent N i)) i (sym te ∙ tz) lone) ∙ ap
              (λ (k : ℕ). prune N k i) (sym deep) ∙ P.same;
        })

-- before that one kit is counted out, and the tag is cleared
module _ {parts : ℕ} {N : List ℕ} {i : ℕ} (P : Prunes parts N i) where
  pub counted_prunes : (f : ℕ → ℕ) → Prunes parts (recount f N (depth N i) i) i
  counted_prunes f = record { shape = recount_shape P.shape f i P.live; live = alike_live (recount_alike f N (depth N i) i) i P.live }

  pub cleared_prunes : Prunes parts (set N (at i tag_word) 0) i
  cleared_prunes = record { shape = retag_shape N i 0 P.shape P.live; live = alike_live (retag_alike N i 0) i P.live }

pub struck_depth : (N : List ℕ) (i : ℕ) → depth (set (recount one_less N (depth N i) i) (at i tag_word) 0) i ≡ depth N i
struck_depth N i = alike_depth (alike_then (recount_alike one_less N (depth N i) i) (retag_alike (recount one_less N (depth N i) i) i 0)) i

pub strike_words : (N C L M : List ℕ) (i : ℕ) → C ≡ recount (moved 1 0) N (depth N i) i → L ≡ set C (at i tag_word) 0 →
    M ≡ prune L (depth L i) i → M ≡ strike_at N i
unfolding strike_at
strike_words N C L M i c l m =
    let e : L ≡ set (recount one_less N (depth N i) i) (at i tag_word) 0 = l ∙ ap (λ (X : List ℕ). set X (at i tag_word) 0) (c ∙ one_off N (depth N i) i) in
    rw e at m ∙ ap (λ (k : ℕ). prune (set (recount one_less N (depth N i) i) (at i tag_word) 0) k i) (struck_depth N i)

pub counted_asked : {N C : List ℕ} {i : ℕ} → CanMove N i 1 0 → C ≡ recount (moved 1 0) N (depth N i) i → Prunes most_place C i
counted_asked K e = rw e (counted_prunes (record { shape = K.shape; live = K.live }) (moved 1 0))

pub cleared_asked : {N L : List ℕ} {i : ℕ} → Prunes most_place N i → L ≡ set N (at i tag_word) 0 → Prunes most_place L i
cleared_asked P e = rw e (cleared_prunes P)
