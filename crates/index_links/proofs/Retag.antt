-- A tag is set: the table keeps its shape and its rows.
use mathlib.Core.Path.{◌≡◌, sym, ap, ◌∙◌}
use mathlib.Core.Logic.{◌≢◌}
use mathlib.Core.List.{List}
use Prim.Native.Nat.{ℕ, ◌<◌}
use native.Mathlib.Omega.{arith}
use lib.ListN.{set, length-set}
use lib.Seq.{get_or-set_same, get_or-set_other}
use Rattle.nodes.specs.Nodes.{at, tag_word, tally_word, label, tag, tally, size}
use Rattle.nodes.specs.Inner.{Live, Shape}
use Rattle.index_links.proofs.Splice.{Pending}
use Rattle.index_links.proofs.Alike.{Alike, alike_back, alike_child, alike_used, alike_shape}

module _ (N : List ℕ) (p t : ℕ) where
  abbrev M : List ℕ
  M = set N (at p tag_word) t

  pub retag_alike : Alike N M
  retag_alike = record {
    lengths = length-set N (at p tag_word) t;
    words = λ i w h. get_or-set_other N (at p tag_word) (at i w) t 0 (omega arith);
  }

  pub retag_tally : (i : ℕ) → tally M i ≡ tally N i
  retag_tally i = get_or-set_other N (at p tag_word) (at i tally_word) t 0 (omega arith)

  pub retag_here : p < size N → tag M p ≡ t
  retag_here h = get_or-set_same N (at p tag_word) t 0 (omega arith)

  pub retag_other : (i : ℕ) → i ≢ p → tag M i ≡ tag N i
  retag_other i n = get_or-set_other N (at p tag_word) (at i tag_word) t 0 (omega arith)

  -- which other nodes have no child, and their tags, stay
  pub retag_pending : Pending N p → Pending M p
  retag_pending P i u n c = omega (arith, retag_other i n, P i (alike_used (alike_back retag_alike) i u) n (sym (alike_child retag_alike i) ∙ c))

  -- the node is the root or used: a free node has no tag
  pub retag_shape : {parts : ℕ} → Shape parts N → Live N p → Shape parts M
  retag_shape S l = alike_shape retag_alike S (λ i g h z.
      let n : i ≢ p = λ (e : i ≡ p). omega (arith, (l (omega arith)).named, ap (label N) e) in
      (retag_other i n, retag_tally i))
