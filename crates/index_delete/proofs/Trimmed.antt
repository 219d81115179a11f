-- Pruning: the table keeps its shape, every node with a tag stays, and what stays obeys the rule of childless nodes.
use mathlib.Core.Path.{◌≡◌, refl, sym, ap, subst, ◌∙◌}
use mathlib.Core.Logic.{⊎_elim, ◌≢◌}
use mathlib.Core.Bool.{Bool, true, false, ◌&&◌, cond}
use mathlib.Core.List.{List}
use Prim.Native.Nat.{ℕ, zero, suc, ◌+◌, ◌<◌}
use native.Mathlib.Omega.{arith}
use lib.ListN.{length}
use borrow.Author.Tests.{eq-eqb, ne_eqb}
use Rattle.ground.specs.Lists.{is_zero}
use Rattle.nodes.specs.Nodes.{parent, child, depth, tag, tally, row_of}
use Rattle.nodes.specs.Inner.{Used, Live, Shape}
use Rattle.nodes.proofs.Lists.{zero_or, same_or}
use Rattle.nodes.proofs.Rows.{climb, used_pos, deep_used}
use Rattle.index_links.specs.Links.{unlink}
use Rattle.index_links.proofs.Splice.{Pending, Spliced, cut_shape, cut_tags, cut_pending, rows_kept, not_parent, used_to, used_from, used_ne}
use Rattle.index_links.proofs.Linked.{unspliced}
use Rattle.index_delete.specs.Strike.{prune}
use Rattle.index_delete.specs.Inner.{Prunes}

-- One step: whether a node stays or goes
module _ (N : List ℕ) (k i : ℕ) where
  pub prune_goes : tag N i ≡ 0 → child N i ≡ 0 → prune N (suc k) i ≡ prune (unlink N i) k (parent N i)
  unfolding prune
  prune_goes t c = rw (eq-eqb (tag N i) 0 t, eq-eqb (child N i) 0 c)

  pub prune_tag : tag N i ≢ 0 → prune N (suc k) i ≡ N
  unfolding prune
  prune_tag t = rw (ne_eqb (tag N i) 0 t)

  pub prune_child : child N i ≢ 0 → prune N (suc k) i ≡ N
  unfolding prune
  prune_child c = rw (ne_eqb (child N i) 0 c) (go (is_zero (tag N i)))
    where
      go : (b : Bool) → cond (b && false) (prune (unlink N i) k (parent N i)) N ≡ N
      go true = refl
      go false = refl

pub prune_root : (N : List ℕ) (i : ℕ) → prune N 0 i ≡ N
unfolding prune
prune_root N i = refl

-- A node without tag and child is unlinked
module _ {parts : ℕ} {N : List ℕ} {i : ℕ} (P : Prunes parts N i) (g : 0 < i) (z : child N i ≡ 0) where
  abbrev S : Shape parts N
  S = P.shape

  pub gone : Used N i
  gone = P.live g

  pub off : Spliced (unlink N i) N i
  off = unspliced S gone

  pub off_shape : Shape parts (unlink N i)
  off_shape = cut_shape S gone z off

  q_ne : parent N i ≢ i
  q_ne = not_parent S gone z off i gone

  pub up_prunes : Prunes parts (unlink N i) (parent N i)
  up_prunes = record { shape = off_shape; live = λ h. used_from off (parent N i) q_ne ((S.good i gone).above h) }

  pub up_depth : depth N i ≡ depth (unlink N i) (parent N i) + 1
  up_depth = (S.good i gone).deeper ∙ ap (λ (d : ℕ). d + 1) (off.depths (parent N i) q_ne)

-- M is N without some nodes that have no tag
pub record Trimmed (parts : ℕ) (N M : List ℕ) (i : ℕ) : Type 0 where
  pub same_length : length M ≡ length N
  pub shape : Shape parts M
  pub tags : (j : ℕ) → tag M j ≡ tag N j
  pub used : (j : ℕ) → Used M j → Used N j
  pub stays : (j : ℕ) → Used N j → 0 < tag N j → Used M j
  pub rows : (j : ℕ) → Live M j → row_of M j ≡ row_of N j
  pub tallies : (j : ℕ) → Live M j → tally M j ≡ tally N j
  pub leaf : Pending N i → (j : ℕ) → Used M j → child M j ≡ 0 → 0 < tag M j

stopped : {parts : ℕ} {N : List ℕ} {i : ℕ} → Prunes parts N i → (Used N i → child N i ≡ 0 → 0 < tag N i) → Trimmed parts N N i
stopped {N = N} {i = i} P s = record {
  same_length = refl;
  shape = P.shape;
  tags = λ j. refl;
  used = λ j u. u;
  stays = λ j u _. u;
  rows = λ j _. refl;
  tallies = λ j _. refl;
  leaf = λ A j u c. ⊎_elim
      (λ (e : j ≡ i). subst (λ (x : ℕ). 0 < tag N x) (sym e) (s (subst (Used N) e u) (ap (child N) (sym e) ∙ c)))
      (λ (n : j ≢ i). A j u n c)
      (same_or j i);
}

higher : {parts : ℕ} {N M : List ℕ} {i : ℕ} (P : Prunes parts N i) (g : 0 < i) (t : tag N i ≡ 0) (z : child N i ≡ 0) →
    Trimmed parts (unlink N i) M (parent N i) → Trimmed parts N M i
higher {parts = parts} {N = N} {M = M} {i = i} P g t z y =
    let S : Shape parts N = P.shape in
    let u : Used N i = P.live g in
    let X : Spliced (unlink N i) N i = off P g z in
    let same_tag : (j : ℕ) → tag (unlink N i) j ≡ tag N j = cut_tags S u z X t in
    let back : (j : ℕ) → Used M j → Used N j = λ j v. used_to X j (y.used j v) in
    let apart : (j : ℕ) → Live M j → j ≢ i = λ j l (e : j ≡ i). used_ne X j (y.used j (l (omega arith))) e in
    record {
      same_length = y.same_length ∙ sym X.same_length;
      shape = y.shape;
      tags = λ j. y.tags j ∙ same_tag j;
      used = back;
      stays = λ j v h. y.stays j (used_from X j (λ (e : j ≡ i). omega (arith, ap (tag N) e)) v) (omega (arith, same_tag j));
      rows = λ j l. y.rows j l ∙ sym (rows_kept S u z X j (λ h. back j (l h)) (apart j l));
      tallies = λ j l. y.tallies j l ∙ sym (X.tallies j (apart j l));
      leaf = λ A. y.leaf (cut_pending S u z X t A);
    }

-- The law of pruning from a node upwards
pub trimmed : {parts : ℕ} (k : ℕ) (N : List ℕ) (i : ℕ) → Prunes parts N i → depth N i ≡ k → Trimmed parts N (prune N k i) i
trimmed zero N i P d = rw (prune_root N i) (stopped P (λ u c. absurd (omega (arith, (P.shape.good i u).deeper))))
trimmed (suc k) N i P d = ⊎_elim
    (λ (t : tag N i ≡ 0). ⊎_elim
    (λ (z : child N i ≡ 0).
    let g : 0 < i = used_pos (climb P.shape) i (deep_used (climb P.shape) i P.live (omega arith)) in
    let e : depth (unlink N i) (parent N i) ≡ k = omega (arith, up_depth P g z) in
    rw (prune_goes N k i t z) (higher P g t z (trimmed k (unlink N i) (parent N i) (up_prunes P g z) e)))
    (λ (h : 0 < child N i). rw (prune_child N k i (λ q. omega arith)) (stopped P (λ u c. absurd (omega arith))))
    (zero_or (child N i)))
    (λ (h : 0 < tag N i). rw (prune_tag N k i (λ q. omega arith)) (stopped P (λ u c. h)))
    (zero_or (tag N i))
