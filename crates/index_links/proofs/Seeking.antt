-- What a function keeps that follows a node's chain: the answer of the rest of the chain is the answer of the whole.
use mathlib.Core.Path.{◌≡◌, refl, sym, ap, ◌∙◌}
use mathlib.Core.Logic.{⊎_elim}
use mathlib.Core.List.{List, ◌∷◌}
use Prim.Native.Nat.{ℕ, suc, ◌≤◌, ◌<◌}
use native.Mathlib.Omega.{arith}
use lib.ListN.{length}
use borrow.Author.Tests.{eq-eqb, ne_eqb}
use Rattle.kits.specs.Kits.{most_place}
use Rattle.ground.specs.Lists.{first_or}
use Rattle.nodes.specs.Nodes.{at, child_word, next_word, child, next, label, size, children}
use Rattle.nodes.specs.Inner.{Live, Shape}
use Rattle.nodes.proofs.Lists.{zero_or}
use Rattle.nodes.proofs.Rows.{climb, live_inside}
use Rattle.nodes.proofs.Chain.{siblings, left, left_less}
use Rattle.index_links.specs.Links.{has_label, child_with, last_below, link_to}
use Rattle.index_links.specs.Inner.{Chained, Reads, LinksBehind, word_behind}
use Rattle.index_links.proofs.Chains.{Step, chained_step, chained_end, chained_above, the_children, child_lives}
use Rattle.index_links.proofs.Chains.{with_here, with_on, with_none, below_on, below_none}

-- what is known of a link that is followed
pub record Follows (N : List ℕ) (c : ℕ) : Type 0 where
  pub shape : Shape most_place N
  pub live : Live N c
  pub rest : List ℕ
  pub chained : Chained N c rest

module _ {N : List ℕ} {c : ℕ} (F : Follows N c) where
  pub follows_inside : c < size N
  follows_inside = live_inside (climb F.shape) c F.live

  module _ (h : c ≡ 0 → ⊥) where
    g : 0 < c
    g = omega arith

    pub follows_less : {k : ℕ} → k ≡ next N c → left N k < left N c
    follows_less e = rw e (left_less (siblings F.shape) c F.live g)

    pub step : Step N c F.rest
    step = chained_step F.chained g

    pub follows_next : Follows N (next N c)
    follows_next = record { shape = F.shape; live = (F.shape.good c (F.live g)).sibling; rest = step.rest; chained = step.chained }

pub follows_start : {N : List ℕ} {p : ℕ} → Reads N p → Follows N (child N p)
follows_start {N} {p} R =
    record {
      shape = R.shape;
      live = child_lives R.shape R.inside;
      rest = children N p;
      chained = the_children R.shape R.inside;
    }

-- the child with a label
pub record Seeking (N : List ℕ) (p l c : ℕ) : Type 0 where
  pub follows : Follows N c
  pub same : first_or 0 (has_label N l) follows.rest ≡ child_with N p l

pub seek_start : {N : List ℕ} {p l c : ℕ} → Reads N p → c ≡ child N p → Seeking N p l c
unfolding child_with follows_start
seek_start R e = rw e (record { follows = follows_start R; same = refl })

module _ {N : List ℕ} {p l c m : ℕ} (K : Seeking N p l c) (h : c ≡ 0 → ⊥) (e : m ≡ label N c) where
  abbrev s : Step N c K.follows.rest
  s = step K.follows h

  whole : first_or 0 (has_label N l) (c ∷ s.rest) ≡ child_with N p l
  whole = ap (first_or 0 (has_label N l)) (sym s.cons) ∙ K.same

  pub seek_found : m ≡ l → c ≡ child_with N p l
  seek_found q = sym (with_here N l c s.rest (sym e ∙ q)) ∙ whole

  pub seek_past : l < m → 0 ≡ child_with N p l
  seek_past q =
      sym (with_none N l K.follows.rest
      (chained_above (siblings K.follows.shape) (suc l) K.follows.chained K.follows.live (λ _. omega arith))) ∙ K.same

  pub seek_on : {k : ℕ} → (m ≡ l → ⊥) → k ≡ next N c → Seeking N p l k
  unfolding follows_next
  seek_on n q = rw q (record { follows = follows_next K.follows h; same = sym (with_on N l c s.rest (λ z. n (e ∙ z))) ∙ whole })

pub seek_end : {N : List ℕ} {p l c : ℕ} → Seeking N p l c → c ≡ 0 → 0 ≡ child_with N p l
unfolding first_or
seek_end K e = rw (chained_end K.follows.chained e) at K.same

-- the last child with a label below another
pub record Nearing (N : List ℕ) (p l b c : ℕ) : Type 0 where
  pub follows : Follows N c
  pub inside : b < size N
  pub same : last_below N l b follows.rest ≡ last_below N l 0 (children N p)

pub near_start : {N : List ℕ} {p l c : ℕ} → Reads N p → c ≡ child N p → Nearing N p l 0 c
unfolding follows_start
near_start R e = rw e (record { follows = follows_start R; inside = R.shape.sized.some_node; same = refl })

module _ {N : List ℕ} {p l b c m : ℕ} (K : Nearing N p l b c) (h : c ≡ 0 → ⊥) (e : m ≡ label N c) where
  pub near_stop : l ≤ m → b ≡ last_below N l 0 (children N p)
  near_stop q =
      sym (below_none N l b K.follows.rest
      (chained_above (siblings K.follows.shape) l K.follows.chained K.follows.live (λ _. omega arith))) ∙ K.same

  pub near_on : {k : ℕ} → m < l → k ≡ next N c → Nearing N p l c k
  unfolding follows_next
  near_on n q =
      let s = step K.follows h in
      rw q (record {
        follows = follows_next K.follows h;
        inside = follows_inside K.follows;
        same = sym (below_on N l c s.rest b (omega arith)) ∙ ap (last_below N l b) (sym s.cons) ∙ K.same;
      })

pub near_end : {N : List ℕ} {p l b c : ℕ} → Nearing N p l b c → c ≡ 0 → b ≡ last_below N l 0 (children N p)
unfolding last_below
near_end K e = rw (chained_end K.follows.chained e) at K.same

-- the word of the link
pub word_first : (p b : ℕ) → b ≡ 0 → at p child_word ≡ word_behind p b
unfolding word_behind
word_first p b z = rw (eq-eqb b 0 z)

pub word_after : (p b : ℕ) → (b ≡ 0 → ⊥) → at b next_word ≡ word_behind p b
unfolding word_behind
word_after p b z = rw (ne_eqb b 0 z)

pub word_inside : (N : List ℕ) (p b : ℕ) → p < size N → b < size N → word_behind p b < length N
word_inside N p b hp hb = ⊎_elim
    (λ (z : b ≡ 0). omega (arith, word_first p b z))
    (λ (g : 0 < b). omega (arith, word_after p b (λ z. omega arith)))
    (zero_or b)

pub link_word_inside : {N : List ℕ} {p b l f : ℕ} → LinksBehind N p b l f → word_behind p b < length N
link_word_inside {N} {p} {b} K = word_inside N p b K.links.reads.inside K.inside

pub word_is_link : (N : List ℕ) (p l b : ℕ) → b ≡ last_below N l 0 (children N p) → word_behind p b ≡ link_to N p l
unfolding link_to word_behind
word_is_link N p l b e = rw e
