-- The tags seen so far, marked by bits.
use mathlib.Core.Path.{◌≡◌, sym, ap, ◌∙◌}
use mathlib.Core.Logic.{◌≢◌, ⊎_elim}
use mathlib.Core.List.{List}
use Prim.Native.Nat.{ℕ, ◌+◌, ◌/◌, ◌%◌, ◌≤◌, ◌<◌}
use native.Mathlib.Omega.{arith}
use lib.ListN.{length, get_or, set, length-set, replicate, length-replicate}
use lib.Seq.{get_or-set_same, get_or-set_other}
use Rattle.ground.proofs.Laws.{get_d_zeros}
use Rattle.nodes.specs.Nodes.{tag, size}
use Rattle.nodes.proofs.Lists.{same_or}
use Rattle.nodes_check.specs.Inner.{Unlike, word_bits, bit, With}
use Rattle.nodes_check.proofs.Bits.{bit_none}

-- as many words as hold a bit for each tag
abbrev tag_words : ℕ
tag_words = 1024

-- the mark of tag v
pub mark : List ℕ → ℕ → ℕ
mark M v = bit (get_or M (v / word_bits) 0) (v % word_bits)

-- a mark set
module _ (M : List ℕ) (t : ℕ) {w r : ℕ} (we : w ≡ get_or M (t / word_bits) 0) (W : With w (t % word_bits) r) where
  mark_own : t / word_bits < length M → mark (set M (t / word_bits) r) t ≡ 1
  unfolding mark
  mark_own h = ap (λ (x : ℕ). bit x (t % word_bits)) (get_or-set_same M (t / word_bits) r 0 h) ∙ W.there

  mark_other : (v : ℕ) → t / word_bits < length M → v ≢ t → mark (set M (t / word_bits) r) v ≡ mark M v
  unfolding mark
  mark_other v h n = ⊎_elim
      (λ (e : v / word_bits ≡ t / word_bits).
      ap (λ (x : ℕ). bit (get_or (set M (t / word_bits) r) x 0) (v % word_bits)) e
      ∙ ap (λ (x : ℕ). bit x (v % word_bits)) (get_or-set_same M (t / word_bits) r 0 h)
      ∙ W.others (v % word_bits) (λ q. n (omega arith))
      ∙ ap (λ (x : ℕ). bit x (v % word_bits)) (we ∙ ap (λ (x : ℕ). get_or M x 0) (sym e)))
      (λ (e : v / word_bits ≢ t / word_bits). ap (λ (x : ℕ). bit x (v % word_bits)) (get_or-set_other M (t / word_bits) (v / word_bits) r 0 e))
      (same_or (v / word_bits) (t / word_bits))

-- the tags of the nodes below i are marked, and differ
pub record Marked (N M : List ℕ) (i : ℕ) : Type 0 where
  pub room : length M ≡ tag_words
  pub apart : (k j : ℕ) → k < i → j < i → 0 < tag N k → tag N k ≡ tag N j → k ≡ j
  pub marks : (k : ℕ) → k < i → 0 < tag N k → 0 < mark M (tag N k)
  pub only : (v : ℕ) → 0 < mark M v → (k : ℕ) × (k < i) × (tag N k ≡ v)

module _ {N M : List ℕ} {i t : ℕ} (W : Marked N M i) (e : t ≡ tag N i) where
  pub mark_none : t ≡ 0 → Marked N M (i + 1)
  mark_none z = record {
    room = W.room;
    apart = λ k j hk hj g q. W.apart k j (below k hk g) (below j hj (omega arith)) g q;
    marks = λ k h g. W.marks k (below k h g) g;
    only = λ v h. let o = W.only v h in (o.0, omega (arith, o.1), o.2);
  }
    where
      below : (k : ℕ) → k < i + 1 → 0 < tag N k → k < i
      below k h g = ⊎_elim (λ (q : k ≡ i). absurd (omega (arith, ap (tag N) q))) (λ (q : k ≢ i). omega arith) (same_or k i)

  pub mark_fits : t < 65536 → t / word_bits < length M
  mark_fits h = omega (arith, W.room)

  module _ {w : ℕ} (we : w ≡ get_or M (t / word_bits) 0) where
    read : (b : ℕ) → b ≡ bit w (t % word_bits) → b ≡ mark M t
    unfolding mark
    read b be = be ∙ ap (λ (x : ℕ). bit x (t % word_bits)) we

    pub mark_more : {b r : ℕ} → 0 < t → t < 65536 → b ≡ bit w (t % word_bits) → b ≡ 0 → With w (t % word_bits) r →
        Marked N (set M (t / word_bits) r) (i + 1)
    mark_more {b} {r} g h be z P = record {
      room = length-set M (t / word_bits) r ∙ W.room;
      apart = λ k j hk hj gk q. ⊎_elim
          (λ (a : k ≡ i). ⊎_elim (λ (b : j ≡ i). a ∙ sym b) (λ (b : j ≢ i). absurd (clash j (omega arith) (sym q ∙ ap (tag N) a)))
          (same_or j i))
          (λ (a : k ≢ i). ⊎_elim (λ (b : j ≡ i). absurd (clash k (omega arith) (q ∙ ap (tag N) b)))
          (λ (b : j ≢ i). W.apart k j (omega arith) (omega arith) gk q) (same_or j i))
          (same_or k i);
      marks = λ k hk gk. ⊎_elim
          (λ (a : tag N k ≡ t). rw a (omega (arith, mark_own M t we P (mark_fits h))))
          (λ (a : tag N k ≢ t). omega (arith, mark_other M t we P (tag N k) (mark_fits h) a, W.marks k (older k hk a) gk))
          (same_or (tag N k) t);
      only = λ v hv. ⊎_elim
          (λ (a : v ≡ t). (i, omega arith, sym e ∙ sym a))
          (λ (a : v ≢ t). let o = W.only v (omega (arith, mark_other M t we P v (mark_fits h) a)) in (o.0, omega (arith, o.1), o.2))
          (same_or v t);
    }
      where
        clash : (j : ℕ) → j < i → tag N j ≡ tag N i → ⊥
        clash j hj q = omega (arith, W.marks j hj (omega (arith, e)), ap (mark M) (q ∙ sym e), read b be, z)

        older : (k : ℕ) → k < i + 1 → tag N k ≢ t → k < i
        older k hk a = ⊎_elim (λ (q : k ≡ i). absurd (a (ap (tag N) q ∙ sym e))) (λ (q : k ≢ i). omega arith) (same_or k i)

    pub mark_twice : {b : ℕ} → 0 < t → i < size N → b ≡ bit w (t % word_bits) → (b ≡ 0 → ⊥) → Unlike N → ⊥
    mark_twice {b} g h be z U =
        let o = W.only t (omega (arith, read b be, z)) in
        omega (arith, o.1, U.each o.0 i (omega (arith, o.1)) h (omega (arith, o.2)) (o.2 ∙ e))

pub mark_end : {N M : List ℕ} {i : ℕ} → Marked N M i → size N ≤ i → Unlike N
mark_end W h = record { each = λ k j nk nj. W.apart k j (omega arith) (omega arith) }

start_any : (N Z : List ℕ) → length Z ≡ tag_words → ((v : ℕ) → mark Z v ≡ 0) → Marked N Z 0
start_any N Z s f = record {
  room = s;
  apart = λ k j h. absurd (omega arith);
  marks = λ k h. absurd (omega arith);
  only = λ v h. absurd (omega (arith, f v));
}

pub mark_start : (N : List ℕ) → Marked N (replicate tag_words 0) 0
unfolding mark
mark_start N =
    start_any N (replicate tag_words 0) (length-replicate {A = ℕ} tag_words 0)
    (λ v. ap (λ (x : ℕ). bit x (v % word_bits)) (get_d_zeros tag_words (v / word_bits)) ∙ bit_none (v % word_bits))
