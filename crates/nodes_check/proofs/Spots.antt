-- One node by itself: its first child, its next sibling, its parent.
use mathlib.Core.Path.{◌≡◌, sym, ap, subst, ◌∙◌}
use mathlib.Core.Bool.{Bool, not}
use mathlib.Core.List.{List}
use Prim.Native.Nat.{ℕ, ◌≤◌, ◌<◌}
use native.Mathlib.Omega.{arith}
use lib.Dec.{eqb, ltb}
use Rattle.ground.specs.Inner.{Says}
use Rattle.nodes.specs.Nodes.{parent, child, next, label, tag, size, is_free}
use Rattle.nodes.specs.Inner.{Head, Zero}
use Rattle.nodes.proofs.Lists.{never}
use Rattle.nodes.proofs.Decided.{free_zeros, zeros_free}
use Rattle.nodes_check.specs.Inner.{Sib, Under, Ok, Spot}
use Rattle.nodes_check.proofs.Answers.{says_as, says_at, says_eq, says_ne, says_lt}

module _ {N : List ℕ} {i c : ℕ} (ce : c ≡ child N i) where
  pub head_none : c ≡ 0 → Head N i
  head_none z = record { first = λ h. absurd (omega arith); back = λ h. absurd (omega arith) }

  pub head_out : (c ≡ 0 → ⊥) → size N ≤ c → Head N i → ⊥
  head_out n h H = omega (arith, (H.first (omega arith)).inside)

  pub head_free : {l : ℕ} → 0 < c → l ≡ label N c → l ≡ 0 → Head N i → ⊥
  head_free g le z H = omega (arith, (H.first (omega arith)).named, ap (label N) ce)

  pub head_says_lem : {l p : ℕ} → 0 < c → c < size N → l ≡ label N c → (l ≡ 0 → ⊥) → p ≡ parent N c → Says (Head N i) (eqb p i)
  head_says_lem {l} {p} g h le n pe = says_eq p i
      (λ e. record {
        first = λ _. rw (← ce) (record { inside = omega arith; named = omega arith });
        back = λ _. rw (← ce) (sym pe ∙ e);
      })
      (λ H. pe ∙ ap (parent N) ce ∙ H.back (omega arith))

module _ {N : List ℕ} {i s : ℕ} (se : s ≡ next N i) where
  pub sib_none : s ≡ 0 → Sib N i
  sib_none z = record { sibling = λ h. absurd (omega arith); same = λ h. absurd (omega arith); greater = λ h. absurd (omega arith) }

  pub sib_out : (s ≡ 0 → ⊥) → size N ≤ s → Sib N i → ⊥
  sib_out n h H = omega (arith, (H.sibling (omega arith)).inside)

  pub sib_other : {p q : ℕ} → 0 < s → p ≡ parent N s → q ≡ parent N i → (p ≡ q → ⊥) → Sib N i → ⊥
  sib_other g pe qe n H = n (pe ∙ ap (parent N) se ∙ H.same (omega arith) ∙ sym qe)

  pub sib_says : {p q l m : ℕ} → 0 < s → s < size N → p ≡ parent N s → q ≡ parent N i → p ≡ q → l ≡ label N i → m ≡ label N s →
      Says (Sib N i) (ltb l m)
  sib_says {p} {q} {l} {m} g h pe qe e le me = says_lt l m
      (λ lt. record {
        sibling = λ _. rw (← se) (record { inside = omega arith; named = omega arith });
        same = λ _. rw (← se) (sym pe ∙ e ∙ qe);
        greater = λ _. rw (← se) (omega arith);
      })
      (λ H. omega (arith, H.greater (omega arith), ap (label N) se))

-- below its parent, whose number is q
pub ok_says : {parts : ℕ} {N : List ℕ} {i q : ℕ} {r : Bool} → q ≡ parent N i → q < size N → Says (Under parts N i q) r →
    Says (Ok parts N i) r
ok_says {parts} {N} {i} e h s = says_as s
    (λ g. record { above = omega (arith, e); under = subst (λ (k : ℕ). Under parts N i k) e g })
    (λ g. subst (λ (k : ℕ). Under parts N i k) (sym e) g.under)

-- all its words are 0, by the test of a free node
pub zero_says : (N : List ℕ) (i : ℕ) {r : Bool} → 0 < i → r ≡ is_free N i → Says (Zero N i) r
zero_says N i {r} g e = says_at r (λ t. free_zeros N i (sym e ∙ t)) (λ f z. never (sym (zeros_free N i g z) ∙ sym e ∙ f))

-- node i: the root, a free node, or a used one
module _ {parts : ℕ} {N : List ℕ} {i : ℕ} where
  pub spot_root : Head N i → i ≡ 0 → Spot parts N i
  spot_root H z = record {
    head = H;
    free = λ g. absurd (omega arith);
    ok = λ g. absurd (omega arith);
    sib = λ g. absurd (omega arith);
    leaf = λ g. absurd (omega arith);
  }

  module _ {l : ℕ} (n : i ≡ 0 → ⊥) (le : l ≡ label N i) where
    pub spot_free : {r : Bool} → Head N i → l ≡ 0 → r ≡ is_free N i → Says (Spot parts N i) r
    spot_free H z e = says_as (zero_says N i (omega (arith, n)) e)
        (λ f. record {
          head = H;
          free = λ _ _. f;
          ok = λ g h. absurd (omega arith);
          sib = λ g h. absurd (omega arith);
          leaf = λ g h. absurd (omega arith);
        })
        (λ s. s.free (omega (arith, n)) (sym le ∙ z))

    module _ (h : l ≡ 0 → ⊥) where
      pub spot_ok : Spot parts N i → Ok parts N i
      spot_ok s = s.ok (omega (arith, n)) (omega (arith, h))

      pub spot_sib : Spot parts N i → Sib N i
      spot_sib s = s.sib (omega (arith, n)) (omega (arith, h))

      pub spot_used : Head N i → Ok parts N i → Sib N i → (child N i ≡ 0 → 0 < tag N i) → Spot parts N i
      spot_used H o b f = record { head = H; free = λ _ e. absurd (h (le ∙ e)); ok = λ _ _. o; sib = λ _ _. b; leaf = λ _ _. f }

      -- it has no child: its tag decides
      pub spot_says : {c t : ℕ} → Head N i → Ok parts N i → Sib N i → c ≡ child N i → c ≡ 0 → t ≡ tag N i →
          Says (Spot parts N i) (not (eqb t 0))
      spot_says {c} {t} H o b ce z te = says_ne t 0
          (λ k. spot_used H o b (λ _. omega (arith, k)))
          (λ s e. let x : 0 < tag N i = s.leaf (omega (arith, n)) (omega (arith, h)) (sym ce ∙ z) in omega arith)
