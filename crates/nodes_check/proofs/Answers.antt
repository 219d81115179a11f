-- A deciding function's answer: what follows from it, how it is given by a comparison, and how a pass over all nodes gives it.
use borrow.Author.Count.{below_more}
use mathlib.Core.Path.{◌≡◌, refl, sym, subst, ◌∙◌}
use mathlib.Core.Logic.{◌↔◌}
use mathlib.Core.Bool.{Bool, true, false, not}
use mathlib.Core.List.{List}
use Prim.Native.Nat.{ℕ, ◌<◌, ◌+◌, ◌≤◌}
use native.Mathlib.Omega.{arith}
use lib.Dec.{eqb, ltb}
use native.Mathlib.Nat.{zero-add}
use lib.ListN.{length, get_or}
use Rattle.std.specs.Bool.{MatchBool}
use Rattle.std.specs.List.{AllWithin, HoldsAt, range_with_len}
use Rattle.std.proofs.lemmas.List.FromFn.{length-range_with_len, get_or-range_with_len}
use borrow.Author.Tests.{eqb-true, eqb-false, ltb-true, ltb-false}
use Rattle.ground.specs.Inner.{Says, holds, fails}
use Rattle.nodes.specs.Nodes.{size}
use Rattle.nodes.proofs.Lists.{never}
use Rattle.nodes_check.specs.Inner.{Each}

pub refutes : {P : Type 0} {b : Bool} → Says P b → not b ≡ true → P → ⊥
refutes (holds p) e = absurd (never (sym e))
refutes (fails f) e = f

pub shows : {P : Type 0} {b : Bool} → Says P b → not b ≡ false → P
shows (holds p) e = p
shows (fails f) e = absurd (never e)

pub says_as : {P Q : Type 0} {b : Bool} → Says P b → (P → Q) → (Q → P) → Says Q b
says_as (holds p) f g = holds (f p)
says_as (fails n) f g = fails (λ q. n (g q))

-- the answer is a comparison
pub says_at : {P : Type 0} (b : Bool) → (b ≡ true → P) → (b ≡ false → P → ⊥) → Says P b
says_at true f g = holds (f refl)
says_at false f g = fails (g refl)

pub says_eq : {P : Type 0} (a b : ℕ) → (a ≡ b → P) → (P → a ≡ b) → Says P (eqb a b)
says_eq a b f g = says_at (eqb a b) (λ e. f (eqb-true a b e)) (λ e p. eqb-false a b e (g p))

pub says_ne : {P : Type 0} (a b : ℕ) → ((a ≡ b → ⊥) → P) → (P → a ≡ b → ⊥) → Says P (not (eqb a b))
says_ne {P} a b f g = flip (says_at (eqb a b) (λ e. eqb-true a b e) (λ e. eqb-false a b e))
  where
    flip : {c : Bool} → Says (a ≡ b) c → Says P (not c)
    flip (holds e) = fails (λ p. g p e)
    flip (fails n) = holds (f n)

pub says_lt : {P : Type 0} (a b : ℕ) → (a < b → P) → (P → a < b) → Says P (ltb a b)
says_lt a b f g = says_at (ltb a b) (λ e. f (ltb-true a b e)) (λ e p. let h = g p in omega (arith, ltb-false a b e))

-- an answer and a test that hold in the same case are the same
pub says_is : {P : Type 0} {b : Bool} (t : Bool) → Says P b → (t ≡ true) ↔ P → b ≡ t
says_is t (holds p) s = sym (s.1 p)
says_is true (fails n) s = absurd (n (s.0 refl))
says_is false (fails n) s = refl

pub says_yes : {P : Type 0} → Says P true → P
says_yes (holds p) = p

pub says_no : {P : Type 0} → Says P false → P → ⊥
says_no (fails f) = f

-- every one of the n nodes was asked, up to the first that is refused
pub each_says : {N : List ℕ} {P : ℕ → Type 0} (r : Bool) (n : ℕ) → n ≡ size N →
    MatchBool r (AllWithin P (range_with_len 0 n) 0 (length (range_with_len 0 n)))
    ((k : ℕ) × (k < length (range_with_len 0 n)) × HoldsAt (λ i. P i → ⊥) (range_with_len 0 n) k) → Says (Each N P) r
each_says {N} {P} r n e h = go r h
  where
    len : length (range_with_len 0 n) ≡ n
    len = length-range_with_len 0 n

    at : (k : ℕ) → k < n → get_or (range_with_len 0 n) k 0 ≡ k
    at k g = get_or-range_with_len 0 n k 0 g ∙ zero-add k

    go : (b : Bool) → MatchBool b (AllWithin P (range_with_len 0 n) 0 (length (range_with_len 0 n)))
        ((k : ℕ) × (k < length (range_with_len 0 n)) × HoldsAt (λ i. P i → ⊥) (range_with_len 0 n) k) → Says (Each N P) b
    go true h = holds (record { each = λ k g. subst P (at k (omega (arith, e))) (h k 0 (omega arith) (omega (arith, e, len))) })
    go false h = fails (λ A. h.2 0 (subst P (sym (at h.0 (omega (arith, h.1, len)))) (A.each h.0 (omega (arith, h.1, e, len)))))

-- A pass over the n nodes has come to node i
pub record Passing (N : List ℕ) (P : ℕ → Type 0) (n i : ℕ) : Type 0 where
  pub all_nodes : n ≡ size N
  pub short : i ≤ n
  pub passed : (k : ℕ) → k < i → P k

pub pass_start : {N : List ℕ} {P : ℕ → Type 0} {n : ℕ} → n ≡ size N → Passing N P n 0
pass_start e = record { all_nodes = e; short = omega arith; passed = λ k h. absurd (omega arith) }

module _ {N : List ℕ} {P : ℕ → Type 0} {n i : ℕ} (s : Passing N P n i) where
  pub pass_inside : i < n → i < size N
  pass_inside h = omega (arith, s.all_nodes)

  pub pass_refuses : {b : Bool} → i < n → Says (P i) b → not b ≡ true → Says (Each N P) false
  pass_refuses h a e = fails (λ A. refutes a e (A.each i (pass_inside h)))

  pub pass_on : {b : Bool} → i < n → Says (P i) b → not b ≡ false → Passing N P n (i + 1)
  pass_on h a e = record { all_nodes = s.all_nodes; short = omega arith; passed = below_more P i s.passed (shows a e) }

  pub pass_end : n ≤ i → Says (Each N P) true
  pass_end h = holds (record { each = λ k g. s.passed k (omega (arith, s.all_nodes)) })
