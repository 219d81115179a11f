-- Free nodes: the lowest one, and how many are left when one is taken.
use mathlib.Core.Path.{◌≡◌, refl, sym, ap, ◌∙◌}
use mathlib.Core.Logic.{⊎_elim, ◌≢◌}
use mathlib.Core.Bool.{Bool, true, false, cond, not, false≢true}
use mathlib.Core.List.{List, ◌∷◌}
use Prim.Native.Nat.{ℕ, zero, suc, ◌+◌, ◌-◌, ◌≤◌, ◌<◌}
use native.Mathlib.Omega.{arith}
use lib.ListN.{length}
use Rattle.ground.specs.Lists.{keep, from, first_or}
use Rattle.ground.proofs.Laws.{first_from_is, first_unique, le_or}
use Rattle.nodes.specs.Nodes.{label, size, nodes_of, is_free, is_used, free_nodes}
use Rattle.nodes.specs.Inner.{Zero, Shape}
use Rattle.nodes.proofs.Lists.{zero_or, same_or}
use Rattle.nodes.proofs.Fields.{root_not_free}
use Rattle.nodes.proofs.Decided.{free_zeros, zeros_free, named_used}
use Rattle.index_insert.specs.Enter.{lowest_free}

-- a number that passes one test and not the other, where they agree else
module _ (p q : ℕ → Bool) where
  keep_same : (n a : ℕ) → ((i : ℕ) → a ≤ i → i < a + n → p i ≡ q i) → keep p (from a n) ≡ keep q (from a n)
  unfolding keep from
  keep_same zero a f = refl
  keep_same (suc n) a f = rw (f a (omega arith) (omega arith), keep_same n (suc a) (λ i l u. f i (omega arith) (omega arith)))

  pub keep_less : (n a f : ℕ) → a ≤ f → f < a + n → p f ≡ true → q f ≡ false → ((i : ℕ) → i ≢ f → a ≤ i → i < a + n → p i ≡ q i) →
      length (keep p (from a n)) ≡ suc (length (keep q (from a n)))
  unfolding keep from
  keep_less zero a f l u t s g = absurd (omega arith)
  keep_less (suc n) a f l u t s g = ⊎_elim
      (λ (e : f ≡ a).
      let x : p a ≡ true = ap p (sym e) ∙ t in
      let y : q a ≡ false = ap q (sym e) ∙ s in
      rw (x, y, keep_same n (suc a) (λ i l u. g i (λ z. omega arith) (omega arith) (omega arith))))
      (λ (e : f ≢ a).
      let x : p a ≡ q a = g a (λ z. e (sym z)) (omega arith) (omega arith) in
      let r = keep_less n (suc a) f (omega arith) (omega arith) t s (λ i z l u. g i z (omega arith) (omega arith)) in
      rw x (both (q a) r))
      (same_or f a)
    where
      both : (b : Bool) → length (keep p (from (suc a) n)) ≡ suc (length (keep q (from (suc a) n))) →
          length (cond b (a ∷ keep p (from (suc a) n)) (keep p (from (suc a) n))) ≡ suc
          (length (cond b (a ∷ keep q (from (suc a) n)) (keep q (from (suc a) n))))
      both true e = ap suc e
      both false e = e

-- where none passes, none is kept
keep_no : (p : ℕ → Bool) (n a : ℕ) → ((i : ℕ) → a ≤ i → i < a + n → p i ≡ false) → length (keep p (from a n)) ≡ 0
unfolding keep from
keep_no p zero a f = refl
keep_no p (suc n) a f = rw (f a (omega arith) (omega arith)) (keep_no p n (suc a) (λ i l u. f i (omega arith) (omega arith)))

-- a search that starts where none before passes
pub first_skip : (p : ℕ → Bool) (e a : ℕ) → a ≤ e → ((i : ℕ) → i < a → p i ≡ false) → first_or e p (from a (e - a)) ≡ first_or e p (from 0 e)
first_skip p e a h f =
    let F = first_from_is p a (e - a) e (omega arith) in
    first_unique p 0 e (first_or e p (from a (e - a))) (first_or e p (from 0 e))
    (record {
      low = omega arith;
      high = F.high;
      passed = λ i l u. ⊎_elim (λ (g : a ≤ i). F.passed i g u) (λ (g : i < a). f i g) (le_or a i);
      found = F.found;
    })
    (first_from_is p 0 e e (omega arith))

module _ {parts : ℕ} {N : List ℕ} (S : Shape parts N) where
  -- a node with a label is not free, and one without is
  pub used_not_free : (i : ℕ) → 0 < label N i → is_free N i ≡ false
  unfolding is_used
  used_not_free i h = go (is_free N i) (named_used N i h)
    where
      go : (b : Bool) → not b ≡ true → b ≡ false
      go true e = absurd (false≢true e)
      go false e = refl

  pub unnamed_free : (i : ℕ) → 0 < i → i < size N → label N i ≡ 0 → is_free N i ≡ true
  unnamed_free i g h z = zeros_free N i g (S.free i g h z)

-- tables with the same labels have the same free nodes
pub free_alike : {parts : ℕ} {N M : List ℕ} → Shape parts N → Shape parts M → (i : ℕ) → i < size N → i < size M → label M i ≡ label N i →
    is_free N i ≡ is_free M i
free_alike {N = N} {M = M} S T i h k e = ⊎_elim
    (λ (z : i ≡ 0). root_not_free N i z ∙ sym (root_not_free M i z))
    (λ (g : 0 < i). ⊎_elim
    (λ (z : label N i ≡ 0). unnamed_free S i g h z ∙ sym (unnamed_free T i g k (e ∙ z)))
    (λ (u : 0 < label N i). used_not_free S i u ∙ sym (used_not_free T i (omega arith)))
    (zero_or (label N i)))
    (zero_or i)

-- The lowest free node, where some node is free
pub record Lowest (N : List ℕ) (f : ℕ) : Type 0 where
  pub pos : 0 < f
  pub inside : f < size N
  pub zero : Zero N f
  pub free : is_free N f ≡ true
  pub below : (i : ℕ) → i < f → is_free N i ≡ false

pub lowest : (N : List ℕ) → 0 < length (free_nodes N) → Lowest N (lowest_free N)
unfolding lowest_free free_nodes nodes_of
lowest N h =
    let F = first_from_is (is_free N) 0 (size N) (size N) (omega arith) in
    let f : ℕ = first_or (size N) (is_free N) (from 0 (size N)) in
    let u : first_or (size N) (is_free N) (from 0 (size N)) < size N = ⊎_elim
    (λ (k : size N ≤ first_or (size N) (is_free N) (from 0 (size N))). absurd
    (omega (arith, keep_no (is_free N) (size N) 0 (λ i a b. F.passed i (omega arith) (omega arith)))))
    (λ k. k)
    (le_or (size N) (first_or (size N) (is_free N) (from 0 (size N)))) in
    let t : is_free N (first_or (size N) (is_free N) (from 0 (size N))) ≡ true = F.found u in
    record {
      pos =
          ⊎_elim (λ (z : first_or (size N) (is_free N) (from 0 (size N)) ≡ 0). absurd
          (false≢true (sym (root_not_free N (first_or (size N) (is_free N) (from 0 (size N))) z) ∙ t))) (λ k. k)
          (zero_or (first_or (size N) (is_free N) (from 0 (size N))));
      inside = u;
      zero = free_zeros N (first_or (size N) (is_free N) (from 0 (size N))) t;
      free = t;
      below = λ i k. F.passed i (omega arith) k;
    }

-- as many free nodes as before
pub as_many : {parts : ℕ} {N M : List ℕ} → Shape parts N → Shape parts M → size M ≡ size N → ((i : ℕ) → label M i ≡ label N i) →
    free_nodes N ≡ free_nodes M
unfolding free_nodes nodes_of
as_many {N = N} {M = M} S T e w =
    rw e (keep_same (is_free N) (is_free M) (size N) 0 (λ i a b. free_alike S T i (omega arith) (omega arith) (w i)))

-- one free node fewer
pub one_fewer : {parts : ℕ} {N M : List ℕ} {f : ℕ} → Shape parts N → Shape parts M → size M ≡ size N → f < size N → is_free N f ≡ true →
    0 < label M f → ((i : ℕ) → i ≢ f → label M i ≡ label N i) → length (free_nodes N) ≡ suc (length (free_nodes M))
unfolding free_nodes nodes_of
one_fewer {N = N} {M = M} {f = f} S T e h t g w =
    rw e (keep_less (is_free N) (is_free M) (size N) 0 f (omega arith) (omega arith) t (used_not_free T f g)
    (λ i n a b. free_alike S T i (omega arith) (omega arith) (w i n)))
