-- Sums over places; the shortfall of a row with one unit more, of one within the bin, and line by line.
use mathlib.Core.Path.{◌≡◌, refl, ap, ap₂, ◌∙◌}
use mathlib.Core.Logic.{◌≢◌, ⊎_elim}
use mathlib.Core.Bool.{true, cond}
use mathlib.Core.List.{List, [], ◌∷◌, ◌++◌}
use Prim.Native.Nat.{ℕ, zero, suc, ◌+◌, ◌-◌, ◌≤◌, ◌<◌}
use native.Mathlib.Omega.{arith}
use lib.ListN.{replicate}
use lib.Dec.{eqb}
use borrow.Author.Tests.{eq-eqb, ne_eqb}
use Rattle.ground.specs.Lists.{from}
use Rattle.ground.proofs.Laws.{le_or}
use Rattle.kits.specs.Kits.{most_place, good_list, units, count, Within}
use Rattle.kits.proofs.Along.{count_next, count_next_other, upto_none}
use Rattle.kits.proofs.Good.{GoodLines, none, line, good_lines_lem}
use Rattle.kits.proofs.Inclusion.{count_none, count_append, rises_none}
use Rattle.kits.proofs.Quantities.{quantity_count, count_replicate}
use Rattle.kits.proofs.Units.{Upto, units_rise}
use Rattle.nodes.proofs.Lists.{same_or}
use Rattle.shortfalls.specs.Shortfalls.{sum_over, lacking, shortfall}
use Rattle.shortfalls.specs.Inner.{lines_short}

sum_same : (f g : ℕ → ℕ) (n a : ℕ) → ((p : ℕ) → a ≤ p → g p ≡ f p) → sum_over g (from a n) ≡ sum_over f (from a n)
unfolding sum_over from
sum_same f g zero a h = refl
sum_same f g (suc n) a h = ap₂ ◌+◌ (h a (omega arith)) (sum_same f g n (suc a) (λ p l. h p (omega arith)))

-- one summand is greater by c
sum_more : (f g : ℕ → ℕ) (x c : ℕ) → ((p : ℕ) → p ≢ x → g p ≡ f p) → g x ≡ f x + c → (n a : ℕ) → a ≤ x → x < a + n →
    sum_over g (from a n) ≡ sum_over f (from a n) + c
unfolding sum_over from
sum_more f g x c h e zero a l u = absurd (omega arith)
sum_more f g x c h e (suc n) a l u = ⊎_elim
    (λ (q : a ≡ x). let r = sum_same f g n (suc a) (λ p l. h p (λ z. omega arith)) in let k : g a ≡ f a + c = rw q e in omega arith)
    (λ (q : a ≢ x). omega (arith, h a q, sum_more f g x c h e n (suc a) (omega arith) (omega arith)))
    (same_or a x)

-- no summand is greater
sum_less : (f g : ℕ → ℕ) (n a : ℕ) → ((p : ℕ) → f p ≤ g p) → sum_over f (from a n) ≤ sum_over g (from a n)
unfolding sum_over from
sum_less f g zero a h = omega arith
sum_less f g (suc n) a h = omega (arith, h a, sum_less f g n (suc a) h)

-- a sum is 0 exactly when each summand is
sum_none : (f : ℕ → ℕ) (n a : ℕ) → ((p : ℕ) → f p ≡ 0) → sum_over f (from a n) ≡ 0
unfolding sum_over from
sum_none f zero a h = refl
sum_none f (suc n) a h = omega (arith, h a, sum_none f n (suc a) h)

sum_each : (f : ℕ → ℕ) (n a p : ℕ) → sum_over f (from a n) ≡ 0 → a ≤ p → p < a + n → f p ≡ 0
unfolding sum_over from
sum_each f zero a p e l u = absurd (omega arith)
sum_each f (suc n) a p e l u = ⊎_elim
    (λ (q : p ≡ a). rw q (omega arith))
    (λ (q : p ≢ a). sum_each f n (suc a) p (omega arith) (omega arith) (omega arith))
    (same_or p a)

-- The shortfall of no units, and of one unit more
pub short_none : (bin : List ℕ) → shortfall bin [] ≡ 0
unfolding shortfall lacking
short_none bin = sum_none (lacking bin []) (most_place + 1) 0 (λ p. omega (arith, count_none p))

module _ (bin a : List ℕ) (x : ℕ) (h : x ≤ most_place) where
  -- the bin has more of it
  pub short_same : count x a < count x bin → shortfall bin (a ++ (x ∷ [])) ≡ shortfall bin a
  unfolding shortfall lacking
  short_same k = omega (
    arith,
    sum_more (lacking bin a) (lacking bin (a ++ (x ∷ []))) x 0
        (λ p n. ap (λ y. y - count p bin) (count_next_other p x a n))
        (omega (arith, count_next x a)) (most_place + 1) 0 (omega arith) (omega arith),
  )

  -- the bin has no more of it
  pub short_more : count x bin ≤ count x a → shortfall bin (a ++ (x ∷ [])) ≡ shortfall bin a + 1
  unfolding shortfall lacking
  short_more k = sum_more (lacking bin a) (lacking bin (a ++ (x ∷ []))) x 1
      (λ p n. ap (λ y. y - count p bin) (count_next_other p x a n))
      (omega (arith, count_next x a)) (most_place + 1) 0 (omega arith) (omega arith)

-- a bin with something lacks no more than one with nothing
pub short_least : (bin kit : List ℕ) → shortfall bin kit ≤ shortfall [] kit
unfolding shortfall lacking
short_least bin kit = sum_less (lacking bin kit) (lacking [] kit) (most_place + 1) 0 (λ p. omega (arith, count_none p))

-- A row whose units are places has no shortfall exactly when it is within the bin
pub short_within : (bin kit : List ℕ) → Upto most_place kit → shortfall bin kit ≡ 0 → Within kit bin
unfolding shortfall lacking
short_within bin kit u e p = ⊎_elim
    (λ (h : p ≤ most_place). omega (arith, sum_each (lacking bin kit) (most_place + 1) 0 p e (omega arith) (omega arith)))
    (λ (h : most_place < p). omega (arith, upto_none u p h))
    (le_or p most_place)

pub within_short : (bin kit : List ℕ) → Within kit bin → shortfall bin kit ≡ 0
unfolding shortfall lacking
within_short bin kit f = sum_none (lacking bin kit) (most_place + 1) 0 (λ p. omega (arith, f p))

-- The shortfall of a good list is the sum over its lines: "over its parts of what it needs beyond the bin's quantity"
module _ (bin : List ℕ) (p q : ℕ) (us : List ℕ) (h : p ≤ most_place) (z : count p us ≡ 0) where
  line_count_lem : (x : ℕ) → count x (replicate q p ++ us) ≡ cond (eqb x p) q 0 + count x us
  line_count_lem x = count_append x (replicate q p) us ∙ ap (λ y. y + count x us) (count_replicate x q p)

  line_more : shortfall bin (replicate q p ++ us) ≡ shortfall bin us + (q - count p bin)
  unfolding shortfall lacking
  line_more = sum_more (lacking bin us) (lacking bin (replicate q p ++ us)) p (q - count p bin)
      (λ x n. ap (λ y. y - count x bin) (omega (arith, line_count_lem x, ap (λ t. cond t q 0) (ne_eqb x p n))))
      (omega (arith, line_count_lem p, ap (λ t. cond t q 0) (eq-eqb p p refl))) (most_place + 1) 0 (omega arith) (omega arith)

lines_short_lem : (bin : List ℕ) {prev : ℕ} {kit : List ℕ} → GoodLines most_place prev kit →
    shortfall (units bin) (units kit) ≡ lines_short bin kit
unfolding lines_short units
lines_short_lem bin none = short_none (units bin)
lines_short_lem bin (line {p = p} {q = q} {l = l} a b c d g) =
    omega (
      arith,
      line_more (units bin) p q (units l) b (rises_none (units_rise g) p (omega arith)),
      quantity_count bin p,
      lines_short_lem bin
          g,
    )

pub short_by_lines : (bin kit : List ℕ) → good_list most_place kit ≡ true → shortfall (units bin) (units kit) ≡ lines_short bin kit
short_by_lines bin kit g = lines_short_lem bin (good_lines_lem most_place kit g)
