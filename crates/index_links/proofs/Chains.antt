-- The chain of a node's children as a list: it is whole, its labels rise; which child has a label, and where a label's link stands.
use mathlib.Core.Path.{◌≡◌, refl, sym, ap, ap₂, subst, ◌∙◌}
use mathlib.Core.Logic.{⊎_elim, ◌≢◌}
use mathlib.Core.Bool.{Bool, true, false, cond}
use mathlib.Core.List.Memᴰ
use mathlib.Core.List.{List, [], ◌∷◌, ◌++◌, Memᴰ}
use Prim.Native.Nat.{ℕ, zero, suc, ◌≤◌, ◌<◌}
use native.Mathlib.Omega.{arith}
use lib.ListN.{length}
use lib.Dec.{ltb}
use borrow.Author.Tests.{eqb-true, eqb-false, eq-eqb, ne_eqb, lt-ltb, le-ltb, ltb-true, ltb-false}
use Rattle.ground.specs.Lists.{from, first_or}
use Rattle.ground.proofs.Laws.{length_from, by_cond}
use Rattle.nodes.specs.Nodes.{parent, child, next, label, size, row_of, chain, children}
use Rattle.nodes.specs.Inner.{Used, Live, OnChain, Shape, Siblings}
use Rattle.nodes.proofs.Sorted.{Every, Rising, none, also, ahead, every_mem, rising_apart, no_longer, mem_from}
use Rattle.nodes.proofs.Rows.{climb, used_pos, row_step}
use Rattle.nodes.proofs.Chain.{siblings, left, left_less, children_have}
use Rattle.index_links.specs.Links.{has_label, child_with, last_below}
use Rattle.index_links.specs.Inner.{Chained, ends, goes}

-- a chain that ends, with the list of its nodes
record Whole (N : List ℕ) (h : ℕ) : Type 0 where
  list : List ℕ
  is : Chained N h list

pub chained_is : {N : List ℕ} {h : ℕ} {xs : List ℕ} (n : ℕ) → Chained N h xs → length xs ≤ n → chain N n h ≡ xs
unfolding chain
chained_is zero ends f = refl
chained_is (suc n) ends f = refl
chained_is zero (goes g c) f = absurd (omega arith)
chained_is {h = zero} (suc n) (goes g c) f = absurd (omega arith)
chained_is {N = N} {h = suc h} (suc n) (goes {xs = xs} g c) f =
    ap (λ (k : List ℕ). suc h ∷ k) (chained_is {h = next N (suc h)} n c (omega arith))

-- One step of a chain, and its end
pub chained_end : {N : List ℕ} {xs : List ℕ} {h : ℕ} → Chained N h xs → h ≡ 0 → xs ≡ []
chained_end ends e = refl
chained_end (goes g c) e = absurd (omega arith)

pub record Step (N : List ℕ) (h : ℕ) (xs : List ℕ) : Type 0 where
  pub rest : List ℕ
  pub cons : xs ≡ h ∷ rest
  pub chained : Chained N (next N h) rest

pub chained_step : {N : List ℕ} {xs : List ℕ} {h : ℕ} → Chained N h xs → 0 < h → Step N h xs
chained_step ends g = absurd (omega arith)
chained_step (goes {xs = ys} k c) g = record { rest = ys; cons = refl; chained = c }

module _ {N : List ℕ} (B : Siblings N) where
  whole_to : (n h : ℕ) → Live N h → left N h ≤ n → Whole N h
  whole_to zero zero l f = record { list = []; is = ends }
  whole_to (suc n) zero l f = record { list = []; is = ends }
  whole_to zero (suc h) l f = absurd (omega (arith, left_less B (suc h) l (omega arith)))
  whole_to (suc n) (suc h) l f =
      let g : 0 < suc h = omega arith in
      let r : Whole N (next N (suc h)) = whole_to n (next N (suc h)) (B.goes (suc h) (l g)) (omega (arith, left_less B (suc h) l g)) in
      record { list = suc h ∷ r.list; is = goes g r.is }

  pub chained_used : {h : ℕ} {xs : List ℕ} → Chained N h xs → Live N h → Every (Used N) xs
  chained_used ends l = none
  chained_used (goes {h = h} g c) l = also (l g) (chained_used c (B.goes h (l g)))

  -- behind a label only greater ones
  pub chained_above : {h : ℕ} {xs : List ℕ} (x : ℕ) → Chained N h xs → Live N h → (0 < h → x ≤ label N h) →
      Every (λ (j : ℕ). x ≤ label N j) xs
  chained_above x ends l f = none
  chained_above x (goes {h = h} g c) l f = also (f g) (chained_above x c (B.goes h (l g)) (λ k. omega (arith, f g, B.rises h (l g) k)))

  pub chained_rises : {h : ℕ} {xs : List ℕ} → Chained N h xs → Live N h → Rising (λ (a b : ℕ). label N a < label N b) xs
  chained_rises ends l = none
  chained_rises (goes {h = h} g c) l =
      ahead (chained_above (suc (label N h)) c (B.goes h (l g)) (B.rises h (l g))) (chained_rises c (B.goes h (l g)))

  chained_short : {h : ℕ} {xs : List ℕ} → Chained N h xs → Live N h → length xs ≤ size N
  chained_short {xs = xs} c l =
      let s = rising_apart (λ (a b : ℕ). label N a < label N b) (λ a r. omega arith) (λ a b c r s. omega arith) (chained_rises c l) in
      omega (
        arith,
        no_longer xs (from 0 (size N)) s
            (λ x m. mem_from (size N) 0 x (omega arith) (omega (arith, (every_mem (chained_used c l) m).inside))),
        length_from 0 (size N),
      )

  -- the list of a node's children is its whole chain
  pub children_chained : (p : ℕ) → Live N (child N p) → Chained N (child N p) (children N p)
  unfolding children
  children_chained p l =
      let w : Whole N (child N p) = whole_to (left N (child N p)) (child N p) l (omega arith) in
      subst (Chained N (child N p)) (sym (chained_is (size N) w.is (chained_short w.is l))) w.is

-- The first of some numbers that passes
pub data Picked (p : ℕ → Bool) (xs : List ℕ) : ℕ → Type 0 where
  some : {r : ℕ} → Memᴰ r xs → p r ≡ true → Picked p xs r
  missing : Every (λ (x : ℕ). p x ≡ false) xs → Picked p xs 0

pub picked : (p : ℕ → Bool) (xs : List ℕ) → Picked p xs (first_or 0 p xs)
unfolding first_or
picked p [] = missing none
picked p (x ∷ xs) = by_cond (Picked p (x ∷ xs)) (p x) x (first_or 0 p xs) (λ e. some (Memᴰ.head refl) e) (λ e. more e (picked p xs))
  where
    more : {r : ℕ} → p x ≡ false → Picked p xs r → Picked p (x ∷ xs) r
    more e (some m q) = some (Memᴰ.tail m) q
    more e (missing v) = missing (also e v)

-- Looking for a label along a chain
module _ (N : List ℕ) (l h : ℕ) (ys : List ℕ) where
  pub with_here : label N h ≡ l → first_or 0 (has_label N l) (h ∷ ys) ≡ h
  unfolding first_or has_label
  with_here e = rw (eq-eqb (label N h) l e)

  pub with_on : label N h ≢ l → first_or 0 (has_label N l) (h ∷ ys) ≡ first_or 0 (has_label N l) ys
  unfolding first_or has_label
  with_on e = rw (ne_eqb (label N h) l e)

  pub below_on : (b : ℕ) → label N h < l → last_below N l b (h ∷ ys) ≡ last_below N l h ys
  unfolding last_below
  below_on b e = rw (lt-ltb (label N h) l e)

pub with_none : (N : List ℕ) (l : ℕ) (xs : List ℕ) → Every (λ (j : ℕ). l < label N j) xs → first_or 0 (has_label N l) xs ≡ 0
unfolding first_or has_label
with_none N l [] none = refl
with_none N l (x ∷ xs) (also h e) = rw (ne_eqb (label N x) l (λ q. omega arith)) (with_none N l xs e)

-- no label of the list is below l
pub below_none : (N : List ℕ) (l b : ℕ) (xs : List ℕ) → Every (λ (j : ℕ). l ≤ label N j) xs → last_below N l b xs ≡ b
unfolding last_below
below_none N l b [] none = refl
below_none N l b (x ∷ xs) (also h e) = rw (le-ltb (label N x) l h) (below_none N l b xs e)

-- Where the link to a label stands on a chain: at its start, or behind a node
pub data Stands (N : List ℕ) (l h : ℕ) (xs : List ℕ) (b : ℕ) : ℕ → Type 0 where
  first : (0 < h → l ≤ label N h) → Stands N l h xs b b
  after : {r : ℕ} → Memᴰ r xs → label N r < l → (0 < next N r → l ≤ label N (next N r)) → Stands N l h xs b r

module _ {N : List ℕ} (B : Siblings N) where
  pub stands : (l : ℕ) {h : ℕ} {xs : List ℕ} (b : ℕ) → Chained N h xs → Live N h → Stands N l h xs b (last_below N l b xs)
  unfolding last_below
  stands l b ends v = first (λ g. absurd (omega arith))
  stands l {xs = h ∷ ys} b (goes g c) v = by_test (ltb (label N h) l) refl (stands l h c (B.goes h (v g)))
    where
      on : {r : ℕ} → label N h < l → Stands N l (next N h) ys h r → Stands N l h (h ∷ ys) b r
      on e (first f) = after (Memᴰ.head refl) e f
      on e (after m k f) = after (Memᴰ.tail m) k f

      by_test : (t : Bool) → ltb (label N h) l ≡ t → Stands N l (next N h) ys h (last_below N l h ys) →
          Stands N l h (h ∷ ys) b (last_below N l (cond t h b) ys)
      by_test true e k = on (ltb-true (label N h) l e) k
      by_test false e k =
          let a : l ≤ label N h = ltb-false (label N h) l e in
          rw (below_none N l b ys (chained_above B l c (B.goes h (v g)) (λ k. omega (arith, B.rises h (v g) k)))) (first (λ _. a))

  -- the link to f stands where a link leads to it: at the start, or in one node of the chain
  pub stands_first : {h : ℕ} {xs : List ℕ} (b : ℕ) → Chained N h xs → Live N h → last_below N (label N h) b xs ≡ b
  stands_first {h} {xs} b c v = below_none N (label N h) b xs (chained_above B (label N h) c v (λ _. omega arith))

  pub stands_after : {h : ℕ} {xs : List ℕ} (b i : ℕ) → Chained N h xs → Live N h → Memᴰ i xs → 0 < next N i →
      last_below N (label N (next N i)) b xs ≡ i
  unfolding last_below
  stands_after b i ends v m g = absurd (Memᴰ.not-nil m)
  stands_after {xs = h ∷ ys} b i (goes k c) v m g = ⊎_elim
      (λ (e : i ≡ h). subst (λ (x : ℕ). last_below N (label N (next N x)) b (h ∷ ys) ≡ x) (sym e)
      (below_on N (label N (next N h)) h ys b (B.rises h (v k) (subst (λ (x : ℕ). 0 < next N x) e g)) ∙ stands_first h c
      (B.goes h (v k))))
      (λ n. stands_after (cond (ltb (label N h) (label N (next N i))) h b) i c (B.goes h (v k)) n g)
      (Memᴰ.cases_cons m)

-- a node of a chain is its first, or the next of another of its nodes
pub data Led (N : List ℕ) (h : ℕ) (xs : List ℕ) (f : ℕ) : Type 0 where
  at_start : h ≡ f → Led N h xs f
  behind : (i : ℕ) → Memᴰ i xs → next N i ≡ f → Led N h xs f

pub led : {N : List ℕ} {h : ℕ} {xs : List ℕ} (f : ℕ) → Chained N h xs → Memᴰ f xs → Led N h xs f
led f ends m = absurd (Memᴰ.not-nil m)
led {N} {xs = h ∷ ys} f (goes g c) m = ⊎_elim (λ (e : f ≡ h). at_start (sym e)) (λ n. on (led f c n)) (Memᴰ.cases_cons m)
  where
    on : Led N (next N h) ys f → Led N h (h ∷ ys) f
    on (at_start e) = behind h (Memᴰ.head refl) e
    on (behind i n e) = behind i (Memᴰ.tail n) e

-- The children of a node
module _ {parts : ℕ} {N : List ℕ} (S : Shape parts N) {p : ℕ} (inside : p < size N) where
  pub child_lives : Live N (child N p)
  child_lives = (S.head p inside).first

  pub the_children : Chained N (child N p) (children N p)
  the_children = children_chained (siblings S) p child_lives

  chained_mine : {h : ℕ} {xs : List ℕ} → Chained N h xs → Live N h → (0 < h → parent N h ≡ p) → Every (λ (j : ℕ). parent N j ≡ p) xs
  chained_mine ends l f = none
  chained_mine (goes {h = h} g c) l f = also (f g) (chained_mine c (S.good h (l g)).sibling (λ k. (S.good h (l g)).same k ∙ f g))

  pub child_used : (i : ℕ) → Memᴰ i (children N p) → Used N i
  child_used i m = every_mem (chained_used (siblings S) the_children child_lives) m

  pub child_mine : (i : ℕ) → Memᴰ i (children N p) → parent N i ≡ p
  child_mine i m = every_mem (chained_mine the_children child_lives (S.head p inside).back) m

  pub mine_child : (i : ℕ) → Used N i → parent N i ≡ p → Memᴰ i (children N p)
  mine_child i u e =
      children_have (siblings S) p i child_lives (used_pos (climb S) i u)
      (subst (λ (q : ℕ). OnChain N (child N q) i) e (S.good i u).chained)

  -- the child with a label, where it is found
  pub with_found : (l c : ℕ) → child_with N p l ≡ c → 0 < c → Used N c × (parent N c ≡ p) × (label N c ≡ l)
  unfolding child_with has_label
  with_found l c e g = take_apart (picked (has_label N l) (children N p)) e
    where
      take_apart : {r : ℕ} → Picked (has_label N l) (children N p) r → r ≡ c → Used N c × (parent N c ≡ p) × (label N c ≡ l)
      take_apart (some {r = r} m q) e =
          subst (λ (x : ℕ). Used N x × (parent N x ≡ p) × (label N x ≡ l)) e (child_used r m, child_mine r m, eqb-true (label N r) l q)
      take_apart (missing v) e = absurd (omega arith)

  -- its row
  pub with_row : (l c : ℕ) → child_with N p l ≡ c → 0 < c → row_of N c ≡ row_of N p ++ (l ∷ [])
  with_row l c e g = let w = with_found l c e g in
      row_step (climb S) c w.0 ∙ ap₂ (λ (q x : ℕ). row_of N q ++ (x ∷ [])) w.1 w.2

  -- and where there is none
  pub with_missing : (l : ℕ) → child_with N p l ≡ 0 → (j : ℕ) → Used N j → parent N j ≡ p → label N j ≢ l
  unfolding child_with has_label
  with_missing l e j u k q = take_apart (picked (has_label N l) (children N p)) e
    where
      take_apart : {r : ℕ} → Picked (has_label N l) (children N p) r → r ≡ 0 → ⊥
      take_apart (some {r = r} m x) z = omega (arith, used_pos (climb S) r (child_used r m))
      take_apart (missing v) z = eqb-false (label N j) l (every_mem v (mine_child j u k)) q

  -- a node without children has none with a label
  pub with_lone : (l : ℕ) → child N p ≡ 0 → child_with N p l ≡ 0
  unfolding child_with first_or
  with_lone l z = rw (chained_end the_children z)
