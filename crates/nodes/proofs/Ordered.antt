-- Lists put in order by a test that says which of two members comes first: their members, lengths and sums, and that the order is settled by the members.
use mathlib.Core.Path.{◌≡◌, refl, sym, ap, subst, ◌∙◌}
use mathlib.Core.Logic.{◌⊎◌, inl, inr, ⊎_elim}
use mathlib.Core.Bool.{Bool, true, false}
use mathlib.Core.List.Memᴰ
use mathlib.Core.List.{List, [], ◌∷◌, Memᴰ}
use Prim.Native.Nat.{ℕ, ◌+◌}
use native.Mathlib.Omega.{arith}
use lib.ListN.{length}
use Rattle.ground.specs.Lists.{put_by, order_by}
use Rattle.ground.proofs.Laws.{by_cond}
use Rattle.nodes.proofs.Lists.{never}
use Rattle.nodes.proofs.Sorted.{Every, Rising, none, also, ahead, every_mem, mem_every, every_map, same_members}

module _ {A : Type 0} (first : A → A → Bool) where
  abbrev pub Precedes : A → A → Type 0
  Precedes a b = first a b ≡ true

  -- One put in its place
  module _ (x : A) where
    pub put_mem : (a : A) (ys : List A) → Memᴰ a (put_by first x ys) → (a ≡ x) ⊎ Memᴰ a ys
    unfolding put_by
    put_mem a [] m = Memᴰ.cases_cons m
    put_mem a (y ∷ ys) m =
        by_cond (λ (L : List A). Memᴰ a L → (a ≡ x) ⊎ Memᴰ a (y ∷ ys)) (first x y) (x ∷ y ∷ ys) (y ∷ put_by first x ys)
        (λ q m. Memᴰ.cases_cons m)
        (λ q m. ⊎_elim (λ q. inr (Memᴰ.head q)) (λ j. ⊎_elim (λ q. inl q) (λ i. inr (Memᴰ.tail i)) (put_mem a ys j))
        (Memᴰ.cases_cons m)) m

    pub put_new : (ys : List A) → Memᴰ x (put_by first x ys)
    unfolding put_by
    put_new [] = Memᴰ.head refl
    put_new (y ∷ ys) = by_cond (Memᴰ x) (first x y) (x ∷ y ∷ ys) (y ∷ put_by first x ys)
        (λ q. Memᴰ.head refl)
        (λ q. Memᴰ.tail (put_new ys))

    pub put_old : (a : A) (ys : List A) → Memᴰ a ys → Memᴰ a (put_by first x ys)
    unfolding put_by
    put_old a [] m = absurd (Memᴰ.not-nil m)
    put_old a (y ∷ ys) m = by_cond (Memᴰ a) (first x y) (x ∷ y ∷ ys) (y ∷ put_by first x ys)
        (λ q. Memᴰ.tail m)
        (λ q. ⊎_elim (λ q. Memᴰ.head q) (λ j. Memᴰ.tail (put_old a ys j)) (Memᴰ.cases_cons m))

    -- before all others
    put_first : (ys : List A) → Every (Precedes x) ys → put_by first x ys ≡ x ∷ ys
    unfolding put_by
    put_first [] none = refl
    put_first (y ∷ ys) (also q e) = rw q

  -- All put in order
  pub order_mem : (a : A) (xs : List A) → Memᴰ a (order_by first xs) → Memᴰ a xs
  unfolding order_by
  order_mem a [] m = m
  order_mem a (x ∷ xs) m = ⊎_elim (λ e. Memᴰ.head e) (λ j. Memᴰ.tail (order_mem a xs j)) (put_mem x a (order_by first xs) m)

  pub mem_order : (a : A) (xs : List A) → Memᴰ a xs → Memᴰ a (order_by first xs)
  unfolding order_by
  mem_order a [] m = m
  mem_order a (x ∷ xs) m =
      ⊎_elim (λ (e : a ≡ x). subst (λ (z : A). Memᴰ z (put_by first x (order_by first xs))) (sym e) (put_new x (order_by first xs)))
      (λ j. put_old x a (order_by first xs) (mem_order a xs j)) (Memᴰ.cases_cons m)

  pub in_order_already : {xs : List A} → Rising Precedes xs → order_by first xs ≡ xs
  unfolding order_by
  in_order_already none = refl
  in_order_already (ahead {x = x} {xs = xs} e s) = ap (put_by first x) (in_order_already s) ∙ put_first x xs e

  -- What is summed up over the members is the same in any order
  module _ (sum : List A → ℕ) (one : A → ℕ) (adds : (x : A) (xs : List A) → sum (x ∷ xs) ≡ one x + sum xs) where
    pub put_sum : (x : A) (ys : List A) → sum (put_by first x ys) ≡ one x + sum ys
    unfolding put_by
    put_sum x [] = adds x []
    put_sum x (y ∷ ys) = by_cond (λ (L : List A). sum L ≡ one x + sum (y ∷ ys)) (first x y) (x ∷ y ∷ ys) (y ∷ put_by first x ys)
        (λ _. adds x (y ∷ ys))
        (λ _. omega (arith, adds y (put_by first x ys), put_sum x ys, adds y ys))

    pub order_sum : (xs : List A) → sum (order_by first xs) ≡ sum xs
    unfolding order_by
    order_sum [] = refl
    order_sum (x ∷ xs) = omega (arith, put_sum x (order_by first xs), order_sum xs, adds x xs)

  pub order_length : (xs : List A) → length (order_by first xs) ≡ length xs
  order_length xs = order_sum length (λ _. 1) (λ y zs. omega arith) xs

  -- The test is an order: transitive, none before itself, and of two that are other than each other one comes first
  module _ (Other : A → A → Type 0) (trans : (a b c : A) → Precedes a b → Precedes b c → Precedes a c)
      (self : (a : A) → first a a ≡ false) (total : (a b : A) → Other a b → first a b ≡ false → Precedes b a) where
    pub put_rises : (x : A) (ys : List A) → Every (Other x) ys → Rising Precedes ys →
        Rising Precedes (put_by first x ys)
    unfolding put_by
    put_rises x [] n none = ahead none none
    put_rises x (y ∷ ys) (also n ns) (ahead r rs) =
        by_cond (Rising Precedes) (first x y) (x ∷ y ∷ ys) (y ∷ put_by first x ys)
        (λ q. ahead (also q (every_map (λ z h. trans x y z q h) r)) (ahead r rs))
        (λ q. ahead (mem_every (put_by first x ys) (λ z m. ⊎_elim
        (λ (e : z ≡ x). ap (first y) e ∙ total x y n q)
        (λ k. every_mem r k)
        (put_mem x z ys m))) (put_rises x ys ns rs))

    pub order_rises : {xs : List A} → Rising Other xs → Rising Precedes (order_by first xs)
    unfolding order_by
    order_rises none = none
    order_rises (ahead {x = x} {xs = xs} e s) =
        put_rises x (order_by first xs) (mem_every (order_by first xs) (λ a m. every_mem e (order_mem a xs m))) (order_rises s)

    -- the list in order that has the same members
    pub ordered_is : {xs ys : List A} → Rising Other xs → Rising Precedes ys →
        ((a : A) → Memᴰ a xs → Memᴰ a ys) → ((a : A) → Memᴰ a ys → Memᴰ a xs) → order_by first xs ≡ ys
    ordered_is {xs} s t f g =
        same_members Precedes (λ a h. never (sym h ∙ self a)) trans (order_rises s) t
        (λ a m. f a (order_mem a xs m)) (λ a m. mem_order a xs (g a m))

    -- two lists of members other than each other, the same ones
    pub order_same : {xs ys : List A} → Rising Other xs → Rising Other ys → ((a : A) → Memᴰ a xs → Memᴰ a ys) →
        ((a : A) → Memᴰ a ys → Memᴰ a xs) → order_by first xs ≡ order_by first ys
    order_same {xs} {ys} s t f g =
        ordered_is s (order_rises t) (λ a m. mem_order a ys (f a m)) (λ a m. g a (order_mem a ys m))
