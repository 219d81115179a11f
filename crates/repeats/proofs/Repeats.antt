-- A number equals none before it but one of its hash: so those to which its hash leads back decide whether it repeats one.
use mathlib.Core.Path.{◌≡◌, ap, sym, ◌∙◌, refl}
use mathlib.Core.Logic.{◌⊎◌, inl, inr}
use mathlib.Core.Bool.{Bool, true, false, ◌&&◌, ◌||◌, not, and-false, or-true, or-false}
use mathlib.Core.List.{List, [], ◌∷◌, ◌++◌, map}
use Prim.Native.Nat.{ℕ, zero, suc, ◌+◌, ◌-◌, ◌*◌, ◌%◌, ◌≤◌, ◌<◌}
use native.Mathlib.Numerals.{add-one}
use native.Mathlib.Omega.{arith}
use lib.ListN.{length, get_or, drop, set, length-set, drop_of_length-le}
use lib.Seq.{drop-cons, get_or-set_same, get_or-set_other}
use lib.Dec.{eqb}
use borrow.Author.Tests.{eq-eqb, ne_eqb, eqb-true, eqb-false}
use Rattle.ground.specs.Lists.{anyb, distinct, eq_list, from}
use Rattle.ground.proofs.Laws.{below_or, by_cond, eq_list_true, eq_list_sym, anyb_append, map_append, from_last}
use Rattle.repeats.specs.Inner.{number_here, next_place, most_entries, entry_of, first_entries, is_repeat, EntriesInside}
use Rattle.repeats.specs.Inner.{hashes, hash_base, hash_room, hash_from, hash_of, last_hashed, LastHas, LeadsBack, Hashed}

------------------------------------------------------------------------
-- Numbers by their offsets

-- the number at the k-th offset, as the code reads it
pub entry_read : (s a : List ℕ) (k : ℕ) → number_here s (get_or a k 0) ≡ entry_of s a k
unfolding entry_of
entry_read s a k = refl

-- a table of offsets, the first k of them set down
pub record Offsets (g : ℕ → ℕ) (a : List ℕ) (k : ℕ) : Type 0 where
  pub long : length a ≡ most_entries
  pub at : (i : ℕ) → i < k → get_or a i 0 ≡ g i

pub offsets_on : {g : ℕ → ℕ} {a : List ℕ} {k : ℕ} (x : ℕ) → Offsets g a k → k < most_entries → x ≡ g k → Offsets g (set a k x) (k + 1)
offsets_on {g} {a} {k} x t u e = record { long = length-set a k x ∙ t.long; at = λ i v. at i v (below_or i k) }
  where
    at : (i : ℕ) → i < k + 1 → (i < k) ⊎ (k ≤ i) → get_or (set a k x) i 0 ≡ g i
    at i v (inl l) = let d : i ≡ k → ⊥ = λ q. omega arith in get_or-set_other a k i x 0 d ∙ t.at i l
    at i v (inr l) = let q : i ≡ k = omega arith in rw q (get_or-set_same a k x 0 (omega (arith, t.long)) ∙ e)

-- the numbers at the first m of them
module _ (s : List ℕ) {g : ℕ → ℕ} {a : List ℕ} {k : ℕ} (t : Offsets g a k) (m : ℕ) (u : m ≤ k) where
  pub offsets_inside : m ≤ most_entries → ((i : ℕ) → i < m → next_place s (g i) ≤ length s) → EntriesInside s a m
  offsets_inside f h = record { few = f; inside = λ i v. rw (t.at i (omega arith)) (h i v) }

  pub offsets_entry : (i : ℕ) → i < m → entry_of s a i ≡ number_here s (g i)
  unfolding entry_of
  offsets_entry i v = rw (t.at i (omega arith))

pub inside_fewer : {s a : List ℕ} {m e : ℕ} → EntriesInside s a m → e ≤ m → EntriesInside s a e
inside_fewer p u = record { few = omega (arith, p.few); inside = λ k v. p.inside k (omega arith) }

-- one number more behind the others
module _ (f : ℕ → List ℕ) where
  entries_last : (k : ℕ) → first_entries f (suc k) ≡ first_entries f k ++ (f k ∷ [])
  entries_last k =
      let e : 0 + k ≡ k = omega arith in
      ap (map f) (from_last 0 k) ∙ map_append f (from 0 k) ((0 + k) ∷ []) ∙ ap (λ i. first_entries f k ++ (f i ∷ [])) e

  any_last : (n : List ℕ) (k : ℕ) → anyb (eq_list n) (first_entries f (suc k)) ≡ (anyb (eq_list n) (first_entries f k) || eq_list n (f k))
  unfolding anyb
  any_last n k = ap (anyb (eq_list n)) (entries_last k) ∙ anyb_append (eq_list n) (first_entries f k) (f k ∷ []) ∙ rw or-false

------------------------------------------------------------------------
-- Hashes

-- byte by byte
module _ (n : List ℕ) (i h : ℕ) where
  pub hash_on : i < length n → hash_from h (drop i n) ≡ hash_from ((h * hash_base + get_or n i 0) % hash_room) (drop (i + 1) n)
  unfolding hash_from
  hash_on u = rw (add-one, drop-cons n i 0)

  pub hash_end : length n ≤ i → hash_from h (drop i n) ≡ h % hashes
  unfolding hash_from
  hash_end u = rw (drop_of_length-le n u)

-- equal numbers have equal hashes
other_hash : (a b : List ℕ) → eqb (hash_of b) (hash_of a) ≡ false → eq_list a b ≡ false
other_hash a b t = go (eq_list a b) refl
  where
    go : (x : Bool) → eq_list a b ≡ x → x ≡ false
    go true e = absurd (eqb-false _ _ t (ap hash_of (sym (eq_list_true a b e))))
    go false e = refl

-- the last number of a hash
module _ (f : ℕ → List ℕ) (h : ℕ) where
  pub last_hashed_le : (k : ℕ) → last_hashed f h k ≤ k
  unfolding last_hashed
  last_hashed_le zero = omega arith
  last_hashed_le (suc k) =
      by_cond (λ x. x ≤ suc k) (eqb (hash_of (f k)) h) (suc k) (last_hashed f h k) (λ t. omega arith) (λ t. omega (arith, last_hashed_le k))

  last_has : (k : ℕ) → LastHas f h (last_hashed f h k)
  unfolding last_hashed
  last_has zero = λ u. absurd (omega arith)
  last_has (suc k) =
      let e : suc k - 1 ≡ k = omega arith in
      by_cond (LastHas f h) (eqb (hash_of (f k)) h) (suc k) (last_hashed f h k) (λ t u. rw e (eqb-true _ _ t)) (λ t. last_has k)

  last_here : (k : ℕ) → h ≡ hash_of (f k) → last_hashed f h (k + 1) ≡ k + 1
  unfolding last_hashed
  last_here k e = rw (add-one, eq-eqb (hash_of (f k)) h (sym e))

  last_before : (k : ℕ) → (hash_of (f k) ≡ h → ⊥) → last_hashed f h (k + 1) ≡ last_hashed f h k
  unfolding last_hashed
  last_before k e = rw (add-one, ne_eqb (hash_of (f k)) h e)

-- what follows the last number of its hash is another number
up_to_last : (f : ℕ → List ℕ) (n : List ℕ) (k : ℕ) → anyb (eq_list n) (first_entries f k) ≡ anyb (eq_list n) (first_entries f (last_hashed f (hash_of n) k))
unfolding last_hashed
up_to_last f n zero = refl
up_to_last f n (suc k) =
    by_cond (λ x. anyb (eq_list n) (first_entries f (suc k)) ≡ anyb (eq_list n) (first_entries f x)) (eqb (hash_of (f k)) (hash_of n)) (suc k)
    (last_hashed f (hash_of n) k) (λ t. refl) (λ t. any_last f n k ∙ rw (other_hash n (f k) t, or-false) (up_to_last f n k))

------------------------------------------------------------------------
-- From a number n back to those of its hash among the first e: those below k are left
pub record GoingBack (f : ℕ → List ℕ) (n : List ℕ) (e k : ℕ) : Type 0 where
  pub low : k ≤ e
  pub has : LastHas f (hash_of n) k
  pub rest : anyb (eq_list n) (first_entries f k) ≡ anyb (eq_list n) (first_entries f e)

module _ (f : ℕ → List ℕ) (n : List ℕ) (e k : ℕ) (w : GoingBack f n e k) where
  pub back_end : k ≤ 0 → anyb (eq_list n) (first_entries f e) ≡ false
  unfolding anyb from
  back_end u = let z : k ≡ 0 = omega arith in rw z at (sym w.rest)

  module _ (j : ℕ) (at : j ≡ k - 1) (u : 0 < k) where
    here : (anyb (eq_list n) (first_entries f j) || eq_list n (f j)) ≡ anyb (eq_list n) (first_entries f e)
    here = let s : k ≡ suc j = omega arith in sym (any_last f n j) ∙ rw s at w.rest

    pub back_found : eq_list n (f j) ≡ true → anyb (eq_list n) (first_entries f e) ≡ true
    back_found t = sym here ∙ rw (t, or-true)

    pub back_on : eq_list n (f j) ≡ false → (x : ℕ) → x ≡ last_hashed f (hash_of (f j)) j → GoingBack f n e x
    back_on t x q =
        let g : hash_of (f j) ≡ hash_of n = rw at (w.has u) in
        let p : x ≡ last_hashed f (hash_of n) j = rw g at q in
        rw p (record {
          low = omega (arith, last_hashed_le f (hash_of n) j, w.low);
          has = last_has f (hash_of n) j;
          rest = sym (up_to_last f n j) ∙ rw (t, or-false) at here;
        })

------------------------------------------------------------------------
-- The tables

pub hashed_none : (f : ℕ → List ℕ) (a b : List ℕ) → length a ≡ hashes → length b ≡ most_entries → ((h : ℕ) → get_or a h 0 ≡ 0) → Hashed f a b 0
unfolding last_hashed
hashed_none f a b p q z =
    record { wide = p; long = q; known = λ h u. z h; back = record { few = omega arith; leads = λ j u. absurd (omega arith) } }

-- one number more, of the hash h
pub hashed_on : (f : ℕ → List ℕ) (a b : List ℕ) (k h v : ℕ) → Hashed f a b k → k < most_entries → h ≡ hash_of (f k) → h < hashes → v ≡ get_or a h 0 →
    Hashed f (set a h (k + 1)) (set b k v) (k + 1)
hashed_on f a b k h v t u is low last = record {
  wide = length-set a h (k + 1) ∙ t.wide;
  long = length-set b k v ∙ t.long;
  known = λ i g. known i g (eqb i h) refl;
  back = record { few = omega arith; leads = λ j g. leads j g (eqb j k) refl };
}
  where
    known : (i : ℕ) → i < hashes → (x : Bool) → eqb i h ≡ x → get_or (set a h (k + 1)) i 0 ≡ last_hashed f i (k + 1)
    known i g true e =
        let q : i ≡ h = eqb-true i h e in
        rw q (get_or-set_same a h (k + 1) 0 (omega (arith, t.wide)) ∙ sym (last_here f h k is))
    known i g false e =
        get_or-set_other a h i (k + 1) 0 (eqb-false i h e)
        ∙ t.known i g
        ∙ sym (last_before f i k (λ x. eqb-false i h e (sym x ∙ sym is)))

    leads : (j : ℕ) → j < k + 1 → (x : Bool) → eqb j k ≡ x → get_or (set b k v) j 0 ≡ last_hashed f (hash_of (f j)) j
    leads j g true e =
        let q : j ≡ k = eqb-true j k e in
        rw q (get_or-set_same b k v 0 (omega (arith, t.long)) ∙ last ∙ t.known h low ∙ ap (λ x. last_hashed f x k) is)
    leads j g false e = let d = eqb-false j k e in get_or-set_other b k j v 0 d ∙ t.back.leads j (omega arith)

-- a number n of hash h, and the entry e that its hash has in the table: the last of the first k numbers with this hash
module _ (f : ℕ → List ℕ) (a b : List ℕ) (k h e : ℕ) (n : List ℕ) (t : Hashed f a b k) (is : h ≡ hash_of n) (low : h < hashes) (read : e ≡ get_or a h 0) where
  back_starts : e ≡ last_hashed f (hash_of n) k
  back_starts = read ∙ t.known h low ∙ ap (λ x. last_hashed f x k) is

  pub starts_low : e ≤ k
  starts_low = omega (arith, back_starts, last_hashed_le f (hash_of n) k)

  pub starts_back : LeadsBack f b e
  starts_back = record { few = omega (arith, starts_low, t.back.few); leads = λ j v. t.back.leads j (omega (arith, starts_low)) }

  pub starts_has : LastHas f (hash_of n) e
  starts_has = rw back_starts (last_has f (hash_of n) k)

  pub starts_tell : (x : Bool) → x ≡ anyb (eq_list n) (first_entries f e) → n ≡ f k → x ≡ is_repeat f k
  starts_tell x told q = rw (← q) (told ∙ ap (λ i. anyb (eq_list n) (first_entries f i)) back_starts ∙ sym (up_to_last f n k))

-- functions that agree on the numbers entered so far
module _ (f g : ℕ → List ℕ) where
  last_alike : (h k : ℕ) → ((j : ℕ) → j < k → f j ≡ g j) → last_hashed f h k ≡ last_hashed g h k
  unfolding last_hashed
  last_alike h zero e = refl
  last_alike h (suc k) e = rw (e k (omega arith), last_alike h k (λ j u. e j (omega arith)))

  hashed_alike : (a b : List ℕ) (k : ℕ) → ((j : ℕ) → j < k → f j ≡ g j) → Hashed g a b k → Hashed f a b k
  hashed_alike a b k e t = record {
    wide = t.wide;
    long = t.long;
    known = λ h u. t.known h u ∙ sym (last_alike h k e);
    back = record {
      few = t.back.few;
      leads = λ j u. rw (e j u) (t.back.leads j u ∙ sym (last_alike (hash_of (g j)) j (λ i v. e i (omega arith))));
    };
  }

-- one offset more leaves the numbers before it
pub hashed_set : (s a : List ℕ) (l e : List ℕ) (k x : ℕ) → Hashed (entry_of s a) l e k → Hashed (entry_of s (set a k x)) l e k
unfolding entry_of
hashed_set s a l e k x =
    hashed_alike (entry_of s (set a k x)) (entry_of s a) l e k
    (λ j u. let d : j ≡ k → ⊥ = λ q. omega arith in ap (number_here s) (get_or-set_other a k j x 0 d))

------------------------------------------------------------------------
-- No number twice, from the front on

once_more : (a : List (List ℕ)) (x : List ℕ) → distinct eq_list (a ++ (x ∷ [])) ≡ (distinct eq_list a && not (anyb (eq_list x) a))
unfolding distinct anyb
once_more [] x = refl
once_more (y ∷ a) x =
    let s = eq_list_sym y x in
    rw (anyb_append (eq_list y) a (x ∷ []), once_more a x)
    (turn (anyb (eq_list y) a) (eq_list y x) (eq_list x y) (distinct eq_list a) (anyb (eq_list x) a) s)
  where
    turn : (p q r d z : Bool) → q ≡ r → (not (p || (q || false)) && (d && not z)) ≡ ((not p && d) && not (r || z))
    turn true q r d z e = refl
    turn false true r true z e = rw (← e)
    turn false true r false z e = refl
    turn false false r true z e = rw (← e)
    turn false false r false z e = refl

module _ (f : ℕ → List ℕ) where
  once_last : (k : ℕ) → distinct eq_list (first_entries f (suc k)) ≡ (distinct eq_list (first_entries f k) && not (is_repeat f k))
  once_last k = ap (distinct eq_list) (entries_last f k) ∙ once_more (first_entries f k) (f k)

  once_front : (k d : ℕ) → distinct eq_list (first_entries f k) ≡ false → distinct eq_list (first_entries f (k + d)) ≡ false
  once_front k zero e = let z : k + 0 ≡ k = omega arith in rw z e
  once_front k (suc d) e = let s : k + suc d ≡ suc (k + d) = omega arith in rw (s, once_last (k + d), once_front k d e)

  pub once_none : distinct eq_list (first_entries f 0) ≡ true
  unfolding distinct from
  once_none = refl

  -- whether the number at k is one of those before it
  module _ (k : ℕ) (b : Bool) (told : b ≡ is_repeat f k) where
    pub once_no : (m : ℕ) → k < m → b ≡ true → distinct eq_list (first_entries f m) ≡ false
    once_no m u t =
        let s : m ≡ suc k + (m - suc k) = omega arith in
        rw s (once_front (suc k) (m - suc k) (once_last k ∙ rw (← told, t, and-false)))

    pub once_on : b ≡ false → distinct eq_list (first_entries f k) ≡ true → distinct eq_list (first_entries f (k + 1)) ≡ true
    once_on t d = rw add-one (once_last k ∙ rw (← told, t, d))
