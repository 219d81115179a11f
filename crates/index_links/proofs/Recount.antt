-- The numbers of kits changed along a path: every other word stays, and each number on the path is changed once.
use mathlib.Core.Path.{◌≡◌, refl, sym, ap, subst, ◌∙◌}
use mathlib.Core.Logic.{◌≢◌, ⊎_elim}
use mathlib.Core.Bool.{Bool, true, false, ◌||◌, cond, or-false, or-true}
use mathlib.Core.List.{List, [], ◌∷◌, Memᴰ}
use Prim.Native.Nat.{ℕ, zero, suc, ◌≤◌, ◌<◌}
use native.Mathlib.Numerals.{add-one}
use native.Mathlib.Omega.{arith}
use lib.ListN.{set, length-set}
use lib.Seq.{get_or-set_same, get_or-set_other}
use lib.Dec.{eqb}
use borrow.Author.Tests.{ne_eqb, eqb-true, eqb-false}
use Rattle.ground.specs.Lists.{anyb}
use Rattle.ground.proofs.Laws.{by_cond, or_left, or_right, or_no}
use Rattle.nodes.specs.Nodes.{at, tag_word, tally_word, parent, label, depth, tag, tally, size, free_nodes, upward, is_under}
use Rattle.nodes.specs.Inner.{Used, Live, Shape}
use Rattle.nodes.specs.Held.{held}
use Rattle.nodes.proofs.Lists.{same_or}
use Rattle.nodes.proofs.Sorted.{Every, also, Rising, ahead, none, every_mem, every_map, anyb_eqb, eqb_anyb}
use Rattle.nodes.proofs.Rows.{climb, parent_live, live_inside, up_ind}
use Rattle.index_links.specs.Links.{recount, one_more, one_less}
use Rattle.index_links.specs.Inner.{moved}
use Rattle.index_links.proofs.Alike.{Alike, alike_then, alike_upward, alike_shape, alike_free, alike_held}

-- one number set
module _ (N : List ℕ) (i x : ℕ) where
  pub renumber_alike : Alike N (set N (at i tally_word) x)
  renumber_alike = record {
    lengths = length-set N (at i tally_word) x;
    words = λ j w h. get_or-set_other N (at i tally_word) (at j w) x 0 (omega arith);
  }

  pub renumber_tag : (j : ℕ) → tag (set N (at i tally_word) x) j ≡ tag N j
  renumber_tag j = get_or-set_other N (at i tally_word) (at j tag_word) x 0 (omega arith)

  pub renumber_tally : (j : ℕ) → j ≢ i → tally (set N (at i tally_word) x) j ≡ tally N j
  renumber_tally j n = get_or-set_other N (at i tally_word) (at j tally_word) x 0 (omega arith)

  pub renumber_shape : {parts : ℕ} → Shape parts N → Live N i → Shape parts (set N (at i tally_word) x)
  renumber_shape S l = alike_shape renumber_alike S (λ j g h z.
      let n : j ≢ i = λ (e : j ≡ i). omega (arith, (l (omega arith)).named, ap (label N) e) in
      (renumber_tag j, renumber_tally j n))

-- all of a path, and by a change that comes to the same
pub recount_same : (f g : ℕ → ℕ) → ((n : ℕ) → f n ≡ g n) → (N : List ℕ) (k i : ℕ) → recount f N k i ≡ recount g N k i
unfolding recount
recount_same f g e N zero i = rw (e (tally N i))
recount_same f g e N (suc k) i = rw (e (tally N i)) (recount_same f g e (set N (at i tally_word) (g (tally N i))) k (parent N i))

pub one_on : (N : List ℕ) (k i : ℕ) → recount (moved 0 1) N k i ≡ recount one_more N k i
one_on = recount_same (moved 0 1) one_more (λ n. omega arith)

pub one_off : (N : List ℕ) (k i : ℕ) → recount (moved 1 0) N k i ≡ recount one_less N k i
one_off = recount_same (moved 1 0) one_less (λ n. omega arith)

pub recount_alike : (f : ℕ → ℕ) (N : List ℕ) (k i : ℕ) → Alike N (recount f N k i)
unfolding recount
recount_alike f N zero i = renumber_alike N i (f (tally N i))
recount_alike f N (suc k) i =
    alike_then (renumber_alike N i (f (tally N i))) (recount_alike f (set N (at i tally_word) (f (tally N i))) k (parent N i))

pub recount_tag : (f : ℕ → ℕ) (N : List ℕ) (k i j : ℕ) → tag (recount f N k i) j ≡ tag N j
unfolding recount
recount_tag f N zero i j = renumber_tag N i (f (tally N i)) j
recount_tag f N (suc k) i j =
    recount_tag f (set N (at i tally_word) (f (tally N i))) k (parent N i) j ∙ renumber_tag N i (f (tally N i)) j

pub recount_held : (f : ℕ → ℕ) (N : List ℕ) (k i : ℕ) → held (recount f N k i) ≡ held N
recount_held f N k i = alike_held (recount_alike f N k i) (recount_tag f N k i)

-- a number off the path stays
pub recount_off : (f : ℕ → ℕ) (N : List ℕ) (k i j : ℕ) → anyb (eqb j) (upward N k i) ≡ false → tally (recount f N k i) j ≡ tally N j
unfolding recount upward anyb
recount_off f N zero i j h =
    let n : j ≢ i = eqb-false j i (or_left (eqb j i) false h) in
    get_or-set_other N (at i tally_word) (at j tally_word) (f (tally N i)) 0 (omega arith)
recount_off f N (suc k) i j h =
    let n : j ≢ i = eqb-false j i (or_left (eqb j i) (anyb (eqb j) (upward N k (parent N i))) h) in
    let o : anyb (eqb j) (upward N k (parent N i)) ≡ false = or_right (eqb j i) (anyb (eqb j) (upward N k (parent N i))) h in
    let M = set N (at i tally_word) (f (tally N i)) in
    recount_off f M k (parent N i) j (ap (anyb (eqb j)) (alike_upward (renumber_alike N i (f (tally N i))) k (parent N i)) ∙ o)
    ∙ get_or-set_other N (at i tally_word) (at j tally_word) (f (tally N i)) 0 (omega arith)

-- and one on it is changed once, where no node is on it twice
none_again : (i : ℕ) (xs : List ℕ) → Every (λ (x : ℕ). i ≢ x) xs → anyb (eqb i) xs ≡ false
none_again i xs d = go (anyb (eqb i) xs) refl
  where
    go : (b : Bool) → anyb (eqb i) xs ≡ b → b ≡ false
    go false e = refl
    go true e = absurd (every_mem d (anyb_eqb i xs e) refl)

pub recount_on : (f : ℕ → ℕ) (N : List ℕ) (k i j : ℕ) → Rising ◌≢◌ (upward N k i) → j < size N → anyb (eqb j) (upward N k i) ≡ true →
    tally (recount f N k i) j ≡ f (tally N j)
unfolding recount upward anyb
recount_on f N zero i j d g h =
    let e : i ≡ j = sym (eqb-true j i (sym (or-false (eqb j i)) ∙ h)) in
    rw e (get_or-set_same N (at j tally_word) (f (tally N j)) 0 (omega arith))
recount_on f N (suc k) i j (ahead d ds) g h = ⊎_elim
    (λ (e : j ≡ i). let q : i ≡ j = sym e in rw q
    (recount_off f (set N (at j tally_word) (f (tally N j))) k (parent N j) j
    (ap (anyb (eqb j)) (alike_upward (renumber_alike N j (f (tally N j))) k (parent N j)) ∙ none_again j (upward N k (parent N j)) (rw q at d))
    ∙ get_or-set_same N (at j tally_word) (f (tally N j)) 0 (omega arith)))
    (λ (n : j ≢ i).
    let x = f (tally N i) in
    let u = alike_upward (renumber_alike N i x) k (parent N i) in
    recount_on f (set N (at i tally_word) x) k (parent N i) j (rw u ds) (omega (arith, length-set N (at i tally_word) x))
    (ap (anyb (eqb j)) u ∙ or_no (eqb j i) (anyb (eqb j) (upward N k (parent N i))) h (ne_eqb j i n))
    ∙ ap f (get_or-set_other N (at i tally_word) (at j tally_word) x 0 (omega arith)))
    (same_or j i)

------------------------------------------------------------------------
-- From a used node up to the root

module _ {parts : ℕ} {N : List ℕ} (S : Shape parts N) where
  upward_live : (k i : ℕ) → Live N i → Every (Live N) (upward N k i)
  unfolding upward
  upward_live zero i l = also l none
  upward_live (suc k) i l = also l (upward_live k (parent N i) (parent_live (climb S) i l))

  free_off : (k i j : ℕ) → Live N i → 0 < j → label N j ≡ 0 → anyb (eqb j) (upward N k i) ≡ false
  free_off k i j l g z = none_again j (upward N k i)
      (every_map (λ x (m : Live N x) (e : j ≡ x). omega (arith, (subst (Live N) (sym e) m g).named)) (upward_live k i l))

  pub upward_root : upward N (depth N 0) 0 ≡ 0 ∷ []
  unfolding upward
  upward_root = rw S.root.no_depth

  pub upward_step : (i : ℕ) → Used N i → upward N (depth N i) i ≡ i ∷ upward N (depth N (parent N i)) (parent N i)
  unfolding upward
  upward_step i u = rw ((S.good i u).deeper, add-one)

  upward_begins : (k i : ℕ) → Memᴰ i (upward N k i)
  unfolding upward
  upward_begins zero i = Memᴰ.head refl
  upward_begins (suc k) i = Memᴰ.head refl

  abbrev NoDeeper : ℕ → List ℕ → Type 0
  NoDeeper d xs = Every (λ (j : ℕ). depth N j ≤ d) xs

  no_deeper : (i : ℕ) → Live N i → NoDeeper (depth N i) (upward N (depth N i) i)
  no_deeper i l =
      up_ind (climb S) (λ (i : ℕ). NoDeeper (depth N i) (upward N (depth N i) i))
      (subst (NoDeeper (depth N 0)) (sym upward_root) (also (omega arith) none))
      (λ i u h. subst (NoDeeper (depth N i)) (sym (upward_step i u))
      (also (omega arith) (every_map (λ j g. omega (arith, g, (S.good i u).deeper)) h)))
      i l

  -- depths fall on the way up, so that no node is met twice
  pub upward_once : (i : ℕ) → Live N i → Rising ◌≢◌ (upward N (depth N i) i)
  upward_once i l =
      up_ind (climb S) (λ (i : ℕ). Rising ◌≢◌ (upward N (depth N i) i))
      (subst (Rising ◌≢◌) (sym upward_root) (ahead none none))
      (λ i u h. subst (Rising ◌≢◌) (sym (upward_step i u))
      (ahead (every_map (λ j g (e : i ≡ j). omega (arith, g, (S.good i u).deeper, ap (depth N) e)) (no_deeper (parent N i) (S.good i u).above)) h))
      i l

  pub under_itself : (i : ℕ) → is_under N i i ≡ true
  unfolding is_under
  under_itself i = eqb_anyb i (upward N (depth N i) i) (upward_begins (depth N i) i)

  -- what a used node's parent is under, the node is under, and it is not the node
  pub under_above : (i j : ℕ) → Used N i → is_under N j (parent N i) ≡ true → is_under N j i ≡ true
  unfolding is_under anyb
  under_above i j u h = ap (anyb (eqb j)) (upward_step i u) ∙ ap (λ (b : Bool). eqb j i || b) h ∙ or-true (eqb j i)

  pub above_other : (i j : ℕ) → Used N i → is_under N j (parent N i) ≡ true → j ≢ i
  unfolding is_under
  above_other i j u h e =
      let q = parent N i in
      omega (arith, ap (depth N) e, (S.good i u).deeper, every_mem (no_deeper q (S.good i u).above) (anyb_eqb j (upward N (depth N q) q) h))

module _ {parts : ℕ} {N : List ℕ} (S : Shape parts N) (f : ℕ → ℕ) (i : ℕ) (l : Live N i) where
  abbrev R : List ℕ
  R = recount f N (depth N i) i

  pub recount_shape : Shape parts R
  recount_shape = alike_shape (recount_alike f N (depth N i) i) S
      (λ j g h z. (recount_tag f N (depth N i) i j, recount_off f N (depth N i) i j (free_off S (depth N i) i j l g z)))

  pub recount_free : free_nodes R ≡ free_nodes N
  recount_free = alike_free (recount_alike f N (depth N i) i) S recount_shape

  pub recount_tally : (j : ℕ) → Live N j → tally R j ≡ cond (is_under N j i) (f (tally N j)) (tally N j)
  unfolding is_under
  recount_tally j m = by_cond (λ (x : ℕ). tally R j ≡ x) (is_under N j i) (f (tally N j)) (tally N j)
      (recount_on f N (depth N i) i j (upward_once S i l) (live_inside (climb S) j m))
      (recount_off f N (depth N i) i j)
