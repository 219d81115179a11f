-- The nodes that a walk finds, whatever its test: one step of it, where it may stop, how many there are, which is first, and which kits they are.
use mathlib.Core.Path.{◌≡◌, refl, sym, ap, ap₂, ◌∙◌}
use mathlib.Core.Bool.{Bool, true, false, cond, not, ◌&&◌}
use mathlib.Core.List.{List, [], ◌∷◌, ◌++◌, map, append_assoc, append-nil, Memᴰ}
use Prim.Native.Nat.{ℕ, zero, suc, ◌+◌, ◌≤◌, ◌<◌}
use native.Mathlib.Omega.{arith}
use lib.ListN.{length, get_or, length-map}
use lib.Dec.{eqb}
use borrow.Author.Tests.{ne_eqb}
use Rattle.ground.specs.Lists.{keep, from}
use Rattle.ground.specs.Laid.{Put}
use Rattle.ground.proofs.Laws.{length_from}
use Rattle.nodes.specs.Nodes.{most_nodes, parent, child, next, label, tag, tagged, size, row_of}
use Rattle.nodes.specs.Inner.{Used, Live, Shape, walk, walk_all}
use Rattle.nodes.specs.Held.{Kit, tags_of, kit_at, some_unit, held, listed}
use Rattle.nodes.proofs.Sorted.{Every, none, also, every_keep, keep_append, keep_same, keep_short, no_longer, mem_from}
use Rattle.nodes.proofs.Rows.{climb, used_pos, live_inside, row_step}
use Rattle.nodes.proofs.Walk.{walk_none, walk_some, ind}
use Rattle.nodes.proofs.Order.{walked, walk_once, walk_only}
use Rattle.nodes.proofs.Units.{listed_is_walk}
use Rattle.questions.specs.Inner.{answers, found_from, first_from, found_in, tags_from, if_tag}

-- node i with the tag t, where the test b says yes
kept_node : (i : ℕ) (b : Bool) (t : ℕ) → cond (b && not (eqb t 0)) (i ∷ []) [] ≡ if_tag (cond b t 0) i
unfolding if_tag
kept_node i true zero = refl
kept_node i true (suc t) = rw (ne_eqb (suc t) 0 (λ q. omega arith))
kept_node i false t = refl

-- and a word of it
pub word_of : (f : ℕ → ℕ) (t i : ℕ) → map f (if_tag t i) ≡ if_tag t (f i)
unfolding if_tag
word_of f zero i = refl
word_of f (suc t) i = refl

module _ {parts : ℕ} {N : List ℕ} (S : Shape parts N) (test : List ℕ → Bool) where
  -- the node itself, where a kit ends there that passes
  abbrev own_of : ℕ → List ℕ
  own_of i = keep (answers test N) (i ∷ [])

  pub own_node : (i : ℕ) → keep (answers test N) (i ∷ []) ≡ if_tag (cond (test (row_of N i)) (tag N i) 0) i
  unfolding keep answers tagged
  own_node i = kept_node i (test (row_of N i)) (tag N i)

  pub own_word : (f : ℕ → ℕ) (i : ℕ) → map f (keep (answers test N) (i ∷ [])) ≡ if_tag (cond (test (row_of N i)) (tag N i) 0) (f i)
  own_word f i = ap (map f) (own_node i) ∙ word_of f (cond (test (row_of N i)) (tag N i) 0) i

  own_dead : (i : ℕ) → ((s : List ℕ) → test (row_of N i ++ s) ≡ false) → own_of i ≡ []
  unfolding keep answers
  own_dead i e = rw (ap test (sym (append-nil (row_of N i))) ∙ e [])

  pub found_none : found_from test N 0 ≡ []
  unfolding found_from keep
  found_none = rw (walk_none S)

  -- one step: its own, what is below, what is behind
  pub found_step : (i : ℕ) → Used N i →
      found_from test N i ≡ keep (answers test N) (i ∷ []) ++ (found_from test N (child N i) ++ found_from test N (next N i))
  unfolding found_from
  found_step i u =
      ap (keep (answers test N)) (walk_some S i u)
      ∙ keep_append (answers test N) (i ∷ []) (walk N (child N i) ++ walk N (next N i))
      ∙ ap (λ l. own_of i ++ l) (keep_append (answers test N) (walk N (child N i)) (walk N (next N i)))

  -- the whole walk begins at the root's first child, and finds no more than a table may have nodes
  pub found_few : {k : ℕ} → k ≡ child N 0 → 0 + length (found_from test N k) ≤ most_nodes
  unfolding found_from walk_all
  found_few e =
      let few : length (0 ∷ walk N (child N 0)) ≤ length (from 0 (size N)) = no_longer (walk_all N) (from 0 (size N)) (walk_once S)
      (λ i m. mem_from (size N) 0 i (omega arith) (omega (arith, live_inside (climb S) i (walk_only S i m)))) in
      rw e (omega (arith, keep_short (answers test N) (walk N (child N 0)), length_from 0 (size N), few, S.sized.most))

-- Two tests that agree on every row that goes on from the node above a link, with its label or a greater one, find the same from there
module _ {parts : ℕ} {N : List ℕ} (S : Shape parts N) (one other : List ℕ → Bool) where
  own_alike : (i : ℕ) → one (row_of N i) ≡ other (row_of N i) → keep (answers one N) (i ∷ []) ≡ keep (answers other N) (i ∷ [])
  unfolding keep answers
  own_alike i e = rw e

  pub found_alike : (i : ℕ) → Live N i →
      (0 < i → (x : ℕ) (s : List ℕ) → label N i ≤ x → x ≤ parts →
      one (row_of N (parent N i) ++ (x ∷ s)) ≡ other (row_of N (parent N i) ++ (x ∷ s))) →
      found_from one N i ≡ found_from other N i
  found_alike i l =
      ind S (λ (i : ℕ). (0 < i → (x : ℕ) (s : List ℕ) → label N i ≤ x → x ≤ parts →
      one (row_of N (parent N i) ++ (x ∷ s)) ≡ other (row_of N (parent N i) ++ (x ∷ s))) → found_from one N i ≡ found_from other N i)
      (λ h. found_none S one ∙ sym (found_none S other))
      (λ i u c n h.
      let p = used_pos (climb S) i u in
      let on : (s : List ℕ) → row_of N i ++ s ≡ row_of N (parent N i) ++ (label N i ∷ s) =
      λ s. ap (λ r. r ++ s) (row_step (climb S) i u) ∙ append_assoc (row_of N (parent N i)) (label N i ∷ []) s in
      let e : (s : List ℕ) → one (row_of N i ++ s) ≡ other (row_of N i ++ s) =
      λ s. ap one (on s) ∙ h p (label N i) s (omega arith) (S.good i u).place ∙ ap other (sym (on s)) in
      let own : one (row_of N i) ≡ other (row_of N i) =
      ap one (sym (append-nil (row_of N i))) ∙ e [] ∙ ap other (append-nil (row_of N i)) in
      let below : found_from one N (child N i) ≡ found_from other N (child N i) = c
      (λ q x s g b. rw ((S.head i u.inside).back q) (e (x ∷ s))) in
      let behind : found_from one N (next N i) ≡ found_from other N (next N i) = n
      (λ q x s g b. rw ((S.good i u).same q) (h p x s (omega (arith, (S.good i u).greater q)) b)) in
      found_step S one i u ∙ ap₂ ◌++◌ (own_alike i own) (ap₂ ◌++◌ below behind) ∙ sym (found_step S other i u))
      i l

-- a test that nothing passes finds nothing
never_found : (N xs : List ℕ) → keep (answers (λ (r : List ℕ). false) N) xs ≡ []
unfolding keep answers
never_found N [] = refl
never_found N (x ∷ xs) = never_found N xs

module _ {parts : ℕ} {N : List ℕ} (S : Shape parts N) (test : List ℕ → Bool) where
  -- where no row passes that goes on from the node above with a label of at least this one, none does here, below or behind
  pub found_dead : (i : ℕ) → Live N i →
      (0 < i → (x : ℕ) (s : List ℕ) → label N i ≤ x → x ≤ parts → test (row_of N (parent N i) ++ (x ∷ s)) ≡ false) → found_from test N i ≡ []
  unfolding found_from
  found_dead i l h = found_alike S test (λ (r : List ℕ). false) i l h ∙ never_found N (walk N i)

  -- where no row passes that goes on from a node, what is found is behind it
  pub found_past : (i : ℕ) → Used N i → ((s : List ℕ) → test (row_of N i ++ s) ≡ false) → found_from test N i ≡ found_from test N (next N i)
  found_past i u e =
      let below : found_from test N (child N i) ≡ [] = found_dead (child N i) (λ q. (S.head i u.inside).first q)
      (λ q x s g b. ap (λ r. test (r ++ (x ∷ s))) (ap (row_of N) ((S.head i u.inside).back q)) ∙ e (x ∷ s)) in
      rw (found_step S test i u, own_dead S test i e, below)

  -- What is found from a link on: used nodes, so that a node found is not 0
  module _ {i : ℕ} (l : Live N i) where
    pub found_used : Every (Used N) (found_from test N i)
    unfolding found_from
    found_used = every_keep (answers test N) (walk N i) (walked S i l).used

    pub first_live : Live N (first_from test N i)
    first_live = go found_used
      where
        go : {xs : List ℕ} → Every (Used N) xs → Live N (get_or xs 0 0)
        go none g = absurd (omega arith)
        go (also u e) g = u

    pub first_inside : {a : ℕ} → a ≡ first_from test N i → a < size N
    first_inside e = rw e (live_inside (climb S) (first_from test N i) first_live)

    -- where the first is 0 there is none
    pub first_none : first_from test N i ≡ 0 → found_from test N i ≡ []
    first_none = go found_used
      where
        go : {xs : List ℕ} → Every (Used N) xs → get_or xs 0 0 ≡ 0 → xs ≡ []
        go none z = refl
        go (also {x = x} u e) z = absurd (omega (arith, used_pos (climb S) x u))

    -- the first tag is that of the first node
    pub tag_of_first : {a : ℕ} → a ≡ first_from test N i → get_or (tags_from test N i) 0 0 ≡ cond (eqb a 0) 0 (tag N a)
    tag_of_first e = rw e (go found_used)
      where
        go : {xs : List ℕ} → Every (Used N) xs → get_or (map (tag N) xs) 0 0 ≡ cond (eqb (get_or xs 0 0) 0) 0 (tag N (get_or xs 0 0))
        go none = refl
        go (also {x = x} u e) = rw (ne_eqb x 0 (λ z. omega (arith, used_pos (climb S) x u)))

-- From nodes to kits: a test of rows, on kits
on_row : (List ℕ → Bool) → Kit → Bool
on_row test k = test k.row

walk_kits : (test : List ℕ → Bool) (N xs : List ℕ) →
    keep (on_row test) (map (kit_at N) (keep (tagged N) xs)) ≡ map (kit_at N) (keep (answers test N) xs)
unfolding keep kit_at answers on_row
walk_kits test N [] = refl
walk_kits test N (x ∷ xs) = go (test (row_of N x)) (tagged N x) refl (walk_kits test N xs)
  where
    go : (b c : Bool) → test (row_of N x) ≡ b →
        keep (on_row test) (map (kit_at N) (keep (tagged N) xs)) ≡ map (kit_at N) (keep (answers test N) xs) →
        keep (on_row test) (map (kit_at N) (cond c (x ∷ keep (tagged N) xs) (keep (tagged N) xs))) ≡ map (kit_at N)
        (cond (b && c) (x ∷ keep (answers test N) xs) (keep (answers test N) xs))
    go true true e h = rw e (ap (◌∷◌ (kit_at N x)) h)
    go true false e h = h
    go false true e h = rw e h
    go false false e h = h

-- the kits listed that answer are those at the nodes found
pub kits_found : {parts : ℕ} {N : List ℕ} → Shape parts N → (test : List ℕ → Bool) (q : Kit → Bool) →
    ((k : Kit) → Memᴰ k (listed N) → q k ≡ test k.row) → keep q (listed N) ≡ map (kit_at N) (found_in test N)
unfolding found_from on_row
kits_found {N = N} S test q f =
    keep_same q (on_row test) (listed N) f ∙ ap (keep (on_row test)) (listed_is_walk S) ∙ walk_kits test N (walk N (child N 0))

-- so a walk sets down no more words, one for each node found, than there are kits, an empty one among them
pub no_more_than_kits : {parts : ℕ} {N : List ℕ} → Shape parts N → (test : List ℕ → Bool) (f : ℕ → ℕ) {o o' : List ℕ} {n r : ℕ} →
    Put o 0 (map f (found_in test N)) r o' → n ≡ length (held N) → r ≤ n
unfolding on_row listed
no_more_than_kits {N = N} S test f w e =
    let is = found_in test N in
    omega (
      arith,
      w.behind,
      length-map is f,
      length-map is (kit_at N),
      ap length (kits_found S test (on_row test) (λ k m. refl)),
      keep_short (on_row test) (listed N),
      keep_short some_unit (held N),
    )

pub tags_at : (N xs : List ℕ) → tags_of (map (kit_at N) xs) ≡ map (tag N) xs
unfolding tags_of kit_at
tags_at N [] = refl
tags_at N (x ∷ xs) = ap (◌∷◌ (tag N x)) (tags_at N xs)
