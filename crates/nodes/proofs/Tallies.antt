-- How many kits end at a node or below it, in terms of rows and of what is held.
use mathlib.Core.Path.{◌≡◌, refl, sym, ap, subst, ◌∙◌}
use mathlib.Core.Logic.{◌≢◌, ⊎_elim}
use mathlib.Core.Bool.{Bool, true, false, ◌&&◌, ◌||◌, cond, or-false}
use mathlib.Core.List.{List, [], ◌∷◌, ◌++◌, map, Memᴰ}
use Prim.Native.Nat.{ℕ, zero, suc, ◌+◌, ◌≤◌, ◌<◌}
use native.Mathlib.Numerals.{add-one}
use native.Mathlib.Omega.{arith}
use lib.ListN.{length, take, drop, length-append, get_or-eq_default}
use lib.Seq.{take-append-le, take_all}
use lib.Dec.{eqb}
use mir.Val.{bool_byte}
use borrow.Author.Tests.{eq-eqb, ne_eqb, eqb-true}
use Rattle.ground.specs.Lists.{anyb, eq_list, keep, from}
use Rattle.ground.proofs.Laws.{by_cond, same_cases, eq_list_true, eq_list_refl, or_no, length_from, le_or}
use Rattle.kits.specs.Kits.{begins, most_units}
use Rattle.kits.proofs.Order.{begins_front}
use Rattle.nodes.specs.Nodes.{most_nodes, tally_word, at, parent, child, next, label, depth, tag, tally, size, nodes_of, tagged, row_of, chain}
use Rattle.nodes.specs.Nodes.{upward, is_under, tags_under}
use Rattle.nodes.specs.Inner.{Used, Live, Shape, Sound, total, walk}
use Rattle.nodes.specs.Held.{Kit, comes_before, put_kit, kits_in_order, drop_kit, begins_with, count_beginning, kit_at, held}
use Rattle.nodes.proofs.Sorted.{keep_short, keep_all, no_members, keep_same, keep_append, keep_mem, mem_keep, mem_from}
use Rattle.nodes.proofs.Sorted.{rising_keep, rising_weaken, rising_from, same_length}
use Rattle.nodes.proofs.Ordered.{put_sum, order_sum}
use Rattle.nodes.proofs.Lists.{never, zero_or, same_or}
use Rattle.nodes.proofs.Rows.{climb, used_pos, live_inside, up_ind, row_root, row_step, row_length, row_good, Ancestor, ancestor}
use Rattle.nodes.proofs.Walk.{child_live, walk_none, walk_some, ind}
use Rattle.nodes.proofs.Chain.{siblings, chain_step}
use Rattle.nodes.proofs.Order.{walk_goes_on, below_once, below_live, walk_chain, inherit, one_node}
use Rattle.nodes.proofs.Held.{Holds, kit, tagged_lives, held_holds, holds_held}

------------------------------------------------------------------------
-- Under a node, by rows

and_over_or : (e p q : Bool) → (e && (p || q)) ≡ ((e && p) || (e && q))
and_over_or true p q = refl
and_over_or false p q = refl

-- a row begins another that has one label more where it is all of it, or begins what was there before
begins_snoc : (a b : List ℕ) (x : ℕ) → begins a (b ++ (x ∷ [])) ≡ (eq_list a (b ++ (x ∷ [])) || begins a b)
unfolding begins eq_list
begins_snoc [] [] x = refl
begins_snoc [] (y ∷ b) x = refl
begins_snoc (y ∷ []) [] x = sym (or-false (eqb y x && true))
begins_snoc (y ∷ z ∷ a) [] x = sym (or-false (eqb y x && false))
begins_snoc (y ∷ a) (z ∷ b) x =
    ap (λ (t : Bool). eqb y z && t) (begins_snoc a b x) ∙ and_over_or (eqb y z) (eq_list a (b ++ (x ∷ []))) (begins a b)

begins_self : (a : List ℕ) → begins a a ≡ true
unfolding begins
begins_self [] = refl
begins_self (x ∷ a) = rw (eq-eqb x x refl) (begins_self a)

begins_none : (a : List ℕ) → begins a [] ≡ eq_list a []
unfolding begins eq_list
begins_none [] = refl
begins_none (x ∷ a) = refl

module _ {parts : ℕ} {N : List ℕ} (S : Shape parts N) where
  one_row : (i j : ℕ) → Live N i → Live N j → eqb i j ≡ eq_list (row_of N i) (row_of N j)
  one_row i j l m =
      same_cases (eqb i j) (eq_list (row_of N i) (row_of N j))
      (λ h. let e : i ≡ j = eqb-true i j h in rw e (eq_list_refl (row_of N j)))
      (λ h. eq-eqb i j (one_node S i j l m (eq_list_true (row_of N i) (row_of N j) h)))

  under_root : (i : ℕ) → Live N i → is_under N i 0 ≡ begins (row_of N i) (row_of N 0)
  unfolding is_under upward anyb
  under_root i l =
      rw (climb S).no_depth (or-false (eqb i 0) ∙ one_row i 0 l (λ g. absurd (omega arith)) ∙ ap (eq_list (row_of N i)) (row_root (climb S))
      ∙ sym (begins_none (row_of N i)) ∙ ap (begins (row_of N i)) (sym (row_root (climb S))))

  under_step : (i j : ℕ) → Live N i → Used N j → is_under N i (parent N j) ≡ begins (row_of N i) (row_of N (parent N j)) →
      is_under N i j ≡ begins (row_of N i) (row_of N j)
  unfolding is_under upward anyb
  under_step i j l u h =
      let r = row_of N (parent N j) in
      let e : depth N j ≡ suc (depth N (parent N j)) = (climb S).deeper j u ∙ add-one (depth N (parent N j)) in
      rw e (ap (λ (t : Bool). eqb i j || t) h ∙ ap (λ (t : Bool). t || begins (row_of N i) r) (one_row i j l (λ _. u)
      ∙ ap (eq_list (row_of N i)) (row_step (climb S) j u)) ∙ sym (begins_snoc (row_of N i) r (label N j)) ∙ ap (begins (row_of N i))
      (sym (row_step (climb S) j u)))

  -- a node is under another exactly when its row goes on from the other's
  pub under_begins : (i j : ℕ) → Live N i → Live N j → is_under N i j ≡ begins (row_of N i) (row_of N j)
  under_begins i j l m =
      up_ind (climb S) (λ (j : ℕ). is_under N i j ≡ begins (row_of N i) (row_of N j)) (under_root i l) (λ j u h. under_step i j l u h) j m

------------------------------------------------------------------------
-- Kits that begin with a row

-- one or none
abbrev pub one_if : Bool → ℕ
one_if b = cond b 1 0

pub one_byte : (b : Bool) → bool_byte b ≡ one_if b
one_byte true = refl
one_byte false = refl

keep_one : {A : Type 0} (p : A → Bool) (x : A) (xs : List A) → length (keep p (x ∷ xs)) ≡ one_if (p x) + length (keep p xs)
unfolding keep
keep_one p x xs = go (p x)
  where
    go : (b : Bool) → length (cond b (x ∷ keep p xs) (keep p xs)) ≡ cond b 1 0 + length (keep p xs)
    go true = omega arith
    go false = omega arith

-- how many kits of a list begin with a row: one kit more, and all in order
pub count_put : (r : List ℕ) (k : Kit) (ks : List Kit) → count_beginning r (put_kit k ks) ≡ one_if (begins r k.row) + count_beginning r ks
unfolding count_beginning begins_with
count_put r k ks = put_sum comes_before (count_beginning r) (λ (x : Kit). one_if (begins r x.row)) (keep_one (begins_with r)) k ks

pub count_in_order : (r : List ℕ) (ks : List Kit) → count_beginning r (kits_in_order ks) ≡ count_beginning r ks
unfolding count_beginning begins_with
count_in_order r ks = order_sum comes_before (count_beginning r) (λ (x : Kit). one_if (begins r x.row)) (keep_one (begins_with r)) ks

keep_map : {A B : Type 0} (f : A → B) (p : B → Bool) (xs : List A) → length (keep p (map f xs)) ≡ length (keep (λ x. p (f x)) xs)
unfolding keep
keep_map f p [] = refl
keep_map f p (x ∷ xs) = omega (arith, keep_one p (f x) (map f xs), keep_map f p xs, keep_one (λ y. p (f y)) x xs)

module _ {parts : ℕ} {N : List ℕ} (S : Shape parts N) where
  -- the tagged nodes at or below a node are those of the kits held that begin with its row
  pub tags_under_held : (i : ℕ) → Live N i → tags_under N i ≡ length (keep (begins_with (row_of N i)) (held N))
  unfolding tags_under held kit_at begins_with count_beginning
  tags_under_held i l =
      let T = keep (tagged N) (nodes_of N) in
      ap length (keep_same (is_under N i) (λ (j : ℕ). begins (row_of N i) (row_of N j)) T (λ j m. under_begins S i j l (tagged_lives S j m)))
      ∙ sym (count_in_order (row_of N i) (map (kit_at N) T) ∙ keep_map (kit_at N) (begins_with (row_of N i)) T)

------------------------------------------------------------------------
-- Under a node, by the walk: the node, and what the walk from its first child meets

pub no_chain : (N : List ℕ) (n : ℕ) → chain N n 0 ≡ []
unfolding chain
no_chain N zero = refl
no_chain N (suc n) = refl

module _ {parts : ℕ} {N : List ℕ} (S : Shape parts N) where
  abbrev below : ℕ → List ℕ
  below i = i ∷ walk N (child N i)

  walk_under : (i j : ℕ) → Live N i → Live N j → Memᴰ j (below i) → is_under N i j ≡ true
  walk_under i j l m n = under_begins S i j l m ∙ ⊎_elim
      (λ (e : j ≡ i). rw e (begins_self (row_of N i)))
      (λ o. walk_goes_on S i j l o)
      (mathlib.Core.List.Memᴰ.cases_cons n)

  -- a child of what is met is met
  child_met : (i j : ℕ) → Live N i → Used N j → Memᴰ (parent N j) (below i) → Memᴰ j (walk N (child N i))
  child_met i j l u m =
      let g : 0 < j = used_pos (climb S) j u in
      let p : parent N j < size N = live_inside (climb S) (parent N j) (S.good j u).above in
      let c : Memᴰ j (walk N (child N (parent N j))) = walk_chain S (child N (parent N j)) j (child_live S (parent N j) p) g
      (S.good j u).chained in
      ⊎_elim
      (λ (e : parent N j ≡ i). subst (λ (k : ℕ). Memᴰ j (walk N (child N k))) e c)
      (λ o. inherit S (parent N j) j c (child N i) (child_live S i (live_inside (climb S) i l)) o)
      (mathlib.Core.List.Memᴰ.cases_cons m)

  root_alone : (i : ℕ) → Live N i → is_under N i 0 ≡ true → row_of N i ≡ row_of N 0
  root_alone i l h =
      let b : begins (row_of N i) [] ≡ true = ap (begins (row_of N i)) (sym (row_root (climb S))) ∙ sym (under_begins S i 0 l (λ g. absurd (omega arith)))
      ∙ h in
      eq_list_true (row_of N i) [] (sym (begins_none (row_of N i)) ∙ b) ∙ sym (row_root (climb S))

  under_parent : (i j : ℕ) → Used N j → (i ≡ j → ⊥) → is_under N i j ≡ true → is_under N i (parent N j) ≡ true
  unfolding is_under upward anyb
  under_parent i j u n h =
      let e : depth N j ≡ suc (depth N (parent N j)) = (climb S).deeper j u ∙ add-one (depth N (parent N j)) in
      or_no (eqb i j) (anyb (eqb i) (upward N (depth N (parent N j)) (parent N j))) (rw e at h) (ne_eqb i j n)

  under_walk : (i j : ℕ) → Live N i → Live N j → is_under N i j ≡ true → Memᴰ j (below i)
  under_walk i j l m =
      up_ind (climb S) (λ (j : ℕ). is_under N i j ≡ true → Memᴰ j (below i))
      (λ h. mathlib.Core.List.Memᴰ.head (sym (one_node S i 0 l (λ g. absurd (omega arith)) (root_alone i l h))))
      (λ j u f h. ⊎_elim
      (λ (e : i ≡ j). mathlib.Core.List.Memᴰ.head (sym e))
      (λ (n : i ≢ j). mathlib.Core.List.Memᴰ.tail (child_met i j l u (f (under_parent i j u n h))))
      (same_or i j))
      j m

  -- as many tags as the walk meets
  pub tags_from : ℕ → ℕ
  tags_from h = length (keep (tagged N) (walk N h))

  pub tags_under_walk : (i : ℕ) → Live N i → tags_under N i ≡ one_if (tagged N i) + tags_from (child N i)
  unfolding tags_under tags_from nodes_of
  tags_under_walk i l =
      let T = keep (tagged N) (from 0 (size N)) in
      same_length (keep (is_under N i) T) (keep (tagged N) (below i))
      (rising_keep (is_under N i) T (rising_keep (tagged N) (from 0 (size N)) (rising_weaken (λ x y h e. omega arith) (rising_from (size N) 0))))
      (rising_keep (tagged N) (below i) (below_once S i l))
      (λ j m.
      let k = keep_mem (is_under N i) j T m in
      mem_keep (tagged N) j (below i) (keep_mem (tagged N) j (from 0 (size N)) k.0).1 (under_walk i j l (tagged_lives S j k.0) k.1))
      (λ j m.
      let k = keep_mem (tagged N) j (below i) m in
      let v : Live N j = below_live S i j l k.0 in
      mem_keep (is_under N i) j T (walk_under i j l v k.0)
      (mem_keep (tagged N) j (from 0 (size N)) k.1 (mem_from (size N) 0 j (omega arith) (omega (arith, live_inside (climb S) j v)))))
      ∙ keep_one (tagged N) i (walk N (child N i))

  -- along a chain from a link on, where each number is right by what is below its node
  abbrev pub along_from : ℕ → ℕ
  along_from h = total (map (tally N) (chain N (size N) h))

  walk_tags : (i : ℕ) → Used N i → tags_from i ≡ one_if (tagged N i) + tags_from (child N i) + tags_from (next N i)
  unfolding tags_from
  walk_tags i u =
      let a = walk N (child N i) in
      let b = walk N (next N i) in
      ap (λ (xs : List ℕ). length (keep (tagged N) xs)) (walk_some S i u) ∙ keep_one (tagged N) i (a ++ b)
      ∙ omega (arith, ap length (keep_append (tagged N) a b), length-append (keep (tagged N) a) (keep (tagged N) b))

  chain_along : (i : ℕ) → Used N i → along_from i ≡ tally N i + along_from (next N i)
  unfolding total
  chain_along i u = ap (λ (xs : List ℕ). total (map (tally N) xs)) (chain_step (siblings S) i (λ _. u) (used_pos (climb S) i u))

  along_none : along_from 0 ≡ tags_from 0
  unfolding tags_from total keep
  along_none = ap (λ (xs : List ℕ). total (map (tally N) xs)) (no_chain N (size N)) ∙ sym (ap (λ (xs : List ℕ). length (keep (tagged N) xs)) (walk_none S))

  -- where each number is right by what the walk below its node meets, once that is so of the chain below it
  along_walk : ((i : ℕ) → Used N i → along_from (child N i) ≡ tags_from (child N i) → tally N i ≡ one_if (tagged N i) + tags_from (child N i)) →
      (h : ℕ) → Live N h → along_from h ≡ tags_from h
  along_walk right h l =
      ind S (λ (h : ℕ). along_from h ≡ tags_from h) along_none (λ i u c n. omega (arith, chain_along i u, right i u c, walk_tags i u)) h l

  -- numbers that are right by the chain below each node are the document's
  pub local_tallies : ((i : ℕ) → i < size N → tally N i ≡ one_if (tagged N i) + along_from (child N i)) →
      (i : ℕ) → Live N i → tally N i ≡ tags_under N i
  local_tallies local i l =
      let h : i < size N = live_inside (climb S) i l in
      let e = along_walk (λ i u c. local i u.inside ∙ ap (λ (n : ℕ). one_if (tagged N i) + n) c) (child N i) (child_live S i h) in
      omega (arith, local i h, e, tags_under_walk i l)

  -- and the document's are right by the chain below each node
  pub tallies_local : ((i : ℕ) → Live N i → tally N i ≡ tags_under N i) →
      (i : ℕ) → Live N i → tally N i ≡ one_if (tagged N i) + along_from (child N i)
  tallies_local told i l =
      let e = along_walk (λ i u c. told i (λ _. u) ∙ tags_under_walk i (λ _. u)) (child N i) (child_live S i (live_inside (climb S) i l)) in
      omega (arith, told i l, tags_under_walk i l, e)

------------------------------------------------------------------------
-- How many kits of a list begin with a row

-- the kit with the row r, which is there, taken out
pub count_drop : (s r : List ℕ) (k : Kit) (ks : List Kit) → Memᴰ k ks → r ≡ k.row →
    one_if (begins s r) + count_beginning s (drop_kit r ks) ≡ count_beginning s ks
unfolding count_beginning begins_with drop_kit
count_drop s r k [] m e = absurd (mathlib.Core.List.Memᴰ.not-nil m)
count_drop s r k (x ∷ ks) m e =
    by_cond (λ (L : List Kit). one_if (begins s r) + length (keep (begins_with s) L) ≡ length (keep (begins_with s) (x ∷ ks)))
    (eq_list r x.row) ks (x ∷ drop_kit r ks)
    (λ q. ap (λ (a : List ℕ). one_if (begins s a) + length (keep (begins_with s) ks)) (eq_list_true r x.row q)
    ∙ sym (keep_one (begins_with s) x ks))
    (λ q.
    let t : Memᴰ k ks = ⊎_elim
    (λ (w : k ≡ x). absurd (never (sym (eq_list_refl r) ∙ ap (eq_list r) (e ∙ ap (λ (z : Kit). z.row) w) ∙ q)))
    (λ t. t)
    (mathlib.Core.List.Memᴰ.cases_cons m) in
    omega (arith, keep_one (begins_with s) x (drop_kit r ks), keep_one (begins_with s) x ks, count_drop s r k ks t e))

pub count_most : (r : List ℕ) (ks : List Kit) → count_beginning r ks ≤ length ks
unfolding count_beginning
count_most r ks = keep_short (begins_with r) ks

pub count_all : (ks : List Kit) → count_beginning [] ks ≡ length ks
unfolding count_beginning begins_with begins
count_all ks = ap length (keep_all (begins_with []) ks (λ k m. refl))

some_member : {A : Type 0} (x : A) (xs : List A) → Memᴰ x xs → 0 < length xs
some_member x [] m = absurd (mathlib.Core.List.Memᴰ.not-nil m)
some_member x (y ∷ ys) m = omega arith

pub count_some : (r : List ℕ) (k : Kit) (ks : List Kit) → Memᴰ k ks → begins r k.row ≡ true → 0 < count_beginning r ks
unfolding count_beginning begins_with
count_some r k ks m e = some_member k (keep (begins_with r) ks) (mem_keep (begins_with r) k ks e m)

module _ {parts : ℕ} {N : List ℕ} (S : Shape parts N) where
  -- a row that no node has begins no kit: the kit's node would have one above it with that row
  pub none_begins : (r : List ℕ) → ((j : ℕ) → Live N j → row_of N j ≢ r) → count_beginning r (held N) ≡ 0
  unfolding count_beginning begins_with
  none_begins r f = ap length (no_members (keep (begins_with r) (held N)) (λ k m.
      let o = keep_mem (begins_with r) k (held N) m in
      let h : Holds N k.row k.tag = held_holds S k o.0 in
      let s : List ℕ = drop (length r) k.row in
      let b : row_of N h.node ≡ r ++ s = h.is ∙ begins_front r k.row o.1 in
      let a : Ancestor N h.node (length r) = ancestor (climb S) h.node h.live (length r)
      (omega (arith, row_length (climb S) h.node h.live, ap length b, length-append r s)) in
      f a.node a.live
      (a.is ∙ ap (take (length r)) b ∙ take-append-le (length r) r s (omega arith) ∙ take_all (length r) r (omega arith))))

  pub count_long : (r : List ℕ) → most_units < length r → count_beginning r (held N) ≡ 0
  count_long r h = none_begins r (λ j l e. omega (arith, ap length e, (row_good S j l).short))

  only_root : (i : ℕ) → is_under N i 0 ≡ true → i ≡ 0
  unfolding is_under upward anyb
  only_root i h = let e : (eqb i 0 || false) ≡ true = rw (climb S).no_depth at h in eqb-true i 0 (sym (or-false (eqb i 0)) ∙ e)

  -- what a node is under is the root or used
  pub under_live : (i j : ℕ) → Live N j → is_under N i j ≡ true → Live N i
  under_live i j l =
      up_ind (climb S) (λ (j : ℕ). is_under N i j ≡ true → Live N i)
      (λ h. let e : i ≡ 0 = only_root i h in λ g. absurd (omega arith))
      (λ j u f h. ⊎_elim
      (λ (e : i ≡ j). λ _. subst (Used N) (sym e) u)
      (λ (n : i ≢ j). f (under_parent S i j u n h))
      (same_or i j))
      j l

  tags_few : (i : ℕ) → tags_under N i ≤ size N
  unfolding tags_under nodes_of
  tags_few i =
      let A = from 0 (size N) in
      let T = keep (tagged N) A in
      omega (arith, keep_short (is_under N i) T, keep_short (tagged N) A, length_from 0 (size N))

module _ {parts : ℕ} {N : List ℕ} (So : Sound parts N) where
  abbrev SN : Shape parts N
  SN = So.shape

  -- the word at a node is the number of kits held whose row begins with the node's row
  pub tally_counts : (i : ℕ) → Live N i → tally N i ≡ count_beginning (row_of N i) (held N)
  unfolding count_beginning
  tally_counts i l = So.tallies i l ∙ tags_under_held SN i l

  -- at every node it is small: a free node, and what is beyond the table, has 0
  pub tally_few : (i : ℕ) → tally N i ≤ most_nodes
  tally_few i = ⊎_elim
      (λ (h : size N ≤ i).
      let b : length N ≤ at i tally_word = omega (arith, SN.sized.whole) in
      omega (arith, get_or-eq_default N 0 b))
      (λ (h : i < size N). ⊎_elim
      (λ (e : i ≡ 0). live_few i (λ g. absurd (omega arith)))
      (λ (g : 0 < i). ⊎_elim
      (λ (z : label N i ≡ 0). omega (arith, SN.free i g h z tally_word (omega arith)))
      (λ (n : 0 < label N i). live_few i (λ _. record { inside = h; named = n }))
      (zero_or (label N i)))
      (zero_or i))
      (le_or (size N) i)
    where
      live_few : (i : ℕ) → Live N i → tally N i ≤ most_nodes
      live_few i l = omega (arith, So.tallies i l, tags_few SN i, SN.sized.most)

  -- from a tagged node upwards it is never 0
  pub tally_some : (i j : ℕ) → Live N j → 0 < tag N j → is_under N i j ≡ true → 0 < tally N i
  tally_some i j l t h =
      let v : Live N i = under_live SN i j l h in
      omega (
        arith,
        tally_counts i v,
        count_some (row_of N i) (kit (row_of N j) (tag N j)) (held N)
            (holds_held SN (row_of N j) (tag N j) (record { node = j; live = l; is = refl; has = refl; some_tag_lem = t }))
            (sym (under_begins SN i j v l) ∙ h),
      )

  -- the root's number is that of all kits held
  pub root_counts : tally N 0 ≡ length (held N)
  root_counts =
      tally_counts 0 (λ g. absurd (omega arith)) ∙ ap (λ (r : List ℕ). count_beginning r (held N)) (row_root (climb SN)) ∙ count_all (held N)
