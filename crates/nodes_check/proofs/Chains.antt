-- Each chain walked once, for its nodes and their tallies. A node is on no chain but its parent's, and there once: so the chains have all used
-- nodes exactly when they have as many.
use mathlib.Core.Path.{◌≡◌, sym, ap, subst, ◌∙◌}
use mathlib.Core.Logic.{◌≢◌, ⊎_elim}
use mathlib.Core.Bool.{Bool, true, false, not}
use mathlib.Core.List.Memᴰ
use mathlib.Core.List.{List, [], ◌∷◌, ◌++◌, map, Memᴰ}
use Prim.Native.Nat.{ℕ, suc, ◌+◌, ◌-◌, ◌*◌, ◌≤◌, ◌<◌}
use native.Mathlib.Omega.{arith}
use lib.Dec.{eqb}
use lib.ListN.{length, length-append}
use mir.Val.{bool_byte}
use borrow.Author.Count.{below_more}
use borrow.Author.Tests.{eqb-false, eq-eqb, ne_eqb, not-true, not-false}
use Rattle.ground.specs.Limits.{two_limit}
use Rattle.ground.specs.Lists.{from, keep, is_zero}
use Rattle.ground.specs.Inner.{Says, fails}
use Rattle.ground.proofs.Laws.{from_step, from_end, length_from}
use Rattle.nodes.specs.Nodes.{most_nodes, parent, child, next, label, tag, tally, size, nodes_of, tagged, chain, children}
use Rattle.nodes.specs.Inner.{Used, Live, OnChain, here, later, Siblings, total}
use Rattle.nodes.proofs.Lists.{never, count_from_yes, count_from_no, count_from_end}
use Rattle.nodes.proofs.Fields.{from_root}
use Rattle.nodes.proofs.Sorted.{Every, Rising, none, also, ahead, every_mem, mem_every, rising_append, rising_weaken, rising_keep}
use Rattle.nodes.proofs.Sorted.{rising_from, keep_short, keep_mem, mem_keep, no_longer, all_met, same_length}
use Rattle.nodes.proofs.Rows.{used_pos, live_inside}
use Rattle.nodes.proofs.Decided.{node_in, in_node}
use Rattle.nodes.proofs.Chain.{left, left_less, chain_on, chain_step, chain_short, children_have, children_used, children_apart}
use Rattle.nodes.proofs.Tallies.{one_byte, no_chain}
use Rattle.nodes_check.specs.Inner.{Kin, chain_length, chain_tags, Walked, tallied, Tallied, AllChained, Chains}
use Rattle.nodes_check.proofs.Answers.{says_eq}

------------------------------------------------------------------------
-- One chain

-- the walk along the chain from h has come to the link at, k nodes far, and these say that so many tags are at or below them
pub record Along (N : List ℕ) (h at k sum : ℕ) : Type 0 where
  pub live : Live N at
  pub rest : k + chain_length N at ≡ chain_length N h
  pub most : chain_length N h ≤ size N
  rest_tags : sum + chain_tags N at ≡ chain_tags N h
  pub bounded : sum ≤ k * two_limit

module _ {N : List ℕ} (B : Siblings N) {h : ℕ} where
  pub along_start : Live N h → Along N h h 0 0
  along_start l = record {
    live = l;
    rest = omega arith;
    most = chain_short B (size N) h l;
    rest_tags = omega arith;
    bounded = omega arith;
  }

  module _ {at k sum : ℕ} (s : Along N h at k sum) where
    step : 0 < at → chain_length N at ≡ suc (chain_length N (next N at))
    step g = ap length (chain_step B at s.live g)

    tags_step : 0 < at → chain_tags N at ≡ tally N at + chain_tags N (next N at)
    unfolding total
    tags_step g = ap (λ (l : List ℕ). total (map (tally N) l)) (chain_step B at s.live g)

    pub along_more : 0 < at → k < size N
    along_more g = omega (arith, s.rest, s.most, step g)

    pub along_next : {p t : ℕ} → 0 < at → p ≡ next N at → t ≡ tally N at → t < two_limit → Along N h p (k + 1) (sum + t)
    along_next g e f b = rw e (record {
      live = B.goes at (s.live g);
      rest = omega (arith, s.rest, step g);
      most = s.most;
      rest_tags = omega (arith, s.rest_tags, tags_step g, f);
      bounded = omega (arith, s.bounded, b);
    })

    pub along_less : {p : ℕ} → 0 < at → p ≡ next N at → left N p < left N at
    along_less g e = rw e (left_less B at s.live g)

    pub along_end : at ≡ 0 → size N ≤ most_nodes → Walked N h (record { nodes = k; tags = sum })
    unfolding total
    along_end e m =
        let c : chain N (size N) at ≡ [] = ap (chain N (size N)) e ∙ no_chain N (size N) in
        let l : k ≡ chain_length N h = omega (arith, s.rest, ap length c) in
        record {
          tells_nodes = l;
          tells_tags = omega (arith, s.rest_tags, ap (λ (l : List ℕ). total (map (tally N) l)) c);
          bounded = omega (arith, s.bounded, l, s.most, m);
        }

------------------------------------------------------------------------
-- A node's own tag, and its chain

pub tally_told : (N : List ℕ) (i : ℕ) {t w below : ℕ} → t ≡ tag N i → w ≡ tally N i → below ≡ chain_tags N (child N i) →
    eqb w (bool_byte (not (eqb t 0)) + below) ≡ tallied N i
unfolding tallied tagged
tally_told N i e f g =
    rw (e, f, g) (ap (λ (own : ℕ). eqb (tally N i) (own + chain_tags N (child N i))) (one_byte (not (eqb (tag N i) 0))))

pub byte_small : (b : Bool) → bool_byte b ≤ 1
byte_small true = omega arith
byte_small false = omega arith

------------------------------------------------------------------------
-- The chains of some nodes

-- the nodes on them
met : List ℕ → List ℕ → List ℕ
met N [] = []
met N (p ∷ ps) = children N p ++ met N ps

-- a node with a label: used, and not the root
named : List ℕ → ℕ → Bool
named N i = not (is_zero (label N i))

module _ {N : List ℕ} (K : Kin N) where
  abbrev B : Siblings N
  B = K.links.along

  -- a chain's nodes have the parent of its first
  on_kin : (h i p : ℕ) → Live N h → (0 < h → parent N h ≡ p) → 0 < i → OnChain N h i → parent N i ≡ p
  on_kin h i p l e g here = e g
  on_kin h i p l e g (later k o) = on_kin (next N h) i p (B.goes h (l k)) (λ n. K.same h (l k) n ∙ e k) g o

  on_children : (p x : ℕ) → Memᴰ x (children N p) → OnChain N (child N p) x
  unfolding children
  on_children p x m = chain_on N (size N) (child N p) x m

  child_used : (p x : ℕ) → p < size N → Memᴰ x (children N p) → Used N x
  child_used p x h m = every_mem (children_used B p (K.links.down p h)) m

  child_of : (p x : ℕ) → p < size N → Memᴰ x (children N p) → parent N x ≡ p
  child_of p x h m =
      on_kin (child N p) x p (K.links.down p h) (K.back p h) (used_pos K.links.up x (child_used p x h m)) (on_children p x m)

  record Met (ps : List ℕ) (x : ℕ) : Type 0 where
    used : Used N x
    chained : OnChain N (child N (parent N x)) x
    under : Memᴰ (parent N x) ps

  abbrev Inside : List ℕ → Type 0
  Inside ps = Every (λ (p : ℕ). p < size N) ps

  met_is : (ps : List ℕ) → Inside ps → (x : ℕ) → Memᴰ x (met N ps) → Met ps x
  unfolding met
  met_is [] none x m = absurd (Memᴰ.not-nil m)
  met_is (p ∷ ps) (also h i) x m = ⊎_elim
      (λ a. let e : parent N x ≡ p = child_of p x h a in record {
        used = child_used p x h a;
        chained = subst (λ (k : ℕ). OnChain N (child N k) x) (sym e) (on_children p x a);
        under = Memᴰ.head e;
      })
      (λ b. let r = met_is ps i x b in record { used = r.used; chained = r.chained; under = Memᴰ.tail r.under })
      (Memᴰ.append_cases (children N p) m)

  -- chains of different nodes share nothing
  met_apart : (ps : List ℕ) → Inside ps → Rising ◌≢◌ ps → Rising ◌≢◌ (met N ps)
  unfolding met
  met_apart [] none none = none
  met_apart (p ∷ ps) (also h i) (ahead d s) = rising_append (children_apart B p (K.links.down p h)) (met_apart ps i s)
      (mem_every (children N p)
      (λ x a. mem_every (met N ps) (λ y b e. every_mem d (met_is ps i y b).under (sym (child_of p x h a) ∙ ap (parent N) e))))

  met_has : (ps : List ℕ) (p x : ℕ) → Memᴰ p ps → Memᴰ x (children N p) → Memᴰ x (met N ps)
  unfolding met
  met_has [] p x m a = absurd (Memᴰ.not-nil m)
  met_has (q ∷ ps) p x m a = ⊎_elim
      (λ (e : p ≡ q). Memᴰ.append_left (met N ps) (subst (λ (k : ℕ). Memᴰ x (children N k)) e a))
      (λ k. Memᴰ.append_right (children N q) (met_has ps p x k a))
      (Memᴰ.cases_cons m)

  ------------------------------------------------------------------------
  -- All chains, and all used nodes but the root

  abbrev all : List ℕ
  all = met N (nodes_of N)

  abbrev wanted : List ℕ
  wanted = keep (named N) (nodes_of N)

  inside : Inside (nodes_of N)
  inside = mem_every (nodes_of N) (λ p m. in_node N p m)

  nodes_apart : Rising ◌≢◌ (nodes_of N)
  unfolding nodes_of
  nodes_apart = rising_weaken (λ x y h e. omega arith) (rising_from (size N) 0)

  all_apart : Rising ◌≢◌ all
  all_apart = met_apart (nodes_of N) inside nodes_apart

  is_wanted : (i : ℕ) → Used N i → Memᴰ i wanted
  unfolding named
  is_wanted i u = mem_keep (named N) i (nodes_of N) (ap not (ne_eqb (label N i) 0 (λ e. omega (arith, u.named)))) (node_in N i u.inside)

  wanted_is : (i : ℕ) → Memᴰ i wanted → Used N i
  unfolding named
  wanted_is i m =
      let k = keep_mem (named N) i (nodes_of N) m in
      record { inside = in_node N i k.0; named = omega (arith, eqb-false (label N i) 0 (not-true (eqb (label N i) 0) k.1)) }

  met_wanted : (i : ℕ) → Memᴰ i all → Memᴰ i wanted
  met_wanted i m = is_wanted i (met_is (nodes_of N) inside i m).used

  -- what is met is not more than there are nodes
  all_fit : length all ≤ size N
  unfolding nodes_of
  all_fit = omega (arith, no_longer all wanted all_apart met_wanted, keep_short (named N) (nodes_of N), length_from 0 (size N))

  -- as many: all
  counted_chained : length all ≡ length wanted → AllChained N
  counted_chained e = record {
    each = λ i u. (met_is (nodes_of N) inside i (all_met all wanted all_apart met_wanted (omega arith) i (is_wanted i u))).chained;
  }

  chained_counted : AllChained N → length all ≡ length wanted
  chained_counted D = same_length all wanted all_apart (rising_keep (named N) (nodes_of N) nodes_apart) met_wanted (λ i m.
      let u : Used N i = wanted_is i m in
      let h : parent N i < size N = live_inside K.links.up (parent N i) (K.links.up.above i u) in
      met_has (nodes_of N) (parent N i) i (node_in N (parent N i) h)
      (children_have B (parent N i) i (K.links.down (parent N i) h) (used_pos K.links.up i u) (D.each i u)))

------------------------------------------------------------------------
-- The count

-- of the nodes from i on, those on their chains and those with a label
met_from : List ℕ → ℕ → ℕ → ℕ
met_from N n i = length (met N (from i (n - i)))

named_from : List ℕ → ℕ → ℕ → ℕ
named_from N n i = length (keep (named N) (from i (n - i)))

-- the walk has come to node i of n: so many used nodes passed, so many met on the chains of those passed, and their tallies are right by
-- their chains
pub record Counting (N : List ℕ) (n i used seen : ℕ) : Type 0 where
  pub all_nodes : n ≡ size N
  pub short : i ≤ n
  pub fewer : used ≤ i
  told : (k : ℕ) → k < i → Tallied N k
  rest_used : used + named_from N n i ≡ named_from N n 0
  rest_met : seen + met_from N n i ≡ met_from N n 0

pub count_start : {N : List ℕ} {n : ℕ} → n ≡ size N → Counting N n 0 0 0
count_start e = record {
  all_nodes = e;
  short = omega arith;
  fewer = omega arith;
  told = λ k h. absurd (omega arith);
  rest_used = omega arith;
  rest_met = omega arith;
}

module _ {N : List ℕ} {n i used seen : ℕ} (s : Counting N n i used seen) where
  met_all : met_from N n 0 ≡ length (met N (nodes_of N))
  unfolding met_from
  met_all = ap (λ (l : List ℕ). length (met N l)) (from_root N n s.all_nodes)

  -- a tally that is not right refuses the table
  pub count_refuses : {b : Bool} → i < n → b ≡ tallied N i → not b ≡ true → Says (Chains N) false
  count_refuses g e f = fails (λ C. never (sym (C.tallies.each i (omega (arith, s.all_nodes))) ∙ sym e ∙ not-true _ f))

  module _ {h r : ℕ} (g : i < n) (he : h ≡ child N i) (re : r ≡ chain_length N h) where
    met_step : met_from N n i ≡ r + met_from N n (i + 1)
    unfolding met_from met children
    met_step =
        ap (λ (l : List ℕ). length (met N l)) (from_step n i g) ∙ length-append (children N i) (met N (from (i + 1) (n - (i + 1)))) ∙ omega
        (arith, re, ap (chain_length N) he)

    pub count_fits : Kin N → seen + r ≤ n
    count_fits K = omega (arith, s.rest_met, met_step, met_all, s.all_nodes, all_fit K)

    passed : {u : ℕ} → Tallied N i → u ≤ used + 1 → used + named_from N n i ≡ u + named_from N n (i + 1) →
        Counting N n (i + 1) u (seen + r)
    passed t h e = record {
      all_nodes = s.all_nodes;
      short = omega arith;
      fewer = omega (arith, s.fewer);
      told = below_more (Tallied N) i s.told t;
      rest_used = omega (arith, s.rest_used, e);
      rest_met = omega (arith, s.rest_met, met_step);
    }

    module _ {b : Bool} {l : ℕ} (be : b ≡ tallied N i) (bt : not b ≡ false) (le : l ≡ label N i) where
      right : Tallied N i
      right = sym be ∙ not-false _ bt

      pub count_used : (l ≡ 0 → ⊥) → Counting N n (i + 1) (used + 1) (seen + r)
      unfolding named named_from
      count_used z = passed right (omega arith) (omega (arith, count_from_yes (named N) n i g (ap not (ne_eqb (label N i) 0 (λ e. z (le ∙ e))))))

      pub count_free : l ≡ 0 → Counting N n (i + 1) used (seen + r)
      unfolding named named_from
      count_free z = passed right (omega arith) (omega (arith, count_from_no (named N) n i g (ap not (eq-eqb (label N i) 0 (sym le ∙ z)))))

  pub count_says : Kin N → n ≤ i → Says (Chains N) (eqb seen used)
  unfolding met met_from named_from
  count_says K h =
      let a : seen ≡ length (met N (nodes_of N)) = omega
      (arith, s.rest_met, met_all, ap (λ (l : List ℕ). length (met N l)) (from_end n i h)) in
      let b : used ≡ length (keep (named N) (nodes_of N)) = omega
      (arith, s.rest_used, count_from_end (named N) n i h, ap (λ (l : List ℕ). length (keep (named N) l)) (from_root N n s.all_nodes)) in
      says_eq seen used
      (λ e. record {
        chained = counted_chained K (omega arith);
        tallies = record { each = λ k g. s.told k (omega (arith, s.all_nodes)) };
      }) (λ C. omega (arith, chained_counted K C.chained))
