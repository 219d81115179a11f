-- Linking a free node in, and unlinking a used one, splice it: the link to it stands in one word, and in no other.
use mathlib.Core.Path.{◌≡◌, refl, sym, ap, subst, ◌∙◌}
use mathlib.Core.Logic.{inl, inr, ⊎_elim, ◌≢◌}
use mathlib.Core.Bool.{cond}
use mathlib.Core.List.{List, [], ◌∷◌, Memᴰ}
use Prim.Native.Nat.{ℕ, zero, suc, ◌+◌, ◌≤◌, ◌<◌}
use native.Mathlib.Omega.{arith}
use lib.ListN.{length, get_or}
use borrow.Author.Tests.{ne_eqb}
use Rattle.ground.specs.Lists.{is_zero}
use Rattle.nodes.specs.Nodes.{words_per_node, child_word, next_word, at, word, parent, child, next, label, depth, size, children}
use Rattle.nodes.specs.Inner.{Used, Live, Zero, OnChain, here, later, Shape}
use Rattle.nodes.proofs.Lists.{zero_or, same_or}
use Rattle.nodes.proofs.Rows.{climb, used_pos, live_inside}
use Rattle.nodes.proofs.Chain.{siblings}
use Rattle.index_links.specs.Links.{last_below, link_to, link, unlink}
use Rattle.index_links.proofs.Chains.{Stands, first, after, stands, stands_first, stands_after, Led, at_start, behind, led}
use Rattle.index_links.proofs.Chains.{the_children, child_lives, child_used, child_mine, mine_child, with_missing}
use Rattle.index_links.proofs.Seeking.{word_first, word_after, word_is_link}
use Rattle.index_links.proofs.Words.{link_length, link_mine, link_other, link_here, unlink_length, unlink_mine, unlink_other, unlink_here}
use Rattle.index_links.proofs.Splice.{Spliced, Room, Placed, Goes, chain_to}

-- a node and the link to a label below it
data Where (N : List ℕ) (p l w : ℕ) : Type 0 where
  at_first : w ≡ at p child_word → (0 < child N p → l ≤ label N (child N p)) → Where N p l w
  at_next : (b : ℕ) → Memᴰ b (children N p) → w ≡ at b next_word → label N b < l → (0 < next N b → l ≤ label N (next N b)) →
      Where N p l w

-- one more on a chain
one_more : {M : List ℕ} {h b : ℕ} → OnChain M h b → 0 < b → OnChain M h (next M b)
one_more here g = later g here
one_more (later k o) g = later k (one_more o g)

module _ {parts : ℕ} {N : List ℕ} (S : Shape parts N) where
  where_to : {p : ℕ} → p < size N → (l : ℕ) → Where N p l (link_to N p l)
  unfolding link_to
  where_to {p} h l = go (stands (siblings S) l 0 (the_children S h) (child_lives S h))
    where
      go : {r : ℕ} → Stands N l (child N p) (children N p) 0 r → Where N p l (cond (is_zero r) (at p child_word) (at r next_word))
      go (first f) = at_first refl f
      go (after {r = r} m k f) = rw (ne_eqb r 0 (λ e. omega (arith, used_pos (climb S) r (child_used S h r m)))) (at_next r m refl k f)

  -- a node with a next sibling is used, and so is that sibling
  before_used : (i : ℕ) → i < size N → 0 < next N i → Used N i
  before_used zero h g = absurd (omega (arith, S.root.no_next))
  before_used (suc i) h g = ⊎_elim
      (λ (z : label N (suc i) ≡ 0). absurd (omega (arith, S.free (suc i) (omega arith) h z 2 (omega arith))))
      (λ (k : 0 < label N (suc i)). record { inside = h; named = k })
      (zero_or (label N (suc i)))

  next_lives : (i : ℕ) → i < size N → Live N (next N i)
  next_lives i h g = (S.good i (before_used i h g)).sibling g

-- Two tables that differ in the words of f and in one link, word m of node q: in M it leads to f, in N to what comes behind f.
module _ (N M : List ℕ) {f : ℕ} (q m : ℕ) (some : 0 < m) (low : m < 3) (to-f : word M q m ≡ f) (to_next : word N q m ≡ next M f)
    (kept : (i k : ℕ) → k < words_per_node → i ≢ f → at i k ≢ at q m → word M i k ≡ word N i k) where
  goes : (i k : ℕ) → k < words_per_node → i ≢ f → (word M i k ≡ f → at i k ≡ at q m) → Goes M f (word M i k) (word N i k)
  goes i k h n o = ⊎_elim
      (λ (e : at i k ≡ at q m). inr (ap (λ (j : ℕ). get_or M j 0) e ∙ to-f, ap (λ (j : ℕ). get_or N j 0) e ∙ to_next))
      (λ (e : at i k ≢ at q m). inl (λ z. e (o z), sym (kept i k h n e)))
      (same_or (at i k) (at q m))

  splices : 0 < f → f < size N → length M ≡ length N → Zero N f → ((i : ℕ) → i < size N → i ≢ f → child M i ≡ f → at i 1 ≡ at q m) →
      ((i : ℕ) → i < size N → i ≢ f → next M i ≡ f → at i 2 ≡ at q m) → Spliced N M f
  splices g inside same_length zeros child-here next_here = record {
    pos = g;
    inside = inside;
    same_length = same_length;
    zero = zeros;
    parents = λ i n. kept i 0 (omega arith) n (omega (arith, some, low));
    labels = λ i n. kept i 3 (omega arith) n (omega (arith, low));
    depths = λ i n. kept i 4 (omega arith) n (omega (arith, low));
    tags = λ i n. kept i 5 (omega arith) n (omega (arith, low));
    tallies = λ i n. kept i 6 (omega arith) n (omega (arith, low));
    childs = λ i h n. goes i 1 (omega arith) n (child-here i h n);
    nexts = λ i h n. goes i 2 (omega arith) n (next_here i h n);
  }

module _ {parts : ℕ} {N : List ℕ} {p l f : ℕ} (S : Shape parts N) (R : Room parts N p l f) where
  abbrev M : List ℕ
  M = link N p l f

  abbrev bs : List ℕ
  bs = p ∷ 0 ∷ get_or N (link_to N p l) 0 ∷ l ∷ (depth N p + 1) ∷ 0 ∷ 0 ∷ []

  home : p < size N
  home = live_inside (climb S) p R.live

  free_ne : (i : ℕ) → Live N i → i ≢ f
  free_ne i v e =
      ⊎_elim (λ (z : i ≡ 0). omega (arith, R.pos)) (λ (g : 0 < i). omega (arith, (v g).named, ap (label N) e, R.zero 3 (omega arith)))
      (zero_or i)

  -- the link stands in word m of node q
  module _ (q m : ℕ) (w : link_to N p l ≡ at q m) (some : 0 < m) (low : m < 3) (ql : Live N q) where
    small : m < words_per_node
    small = omega arith

    qn : q ≢ f
    qn = free_ne q ql

    qin : q < size N
    qin = live_inside (climb S) q ql

    mine : (k : ℕ) → k < words_per_node → word M f k ≡ get_or bs k 0
    mine = link_mine N p l f q m R.inside w small qn qin

    other : (i k : ℕ) → k < words_per_node → i ≢ f → at i k ≢ at q m → word M i k ≡ word N i k
    other = link_other N p l f q m R.inside w small qn qin

    next_f : next M f ≡ get_or N (at q m) 0
    next_f = mine 2 (omega arith) ∙ ap (λ (j : ℕ). get_or N j 0) w

    here_is : word M q m ≡ f
    here_is = link_here N p l f q m R.inside w small qn qin

    -- a link of M to f stands in that word
    only : (i k : ℕ) → k < words_per_node → i ≢ f → Live N (word N i k) → word M i k ≡ f → at i k ≡ at q m
    only i k h n v e =
        ⊎_elim (λ z. z) (λ (z : at i k ≢ at q m). absurd (free_ne (word N i k) v (sym (other i k h n z) ∙ e))) (same_or (at i k) (at q m))

    only_child : (i : ℕ) → i < size N → i ≢ f → child M i ≡ f → at i 1 ≡ at q m
    only_child i h n = only i 1 (omega arith) n (S.head i h).first

    only_next : (i : ℕ) → i < size N → i ≢ f → next M i ≡ f → at i 2 ≡ at q m
    only_next i h n = only i 2 (omega arith) n (next_lives S i h)

    is_spliced : Spliced N M f
    is_spliced =
        splices N M q m some low here_is (sym next_f) other R.pos R.inside (link_length N p l f q m R.inside w small qn qin) R.zero
        only_child only_next

    -- where the node that comes behind is known, and that the chain comes to f
    is_placed : Live N (get_or N (at q m) 0) → (0 < get_or N (at q m) 0 → parent N (get_or N (at q m) 0) ≡ p) →
        (0 < get_or N (at q m) 0 → l < label N (get_or N (at q m) 0)) → ((i : ℕ) → at i 1 ≡ at q m → i ≡ p) →
        ((i : ℕ) → at i 2 ≡ at q m → Used N i × (parent N i ≡ p) × (label N i < l)) → OnChain M (child M p) f → Placed parts N M p l f
    is_placed nl nm nr cp np on = record {
      room = R;
      spliced = is_spliced;
      parent_f = mine 0 (omega arith);
      child_f = mine 1 (omega arith);
      label_f = mine 3 (omega arith);
      depth_f = mine 4 (omega arith);
      tag_f = mine 5 (omega arith);
      tally_f = mine 6 (omega arith);
      next_live = rw next_f nl;
      next_mine = rw next_f nm;
      next_more = rw next_f nr;
      child_to = λ i h n e. cp i (only_child i h n e);
      next_to = λ i h n e. np i (only_next i h n e);
      chained = on;
    }

  -- The law: a free node that is linked in takes its place among the children.
  pub placed : Placed parts N (link N p l f) p l f
  placed = by_where (where_to S home l)
    where
      more : (j : ℕ) → Used N j → parent N j ≡ p → l ≤ label N j → l < label N j
      more j u e h = omega (arith, with_missing S home l R.fresh j u e)

      by_where : Where N p l (link_to N p l) → Placed parts N (link N p l f) p l f
      by_where (at_first w k) =
          let c : (i : ℕ) → at i 1 ≡ at p 1 → i ≡ p = λ i e. omega arith in
          is_placed p 1 w (omega arith) (omega arith) R.live (S.head p home).first (S.head p home).back
          (λ g. more (child N p) ((S.head p home).first g) ((S.head p home).back g) (k g)) c (λ i e. absurd (omega arith))
          (subst (λ (x : ℕ). OnChain M x f) (sym (here_is p 1 w (omega arith) (omega arith) R.live)) here)
      by_where (at_next b m w k r) =
          let u : Used N b = child_used S home b m in
          let e : parent N b ≡ p = child_mine S home b m in
          let g = S.good b u in
          let bl : Live N b = λ _. u in
          let bn : b ≢ f = free_ne b bl in
          let np : (i : ℕ) → at i 2 ≡ at b 2 → Used N i × (parent N i ≡ p) × (label N i < l) = λ i q. let z : i ≡ b = omega arith in
          rw z (u, e, k) in
          let x : Spliced N M f = is_spliced b 2 w (omega arith) (omega arith) bl in
          let ob : OnChain N (child N p) b = subst (λ (q : ℕ). OnChain N (child N q) b) e g.chained in
          let om : OnChain M (child M p) b = chain_to x (child M p) (child N p) b (λ j v. (S.good j v).sibling) (S.head p home).first
          (x.childs p home (free_ne p R.live)) ob in
          let on : OnChain M (child M p) f = subst (OnChain M (child M p)) (here_is b 2 w (omega arith) (omega arith) bl)
          (one_more om (used_pos (climb S) b u)) in
          is_placed b 2 w (omega arith) (omega arith) bl g.sibling (λ h. g.same h ∙ e) (λ h. more (next N b) (g.sibling h) (g.same h ∙ e) (r h))
          (λ i q. absurd (omega arith)) np on

-- Unlinking
module _ {parts : ℕ} {M : List ℕ} {f : ℕ} (S : Shape parts M) (u : Used M f) where
  abbrev Q : ℕ
  Q = parent M f

  gf : 0 < f
  gf = used_pos (climb S) f u

  qlive : Live M Q
  qlive = (S.good f u).above

  qhome : Q < size M
  qhome = live_inside (climb S) Q qlive

  abbrev B : ℕ
  B = last_below M (label M f) 0 (children M Q)

  is_first_lem : child M Q ≡ f → B ≡ 0
  is_first_lem e =
      ap (λ (x : ℕ). last_below M (label M x) 0 (children M Q)) (sym e) ∙ stands_first (siblings S) 0 (the_children S qhome)
      (child_lives S qhome)

  before_f : (i : ℕ) → i < size M → next M i ≡ f → Used M i
  before_f i h e = before_used S i h (omega (arith, gf))

  is_next : (i : ℕ) → i < size M → next M i ≡ f → B ≡ i
  is_next i h e =
      let v : Used M i = before_f i h e in
      let g : 0 < next M i = omega (arith, gf) in
      let q : parent M i ≡ Q = sym ((S.good i v).same g) ∙ ap (parent M) e in
      ap (λ (x : ℕ). last_below M (label M x) 0 (children M Q)) (sym e) ∙ stands_after (siblings S) 0 i (the_children S qhome)
      (child_lives S qhome) (mine_child S qhome i v q) g

  child_of : (i : ℕ) → i < size M → child M i ≡ f → i ≡ Q
  child_of i h e = sym ((S.head i h).back (omega (arith, gf))) ∙ ap (parent M) e

  module _ (q m : ℕ) (w : link_to M (parent M f) (label M f) ≡ at q m) (some : 0 < m) (low : m < 3) (qn : q ≢ f) (qin : q < size M)
      (here-f : word M q m ≡ f) (no_child : (i : ℕ) → i < size M → child M i ≡ f → at i 1 ≡ at q m)
      (no_next : (i : ℕ) → i < size M → next M i ≡ f → at i 2 ≡ at q m) where
    tiny : m < words_per_node
    tiny = omega arith

    is_unlinked : Spliced (unlink M f) M f
    is_unlinked =
        let s : length (unlink M f) ≡ length M = unlink_length M f q m u.inside w tiny qn qin in
        splices (unlink M f) M q m some low here-f (unlink_here M f q m u.inside w tiny qn qin)
        (λ i k h n o. sym (unlink_other M f q m u.inside w tiny qn qin i k h n o)) gf (omega (arith, u.inside)) (sym s)
        (unlink_mine M f q m u.inside w tiny qn qin) (λ i h _. no_child i (omega arith)) (λ i h _. no_next i (omega arith))

  -- The law: a node that is unlinked is off its chain.
  pub unspliced : Spliced (unlink M f) M f
  unspliced = by_led (led f (the_children S qhome) (mine_child S qhome f u refl))
    where
      by_led : Led M (child M Q) (children M Q) f → Spliced (unlink M f) M f
      by_led (at_start e) =
          let z : B ≡ 0 = is_first_lem e in
          let qn : Q ≢ f = λ k. omega (arith, (S.good f u).deeper, ap (depth M) k) in
          is_unlinked Q 1 (sym (word_first Q B z ∙ word_is_link M Q (label M f) B refl)) (omega arith) (omega arith) qn qhome e
          (λ i h k. ap (λ (j : ℕ). at j 1) (child_of i h k))
          (λ i h k. absurd (omega (arith, is_next i h k, used_pos (climb S) i (before_f i h k))))
      by_led (behind b m e) =
          let v : Used M b = child_used S qhome b m in
          let z : B ≡ b = is_next b v.inside e in
          let gb : 0 < b = used_pos (climb S) b v in
          let bn : b ≢ f = λ k. omega (arith, (S.good b v).greater (omega (arith, gf)), ap (label M) e, ap (label M) k) in
          let w : link_to M Q (label M f) ≡ at b 2 =
          sym (word_after Q B (λ k. omega arith) ∙ word_is_link M Q (label M f) B refl) ∙ ap (λ (j : ℕ). at j 2) z in
          is_unlinked b 2 w (omega arith) (omega arith) bn v.inside e
          (λ i h k. absurd (omega (arith, is_first_lem (ap (child M) (sym (child_of i h k)) ∙ k))))
          (λ i h k. ap (λ (j : ℕ). at j 2) (sym (is_next i h k) ∙ z))
