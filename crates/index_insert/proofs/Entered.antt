-- A row is entered: the table keeps its shape, has the row's node, and takes as many free nodes as the row lacked.
use mathlib.Core.Path.{◌≡◌, refl, sym, ap, subst, ◌∙◌}
use mathlib.Core.Logic.{⊎_elim, ◌≢◌}
use mathlib.Core.List.{List, [], ◌∷◌, ◌++◌, append_assoc, append-nil}
use Prim.Native.Nat.{ℕ, suc, ◌+◌, ◌≤◌, ◌<◌}
use native.Mathlib.Omega.{arith}
use lib.ListN.{length, get_or, set, length-append, get_or-append}
use lib.Seq.{get_or_at}
use borrow.Author.Tests.{eq-eqb, ne_eqb}
use Rattle.kits.specs.Inner.{GoodRow}
use Rattle.kits.proofs.Inclusion.{count_append, count_same}
use Rattle.nodes.specs.Nodes.{at, tag_word, parent, child, label, depth, tag, tally, size, row_of, free_nodes}
use Rattle.nodes.specs.Inner.{Used, Live, Shape}
use Rattle.nodes.proofs.Lists.{zero_or, same_or}
use Rattle.nodes.proofs.Rows.{climb, used_pos, live_inside, row_length, row_step}
use Rattle.nodes.proofs.Chain.{ended}
use Rattle.index_links.specs.Links.{child_with, link}
use Rattle.index_links.proofs.Chains.{with_found, with_row, with_lone}
use Rattle.index_links.proofs.Splice.{Pending, Spliced, Room, Placed, placed_shape, placed_tags, placed_tallies, placed_pending}
use Rattle.index_links.proofs.Splice.{new_used, new_row, rows_same, used_to, same_size}
use Rattle.index_links.proofs.Alike.{Alike, alike_label, alike_used, alike_live, alike_row}
use Rattle.index_links.proofs.Linked.{placed}
use Rattle.index_insert.specs.Enter.{lowest_free, enter_below, lacks}
use Rattle.index_insert.specs.Inner.{Enters}
use Rattle.index_links.proofs.Retag as T
use Rattle.index_insert.proofs.Free.{Lowest, lowest, one_fewer, as_many}

-- One step of entering: a child that is there, and one that is missing
module _ (N : List ℕ) (p l : ℕ) (ls : List ℕ) where
  pub enter_old : (t : ℕ) → child_with N p l ≢ 0 → enter_below N p (l ∷ ls) t ≡ enter_below N (child_with N p l) ls t
  unfolding enter_below
  enter_old t n = rw (ne_eqb (child_with N p l) 0 n)

  pub enter_new : (t : ℕ) → child_with N p l ≡ 0 → enter_below N p (l ∷ ls) t ≡ enter_below (link N p l (lowest_free N)) (lowest_free N) ls t
  unfolding enter_below
  enter_new t z = rw (eq-eqb (child_with N p l) 0 z)

  pub lacks_old : child_with N p l ≢ 0 → lacks N p (l ∷ ls) ≡ lacks N (child_with N p l) ls
  unfolding lacks
  lacks_old n = rw (ne_eqb (child_with N p l) 0 n)

  pub lacks_new : child_with N p l ≡ 0 → lacks N p (l ∷ ls) ≡ suc (length ls)
  unfolding lacks
  lacks_new z = rw (eq-eqb (child_with N p l) 0 z)

pub lacks_none : (N : List ℕ) (p : ℕ) → lacks N p [] ≡ 0
unfolding lacks
lacks_none N p = refl

pub lacks_most : (N : List ℕ) (p : ℕ) (ls : List ℕ) → lacks N p ls ≤ length ls
lacks_most N p [] = omega (arith, lacks_none N p)
lacks_most N p (l ∷ ls) = ⊎_elim
    (λ (z : child_with N p l ≡ 0). omega (arith, lacks_new N p l ls z))
    (λ (n : child_with N p l ≢ 0). omega (arith, lacks_old N p l ls n, lacks_most N (child_with N p l) ls))
    (same_or (child_with N p l) 0)

-- a node without children lacks all of a row
pub lacks_lone : {parts : ℕ} {N : List ℕ} → Shape parts N → (p : ℕ) → p < size N → child N p ≡ 0 → (ls : List ℕ) → lacks N p ls ≡ length ls
lacks_lone {N = N} S p h z [] = lacks_none N p
lacks_lone {N = N} S p h z (l ∷ ls) = lacks_new N p l ls (with_lone S h l z)

-- where all of a row is lacking, its first label is
pub first_lacking : (N : List ℕ) (p l : ℕ) (ls : List ℕ) → lacks N p (l ∷ ls) ≡ suc (length ls) → child_with N p l ≡ 0
first_lacking N p l ls e = ⊎_elim
    (λ (z : child_with N p l ≡ 0). z)
    (λ (n : child_with N p l ≢ 0). absurd (omega (arith, lacks_old N p l ls n, lacks_most N (child_with N p l) ls)))
    (same_or (child_with N p l) 0)

-- The child that is there
module _ {parts : ℕ} {N : List ℕ} {p l : ℕ} {ls : List ℕ} (E : Enters parts N p (l ∷ ls)) (n : child_with N p l ≢ 0) where
  abbrev S : Shape parts N
  S = E.shape

  abbrev c : ℕ
  c = child_with N p l

  old_is : Used N c × (parent N c ≡ p) × (label N c ≡ l)
  old_is = with_found S (live_inside (climb S) p E.live) l c refl (omega arith)

  old_row : row_of N c ++ ls ≡ row_of N p ++ (l ∷ ls)
  old_row =
      ap (λ (r : List ℕ). r ++ ls) (with_row S (live_inside (climb S) p E.live) l c refl (omega arith)) ∙ append_assoc (row_of N p) (l ∷ []) ls

  pub old_enters : Enters parts N (child_with N p l) ls
  old_enters = record {
    shape = S;
    live = λ _. old_is.0;
    row = subst (GoodRow parts) (sym old_row) E.row;
    room = omega (arith, lacks_old N p l ls n, E.room);
  }

-- The child that is missing
module _ {parts : ℕ} {N : List ℕ} {p l : ℕ} {ls : List ℕ} (E : Enters parts N p (l ∷ ls)) (z : child_with N p l ≡ 0) where
  abbrev SN : Shape parts N
  SN = E.shape

  abbrev f : ℕ
  f = lowest_free N

  abbrev r : List ℕ
  r = row_of N p

  pub is_lowest : Lowest N (lowest_free N)
  is_lowest = lowest N (omega (arith, lacks_new N p l ls z, E.room))

  len : length r ≡ depth N p
  len = row_length (climb SN) p E.live

  all : length (r ++ (l ∷ ls)) ≡ depth N p + suc (length ls)
  all = length-append r (l ∷ ls) ∙ ap (λ (k : ℕ). k + suc (length ls)) len

  here_l : get_or (r ++ (l ∷ ls)) (depth N p) 0 ≡ l
  here_l = get_or_at r l ls 0 (depth N p) len

  rises : label N p ≤ l
  rises = ⊎_elim
      (λ (e : p ≡ 0). omega (arith, ap (label N) e, SN.root.no_label))
      (λ (g : 0 < p).
      let u : Used N p = E.live g in
      let d : depth N p ≡ depth N (parent N p) + 1 = (SN.good p u).deeper in
      let k : ℕ = depth N (parent N p) in
      let a : get_or (r ++ (l ∷ ls)) (depth N (parent N p)) 0 ≡ get_or r (depth N (parent N p)) 0 = get_or-append r (l ∷ ls) 0
      (depth N (parent N p)) (omega (arith, len)) in
      let b : get_or r (depth N (parent N p)) 0 ≡ label N p = ap (λ (x : List ℕ). get_or x (depth N (parent N p)) 0) (row_step (climb SN) p u)
      ∙ get_or_at (row_of N (parent N p)) (label N p) [] 0 (depth N (parent N p)) (row_length (climb SN) (parent N p) (SN.good p u).above) in
      omega (arith, a, b, here_l, ap (λ (x : ℕ). get_or (r ++ (l ∷ ls)) x 0) d, E.row.rises (depth N (parent N p)) (omega (arith, all))))
      (zero_or p)

  room : Room parts N p l (lowest_free N)
  room = record {
    pos = is_lowest.pos;
    inside = is_lowest.inside;
    zero = is_lowest.zero;
    live = E.live;
    named = omega (arith, here_l, E.row.some_place (depth N p) (omega (arith, all)));
    place = omega (arith, here_l, E.row.a_place (depth N p) (omega (arith, all)));
    rising = rises;
    deep = omega (arith, all, E.row.short);
    few = omega (arith, E.row.few l, count_append l r (l ∷ ls), count_same l ls);
    fresh = z;
  }

  pub is_placed : Placed parts N (link N p l (lowest_free N)) p l (lowest_free N)
  is_placed = placed SN room

  abbrev L : List ℕ
  L = link N p l (lowest_free N)

  pub new_shape : Shape parts (link N p l (lowest_free N))
  new_shape = placed_shape SN is_placed

  f_live : Live L f
  f_live _ = new_used SN is_placed

  -- one node is taken
  pub took_one : length (free_nodes N) ≡ suc (length (free_nodes (link N p l (lowest_free N))))
  took_one =
      one_fewer SN new_shape (same_size is_placed.spliced) is_lowest.inside is_lowest.free (new_used SN is_placed).named
      is_placed.spliced.labels

  pub new_lacks : lacks (link N p l (lowest_free N)) (lowest_free N) ls ≡ length ls
  new_lacks = lacks_lone new_shape f (new_used SN is_placed).inside is_placed.child_f ls

  pub taken_row : row_of (link N p l (lowest_free N)) (lowest_free N) ++ ls ≡ row_of N p ++ (l ∷ ls)
  taken_row = ap (λ (x : List ℕ). x ++ ls) (new_row SN is_placed) ∙ append_assoc (row_of N p) (l ∷ []) ls

  pub new_enters : Enters parts (link N p l (lowest_free N)) (lowest_free N) ls
  new_enters = record {
    shape = new_shape;
    live = f_live;
    row = subst (GoodRow parts) (sym taken_row) E.row;
    room = omega (arith, took_one, new_lacks, lacks_new N p l ls z, E.room);
  }

-- M is N with the row r entered, with the tag t: `new` nodes were taken
pub record Entered (parts : ℕ) (N M : List ℕ) (p : ℕ) (r : List ℕ) (t new : ℕ) : Type 0 where
  pub same_length : length M ≡ length N
  pub shape : Shape parts M
  pub end : ℕ
  pub live : Live M end
  pub is : row_of M end ≡ r
  pub has : tag M end ≡ t
  pub tags : (i : ℕ) → i ≢ end → tag M i ≡ tag N i
  pub tallies : (i : ℕ) → tally M i ≡ tally N i
  pub used : (i : ℕ) → Used N i → Used M i
  pub rows : (i : ℕ) → Live N i → row_of M i ≡ row_of N i
  pub leaf : 0 < t → Pending N p → (i : ℕ) → Used M i → child M i ≡ 0 → 0 < tag M i
  pub taken : length (free_nodes N) ≡ length (free_nodes M) + new

tag_set : {parts : ℕ} {N : List ℕ} (p t : ℕ) → Shape parts N → Live N p → Entered parts N (set N (at p tag_word) t) p (row_of N p) t 0
tag_set {N = N} p t S l =
    let M : List ℕ = set N (at p tag_word) t in
    let h : p < size N = live_inside (climb S) p l in
    let A : Alike N M = T.retag_alike N p t in
    record {
      same_length = A.lengths;
      shape = T.retag_shape N p t S l;
      end = p;
      live = alike_live A p l;
      is = alike_row A p;
      has = T.retag_here N p t h;
      tags = T.retag_other N p t;
      tallies = T.retag_tally N p t;
      used = alike_used A;
      rows = λ i _. alike_row A i;
      leaf = λ g P i u c. ⊎_elim
          (λ (e : i ≡ p). omega (arith, ap (tag M) e, T.retag_here N p t h))
          (λ (n : i ≢ p). T.retag_pending N p t P i u n c)
          (same_or i p);
      taken = omega (arith, ap length (as_many S (T.retag_shape N p t S l) (omega (arith, A.lengths)) (alike_label A)));
    }

-- through a child that is there
through_old : {parts : ℕ} {N M : List ℕ} {p l t new : ℕ} {ls : List ℕ} (E : Enters parts N p (l ∷ ls)) (n : child_with N p l ≢ 0) →
    Entered parts N M (child_with N p l) (row_of N (child_with N p l) ++ ls) t new → Entered parts N M p (row_of N p ++ (l ∷ ls)) t new
through_old {parts = parts} {N = N} {p = p} {l = l} {ls = ls} E n y =
    let S : Shape parts N = E.shape in
    let is : Used N (child_with N p l) × (parent N (child_with N p l) ≡ p) × (label N (child_with N p l) ≡ l) = old_is E n in
    record {
      same_length = y.same_length;
      shape = y.shape;
      end = y.end;
      live = y.live;
      is = y.is ∙ old_row E n;
      has = y.has;
      tags = y.tags;
      tallies = y.tallies;
      used = y.used;
      rows = y.rows;
      leaf = λ g P. y.leaf g (λ i u _ c. ⊎_elim
          (λ (e : i ≡ p). absurd
          (ended (S.good (child_with N p l) is.0).chained (ap (child N) (is.1 ∙ sym e) ∙ c)
          (used_pos (climb S) (child_with N p l) is.0)))
          (λ (m : i ≢ p). P i u m c)
          (same_or i p));
      taken = y.taken;
    }

-- through a node that is taken
through_new : {parts : ℕ} {N M : List ℕ} {p l t new : ℕ} {ls : List ℕ} (E : Enters parts N p (l ∷ ls)) (z : child_with N p l ≡ 0) →
    Entered parts (link N p l (lowest_free N)) M (lowest_free N) (row_of (link N p l (lowest_free N)) (lowest_free N) ++ ls) t new →
    Entered parts N M p (row_of N p ++ (l ∷ ls)) t (suc new)
through_new {parts = parts} {N = N} {p = p} {l = l} {ls = ls} E z y =
    let P : Placed parts N (link N p l (lowest_free N)) p l (lowest_free N) = is_placed E z in
    let X : Spliced N (link N p l (lowest_free N)) (lowest_free N) = P.spliced in
    let S : Shape parts N = E.shape in
    record {
      same_length = y.same_length ∙ X.same_length;
      shape = y.shape;
      end = y.end;
      live = y.live;
      is = y.is ∙ taken_row E z;
      has = y.has;
      tags = λ i n. y.tags i n ∙ placed_tags S P i;
      tallies = λ i. y.tallies i ∙ placed_tallies S P i;
      used = λ i u. y.used i (used_to X i u);
      rows = λ i v. y.rows i (λ g. used_to X i (v g)) ∙ rows_same X (climb S) i v;
      leaf = λ g A. y.leaf g (placed_pending S P A);
      taken = omega (arith, took_one E z, y.taken);
    }

-- the same, of the definitions
enter_end : {parts : ℕ} (N : List ℕ) (p t : ℕ) → Enters parts N p [] → Entered parts N (enter_below N p [] t) p (row_of N p ++ []) t (lacks N p [])
unfolding enter_below lacks
enter_end N p t E = rw (append-nil (row_of N p)) (tag_set p t E.shape E.live)

by_old : {parts : ℕ} {N : List ℕ} {p l t : ℕ} {ls : List ℕ} (E : Enters parts N p (l ∷ ls)) (n : child_with N p l ≢ 0) →
    Entered parts N (enter_below N (child_with N p l) ls t) (child_with N p l) (row_of N (child_with N p l) ++ ls) t (lacks N (child_with N p l) ls) →
    Entered parts N (enter_below N p (l ∷ ls) t) p (row_of N p ++ (l ∷ ls)) t (lacks N p (l ∷ ls))
by_old {N = N} {p = p} {l = l} {t = t} {ls = ls} E n y = rw (enter_old N p l ls t n, lacks_old N p l ls n) (through_old E n y)

by_new : {parts : ℕ} {N : List ℕ} {p l t : ℕ} {ls : List ℕ} (E : Enters parts N p (l ∷ ls)) (z : child_with N p l ≡ 0) →
    Entered parts (link N p l (lowest_free N)) (enter_below (link N p l (lowest_free N)) (lowest_free N) ls t) (lowest_free N)
    (row_of (link N p l (lowest_free N)) (lowest_free N) ++ ls) t (lacks (link N p l (lowest_free N)) (lowest_free N) ls) →
    Entered parts N (enter_below N p (l ∷ ls) t) p (row_of N p ++ (l ∷ ls)) t (lacks N p (l ∷ ls))
by_new {N = N} {p = p} {l = l} {t = t} {ls = ls} E z y =
    rw (enter_new N p l ls t z, lacks_new N p l ls z, ← new_lacks E z) (through_new E z y)

-- The law of entering a row below a node
pub entered : {parts : ℕ} (ls N : List ℕ) (p t : ℕ) → Enters parts N p ls →
    Entered parts N (enter_below N p ls t) p (row_of N p ++ ls) t (lacks N p ls)
entered [] N p t E = enter_end N p t E
entered (l ∷ ls) N p t E = ⊎_elim
    (λ (z : child_with N p l ≡ 0). by_new E z (entered ls (link N p l (lowest_free N)) (lowest_free N) t (new_enters E z)))
    (λ (n : child_with N p l ≢ 0). by_old E n (entered ls N (child_with N p l) t (old_enters E n)))
    (same_or (child_with N p l) 0)
