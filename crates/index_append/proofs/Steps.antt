-- A node linked in behind all others: the nodes used are still the first ones, and the new node is at the edge. And the tag at the end.
use mathlib.Core.Path.{◌≡◌, refl, sym, ap, subst, ◌∙◌}
use mathlib.Core.Logic.{⊎_elim, ◌≢◌}
use mathlib.Core.List.{List, [], ◌∷◌, ◌++◌, append_assoc, append-nil}
use Prim.Native.Nat.{ℕ, ◌+◌, ◌-◌, ◌≤◌, ◌<◌}
use native.Mathlib.Numerals.{add-one}
use native.Mathlib.Omega.{arith}
use lib.ListN.{length, get_or, drop, set, drop_of_length-le}
use lib.Seq.{drop-cons}
use Rattle.ground.specs.Lists.{from, first_or}
use Rattle.kits.specs.Kits.{most_place}
use Rattle.nodes.specs.Nodes.{at, tag_word, parent, child, next, depth, size, nodes_of, is_free, row_of}
use Rattle.nodes.specs.Inner.{Shape}
use Rattle.nodes.proofs.Lists.{zero_or, same_or}
use Rattle.nodes.proofs.Rows.{climb, live_inside}
use Rattle.index_links.specs.Links.{link}
use Rattle.index_links.specs.Inner.{LinksBehind}
use Rattle.index_links.proofs.Splice.{Spliced, Placed, new_used, new_row, used_to, used_ne, same_size}
use Rattle.index_insert.specs.Enter.{lowest_free, enter_below}
use Rattle.index_insert.specs.Inner.{Enters}
use Rattle.index_insert.proofs.Free.{first_skip}
use Rattle.index_insert.proofs.Entered.{is_placed}
use Rattle.index_insert.proofs.Growing.{Growing, grow_links, grow_next, grow_end}
use Rattle.index_links.proofs.Alike.{Alike, alike_size, alike_parent, alike_child, alike_next, alike_label, alike_used, alike_row}
use Rattle.index_links.proofs.Retag.{retag_alike}
use Rattle.index_append.specs.Inner.{Packed, Edge, top, below, LastEntered, LastChild, Appends}
use Rattle.index_append.proofs.Places.{packed_passed, packed_lowest, behind_all, behind_new, behind_last, behind_inside}

-- One node more
module _ {N L : List ℕ} {p l f : ℕ} (S : Shape most_place N) (P : Placed most_place N L p l f) where
  abbrev X : Spliced N L f
  X = P.spliced

  pub placed_packed : Packed N f → Packed L (f + 1)
  placed_packed K = record {
    some = omega arith;
    few = omega (arith, X.inside, same_size X);
    used = λ i g h. ⊎_elim
        (λ (e : i ≡ f). rw e (new_used S P).named)
        (λ (n : i ≢ f). omega (arith, X.labels i n, K.used i g (omega arith)))
        (same_or i f);
    free = λ i g h. let n : i ≢ f = omega arith in X.labels i n ∙ K.free i (omega arith) (omega (arith, same_size X));
  }

  -- above p no link has changed
  pub placed_edge : {i : ℕ} → Edge N i → depth N i ≤ depth N p → Edge L i
  placed_edge top h = top
  placed_edge (below {i = i} u z e) h =
      let n : i ≢ f = used_ne X i u in
      let d : depth N i ≡ depth N (parent N i) + 1 = (S.good i u).deeper in
      below (used_to X i u)
      (⊎_elim
      (λ (s : (next L i ≢ f) × (next N i ≡ next L i)). sym s.1 ∙ z)
      (λ (s : (next L i ≡ f) × (next N i ≡ next L f)). absurd (omega (arith, ap (depth N) (P.next_to i u.inside n s.0).1)))
      (X.nexts i u.inside n))
      (subst (Edge L) (sym (X.parents i n)) (placed_edge e (omega arith)))

  pub placed_new : {b : ℕ} → LastChild N p b l → Edge N p → Edge L f
  placed_new {b} H E =
      below (new_used S P)
      (⊎_elim
      (λ (z : next L f ≡ 0). z)
      (λ (g : 0 < next L f).
      let home : p < size N = live_inside (climb S) p P.room.live in
      absurd (omega (arith, P.next_more g, behind_all S home H (next L f) (P.next_live g) (P.next_mine g))))
      (zero_or (next L f)))
      (subst (Edge L) (sym P.parent_f) (placed_edge E (omega arith)))

-- What growing behind all others keeps, with d labels entered
pub record Appending (N₀ us : List ℕ) (p₀ t : ℕ) (N : List ℕ) (p b d f : ℕ) : Type 0 where
  pub growing : Growing N₀ us p₀ t N p f d
  pub packed : Packed N f
  pub edge : Edge N p
  pub is : row_of N p ++ drop d us ≡ row_of N₀ p₀ ++ us
  pub behind : LastChild N p b (get_or us d 0)
  pub left : 0 < b → d < length us
  pub home : b ≡ 0 → p ≡ f - 1

pub append_start : {N us : List ℕ} {p b n t : ℕ} → Appends N us p b n → Appending N us p t N p b 0 n
append_start A = record {
  growing = record {
    same_length = refl;
    grows = A.grows;
    same = refl;
    start = A.packed.few;
    passed = packed_passed A.grows.enters.shape A.packed;
    home = A.grows.enters.live;
    row = refl;
  };
  packed = A.packed;
  edge = A.edge;
  is = refl;
  behind = A.behind;
  left = A.left;
  home = A.home;
}

module _ {N₀ us N : List ℕ} {p₀ t p b d f : ℕ} (A : Appending N₀ us p₀ t N p b d f) (h : d < length us) where
  abbrev l : ℕ
  l = get_or us d 0

  abbrev S : Shape most_place N
  S = A.growing.grows.enters.shape

  inside : p < size N
  inside = live_inside (climb S) p A.growing.grows.enters.live

  lowest : lowest_free N ≡ f
  lowest = packed_lowest S A.packed

  free : f ≡ first_or (size N) (is_free N) (from f (size N - f))
  unfolding lowest_free nodes_of
  free = sym lowest ∙ sym (first_skip (is_free N) (size N) f A.growing.start A.growing.passed)

  cut : drop d us ≡ l ∷ drop (d + 1) us
  cut = rw add-one (drop-cons us d 0 h)

  now : Enters most_place N p (l ∷ drop (d + 1) us)
  now = subst (Enters most_place N p) cut A.growing.grows.enters

  the_place : Placed most_place N (link N p l f) p l f
  the_place =
      subst (λ (x : ℕ). Placed most_place N (link N p (get_or us d 0) x) p (get_or us d 0) x) lowest
      (is_placed now (behind_new S inside A.behind))

  pub append_links : LinksBehind N p b (get_or us d 0) f
  append_links = record {
    links = grow_links A.growing h free;
    inside = behind_inside S inside A.behind;
    last = behind_last S inside A.behind;
  }

  pub append_next : {L : List ℕ} → L ≡ link N p (get_or us d 0) f → Appending N₀ us p₀ t L f 0 (d + 1) (f + 1)
  append_next {L} k =
      let P : Placed most_place N L p (get_or us d 0) f = rw k the_place in
      let G : Growing N₀ us p₀ t L f (f + 1) (d + 1) = grow_next A.growing h free k in
      record {
        growing = G;
        packed = placed_packed S P A.packed;
        edge = placed_new S P A.behind A.edge;
        is =
            ap (λ (r : List ℕ). r ++ drop (d + 1) us) (new_row S P) ∙ append_assoc (row_of N p) (get_or us d 0 ∷ []) (drop (d + 1) us)
            ∙ ap (λ (r : List ℕ). row_of N p ++ r) (sym cut) ∙ A.is;
        behind = record {
          none = λ _. P.child_f;
          used = λ g. absurd (omega arith);
          mine = λ g. absurd (omega arith);
          last = λ g. absurd (omega arith);
          less = λ g. absurd (omega arith);
        };
        left = λ g. absurd (omega arith);
        home = λ _. omega arith;
      }

-- Tags and numbers of kits are no part of it
module _ {N M : List ℕ} (A : Alike N M) where
  alike_edge : {i : ℕ} → Edge N i → Edge M i
  alike_edge top = top
  alike_edge (below {i = i} u z e) =
      below (alike_used A i u) (alike_next A i ∙ z) (subst (Edge M) (sym (alike_parent A i)) (alike_edge e))

  pub alike_last : {n : ℕ} {row : List ℕ} → LastEntered N n row → LastEntered M n row
  alike_last {n} L =
      let K : Packed N n = L.packed in
      record {
        packed = record {
          some = K.some;
          few = omega (arith, K.few, alike_size A);
          used = λ i g k. omega (arith, K.used i g k, alike_label A i);
          free = λ i g k. alike_label A i ∙ K.free i g (omega (arith, alike_size A));
        };
        edge = alike_edge L.edge;
        lone = alike_child A (n - 1) ∙ L.lone;
        is = alike_row A (n - 1) ∙ L.is;
      }

module _ {N₀ us N : List ℕ} {p₀ t p b d f : ℕ} (A : Appending N₀ us p₀ t N p b d f) (h : length us ≤ d) where
  none_behind : b ≡ 0
  none_behind = ⊎_elim (λ (z : b ≡ 0). z) (λ (g : 0 < b). absurd (omega (arith, A.left g))) (zero_or b)

  at_end : p ≡ f - 1
  at_end = A.home none_behind

  row_done : row_of N p ≡ row_of N₀ p₀ ++ us
  row_done = sym (append-nil (row_of N p)) ∙ ap (λ (r : List ℕ). row_of N p ++ r) (sym (drop_of_length-le us h)) ∙ A.is

  untagged_last : LastEntered N f (row_of N₀ p₀ ++ us)
  untagged_last = record {
    packed = A.packed;
    edge = subst (Edge N) at_end A.edge;
    lone = subst (λ (x : ℕ). child N x ≡ 0) at_end (A.behind.none none_behind);
    is = subst (λ (x : ℕ). row_of N x ≡ row_of N₀ p₀ ++ us) at_end row_done;
  }

  pub append_end : {M : List ℕ} → M ≡ set N (at p tag_word) t → (M ≡ enter_below N₀ p₀ us t) × LastEntered M f (row_of N₀ p₀ ++ us)
  append_end {M} e = (
    grow_end A.growing h e,
    subst (λ (x : List ℕ). LastEntered x f (row_of N₀ p₀ ++ us)) (sym e) (alike_last (retag_alike N p t) untagged_last),
  )
