-- What growing keeps from node to node: what is left to enter leads to the same table.
use mathlib.Core.Path.{◌≡◌, refl, sym, ap, subst, ◌∙◌}
use mathlib.Core.Logic.{⊎_elim, ◌≢◌}
use mathlib.Core.Bool.{false}
use mathlib.Core.List.{List, ◌∷◌, ◌++◌, append-nil}
use Prim.Native.Nat.{ℕ, ◌+◌, ◌-◌, ◌≤◌, ◌<◌}
use native.Mathlib.Numerals.{add-one}
use native.Mathlib.Omega.{arith}
use lib.ListN.{length, get_or, drop, set, drop_of_length-le}
use lib.Seq.{drop-cons}
use Rattle.ground.specs.Lists.{from, first_or}
use Rattle.ground.proofs.Laws.{first_from_is}
use Rattle.kits.specs.Kits.{most_place}
use Rattle.nodes.specs.Nodes.{at, tag_word, size, nodes_of, is_free, row_of}
use Rattle.nodes.specs.Inner.{Live, Shape}
use Rattle.nodes.proofs.Lists.{same_or}
use Rattle.nodes.proofs.Rows.{climb, live_inside}
use Rattle.index_links.specs.Links.{child_with, node_of, link}
use Rattle.index_links.specs.Inner.{LinksTo}
use Rattle.index_links.proofs.Splice.{Placed, same_size, new_used, live_to, rows_same}
use Rattle.index_links.proofs.Alike.{Alike, alike_live, alike_row}
use Rattle.index_links.proofs.Retag.{retag_alike, retag_shape}
use Rattle.index_insert.specs.Enter.{lowest_free, enter_below}
use Rattle.index_insert.specs.Inner.{Enters, Grows}
use Rattle.index_insert.proofs.Free.{first_skip, used_not_free, free_alike}
use Rattle.index_insert.proofs.Entered.{enter_new, first_lacking, is_lowest, is_placed, new_shape, new_enters, new_lacks, taken_row}
use Rattle.index_insert.proofs.Ends.{node_of_row}

pub record Growing (N₀ us : List ℕ) (p₀ t : ℕ) (N : List ℕ) (p a d : ℕ) : Type 0 where
  pub same_length : length N ≡ length N₀
  pub grows : Grows N p (drop d us)
  pub same : enter_below N p (drop d us) t ≡ enter_below N₀ p₀ us t
  pub start : a ≤ size N
  pub passed : (i : ℕ) → i < a → is_free N i ≡ false
  pub home : Live N p₀
  pub row : row_of N p ++ drop d us ≡ row_of N p₀ ++ us

pub grow_start : {N us : List ℕ} {p t f : ℕ} → Grows N p us → f ≡ lowest_free N → Growing N us p t N p f 0
unfolding lowest_free nodes_of
grow_start {N = N} G e =
    let F = first_from_is (is_free N) 0 (size N) (size N) (omega arith) in
    rw e (record {
      same_length = refl;
      grows = G;
      same = refl;
      start = F.high;
      passed = λ i h. F.passed i (omega arith) h;
      home = G.enters.live;
      row = refl;
    })

module _ {N₀ us N : List ℕ} {p₀ t p a d f : ℕ} (G : Growing N₀ us p₀ t N p a d) (h : d < length us)
    (e : f ≡ first_or (size N) (is_free N) (from a (size N - a))) where
  abbrev l : ℕ
  l = get_or us d 0

  cut : drop d us ≡ l ∷ drop (d + 1) us
  cut = rw add-one (drop-cons us d 0 h)

  now : Grows N p (l ∷ drop (d + 1) us)
  now = subst (Grows N p) cut G.grows

  new : child_with N p l ≡ 0
  new = first_lacking N p l (drop (d + 1) us) now.missing

  pub is_f : f ≡ lowest_free N
  unfolding lowest_free nodes_of
  is_f = e ∙ first_skip (is_free N) (size N) a G.start G.passed

  pub f_inside : f < size N
  f_inside = rw is_f (is_lowest now.enters new).inside

  pub grow_links : LinksTo N p f
  grow_links = record {
    reads = record { shape = now.enters.shape; inside = live_inside (climb now.enters.shape) p now.enters.live };
    inside = f_inside;
    deep = (is_placed now.enters new).room.deep;
  }

  pub grow_next : {L : List ℕ} → L ≡ link N p (get_or us d 0) f → Growing N₀ us p₀ t L f (f + 1) (d + 1)
  grow_next {L} k =
      let E : Enters most_place N p (l ∷ drop (d + 1) us) = now.enters in
      let P : Placed most_place N (link N p l (lowest_free N)) p l (lowest_free N) = is_placed E new in
      let S : Shape most_place (link N p l (lowest_free N)) = new_shape E new in
      let s : size (link N p l (lowest_free N)) ≡ size N = same_size P.spliced in
      rw (k, is_f) (record {
        same_length = P.spliced.same_length ∙ G.same_length;
        grows = record { enters = new_enters E new; missing = new_lacks E new };
        same = sym (enter_new N p l (drop (d + 1) us) t new) ∙ ap (λ (x : List ℕ). enter_below N p x t) (sym cut) ∙ G.same;
        start = omega (arith, (is_lowest E new).inside);
        passed = λ i g. ⊎_elim
            (λ (q : i ≡ lowest_free N). rw q (used_not_free S (lowest_free N) (new_used E.shape P).named))
            (λ (q : i ≢ lowest_free N). sym
            (free_alike E.shape S i (omega (arith, (is_lowest E new).inside)) (omega (arith, (is_lowest E new).inside))
            (P.spliced.labels i q)) ∙ (is_lowest E new).below i (omega arith))
            (same_or i (lowest_free N));
        home = live_to P.spliced p₀ G.home;
        row = taken_row E new ∙ ap (λ (x : List ℕ). row_of N p ++ x) (sym cut) ∙ G.row ∙ ap (λ (x : List ℕ). x ++ us)
            (sym (rows_same P.spliced (climb E.shape) p₀ G.home));
      })

-- the last label is entered: the tag is set at the row's end
module _ {N₀ us N M : List ℕ} {p₀ t p a d : ℕ} (G : Growing N₀ us p₀ t N p a d) (h : length us ≤ d) (e : M ≡ set N (at p tag_word) t) where
  pub grow_end : M ≡ enter_below N₀ p₀ us t
  unfolding enter_below
  grow_end = e ∙ ap (λ (x : List ℕ). enter_below N p x t) (sym (drop_of_length-le us h)) ∙ G.same

  abbrev K : List ℕ
  K = set N (at p tag_word) t

  whole : row_of N p ≡ row_of N p₀ ++ us
  whole = sym (append-nil (row_of N p)) ∙ ap (λ (x : List ℕ). row_of N p ++ x) (sym (drop_of_length-le us h)) ∙ G.row

  pub grow_node : p ≡ node_of M p₀ us
  grow_node =
      let E : Enters most_place N p (drop d us) = G.grows.enters in
      let S : Shape most_place K = retag_shape N p t E.shape E.live in
      let A : Alike N K = retag_alike N p t in
      let w : row_of K p ≡ row_of K p₀ ++ us = alike_row A p ∙ whole ∙ ap (λ (x : List ℕ). x ++ us) (sym (alike_row A p₀)) in
      sym (ap (λ (X : List ℕ). node_of X p₀ us) e ∙ node_of_row S us p₀ p (alike_live A p₀ G.home) (alike_live A p E.live) w)
