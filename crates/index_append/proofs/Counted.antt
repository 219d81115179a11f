-- The row entered last ends at the node taken last: from there up the kit is counted in.
use mathlib.Core.Path.{◌≡◌, sym, ap, ap₂, subst, ◌∙◌}
use mathlib.Core.List.{List, ◌++◌}
use Prim.Native.Nat.{ℕ, ◌-◌}
use native.Mathlib.Omega.{arith}
use lib.ListN.{length}
use Rattle.kits.specs.Kits.{most_place}
use Rattle.nodes.specs.Nodes.{depth, row_of}
use Rattle.nodes.specs.Inner.{Live, Shape}
use Rattle.nodes.proofs.Rows.{climb, row_root, row_length}
use Rattle.index_links.specs.Links.{node_of, one_more, recount}
use Rattle.index_links.specs.Inner.{CanMove, moved}
use Rattle.index_links.proofs.Recount.{recount_alike, one_on}
use Rattle.index_insert.specs.Enter.{enter_below, enter, lacks}
use Rattle.index_insert.proofs.Entered.{Entered, entered}
use Rattle.index_insert.proofs.Ends.{node_of_row}
use Rattle.index_append.specs.Inner.{LastEntered, Appendable}
use Rattle.index_append.proofs.Places.{edge_live}
use Rattle.index_append.proofs.Steps.{alike_last}

module _ {N last row M : List ℕ} {n r : ℕ} (t : ℕ) (A : Appendable N n last row) (e : M ≡ enter_below N 0 row t) (L : LastEntered M r row) where
  abbrev done : Entered most_place N (enter_below N 0 row t) 0 (row_of N 0 ++ row) t (lacks N 0 row)
  done = entered row N 0 t A.enters

  S : Shape most_place M
  S = rw e done.shape

  live : Live M (r - 1)
  live = edge_live S L.edge

  pub last_counts : CanMove M (r - 1) 0 1
  last_counts = record { shape = S; live = live; few = omega arith; able = rw e (λ j _. (omega arith, omega (arith, done.tallies j, A.few j))) }

  end_is : node_of M 0 row ≡ r - 1
  end_is = node_of_row S row 0 (r - 1) (λ g. absurd (omega arith)) live (L.is ∙ ap (λ (x : List ℕ). x ++ row) (sym (row_root (climb S))))

  deep : depth M (r - 1) ≡ length row
  deep = sym (row_length (climb S) (r - 1) live) ∙ ap length L.is

  pub last_counted : {K : List ℕ} → K ≡ recount (moved 0 1) M (depth M (r - 1)) (r - 1) → (K ≡ enter N row t) × LastEntered K r row
  unfolding enter
  last_counted {K} k = (
    k ∙ one_on M (depth M (r - 1)) (r - 1) ∙ ap₂ (recount one_more M) deep (sym end_is)
        ∙ ap (λ (X : List ℕ). recount one_more X (length row) (node_of X 0 row)) e,
    subst (λ (x : List ℕ). LastEntered x r row) (sym k) (alike_last (recount_alike (moved 0 1) M (depth M (r - 1)) (r - 1)) L),
  )
