-- "Deleting frees exactly the beginnings that no other kit has": of the nodes used before, those stay used whose rows begin a kit that is
-- left.
use mathlib.Core.Path.{◌≡◌, sym, subst, ◌∙◌}
use mathlib.Core.Logic.{◌≢◌, ◌↔◌}
use mathlib.Core.List.{List}
use Prim.Native.Nat.{ℕ}
use Rattle.nodes.specs.Nodes.{row_of}
use Rattle.nodes.specs.Inner.{Used, Sound}
use Rattle.nodes.specs.Held.{held, tag_in, drop_kit}
use Rattle.nodes.proofs.Order.{one_node}
use Rattle.nodes.proofs.Beginnings.{Begun, used_begun, begun_used}
use Rattle.index_delete.specs.Strike.{strike}
use Rattle.index.proofs.Kept.{delete_sound, held_after_delete, delete_used, delete_rows}

module _ {parts : ℕ} {N : List ℕ} (So : Sound parts N) (r : List ℕ) (n : tag_in r (held N) ≢ 0) where
  abbrev M : List ℕ
  M = strike N r

  left : Sound parts (strike N r)
  left = delete_sound So r n

  same_row : (i : ℕ) → Used M i → row_of M i ≡ row_of N i
  same_row i u = delete_rows So r n i (λ _. u)

  pub stays_exactly : (i : ℕ) → Used N i → Used (strike N r) i ↔ Begun (drop_kit r (held N)) (row_of N i)
  stays_exactly i v = (
    λ u. subst (Begun (drop_kit r (held N))) (same_row i u)
        (subst (λ ks. Begun ks (row_of M i)) (held_after_delete So r n) (used_begun left i u)),
    λ b.
        let o = begun_used left (row_of N i) (subst (λ ks. Begun ks (row_of N i)) (sym (held_after_delete So r n)) b) in
        let j = o.0 in
        let e : o.0 ≡ i = one_node So.shape o.0 i (λ _. delete_used So r n o.0 o.1) (λ _. v)
        (sym (same_row o.0 o.1) ∙ o.2) in
        subst (Used M) e o.1,
  )
