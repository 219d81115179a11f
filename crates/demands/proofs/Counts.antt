-- "Made-up counts fall with the table": the nodes used and taken, counted by the beginnings of the kits entered.
use mathlib.Core.Path.{◌≡◌, ap}
use mathlib.Core.List.{List, ◌∷◌}
use native.Mathlib.Omega.{arith}
use lib.ListN.{length}
use Rattle.nodes.specs.Held.{Kit, comes_before, kits_in_order, all_beginnings}
use Rattle.nodes.proofs.Ordered.{mem_order, order_mem}
use Rattle.nodes.proofs.Held.{kit}
use Rattle.nodes.proofs.Beginnings.{nodes_used}
use Rattle.index_counts.proofs.Filled.{more_beginnings}
use Rattle.kits.specs.Kits.{units}
use Rattle.demands.specs.Model.{tables_of, entered}
use Rattle.demands.specs.Pins.{NodesCounted, NodesTaken}
use Rattle.catalogue.proofs.Kept.{insertion}
use Rattle.demands.proofs.Brought.{brought, listed_beginnings, now_listed, now_begun}

-- the order of the kits does not matter, and a kit without a unit begins nothing
pub as_many : (ks : List Kit) → length (all_beginnings (kits_in_order ks)) ≡ length (all_beginnings ks)
as_many ks =
    omega (arith, more_beginnings (kits_in_order ks) ks (λ k m. order_mem comes_before k ks m), more_beginnings ks (kits_in_order ks) (λ k m. mem_order comes_before k ks m))

pub nodes_counted : NodesCounted
nodes_counted a h =
    let b = brought a h in
    omega (
      arith,
      nodes_used b.both.sound,
      ap length (listed_beginnings (tables_of a).nodes),
      ap (λ (ks : List Kit). length (all_beginnings ks)) b.kits,
      as_many (entered a).kits,
    )

pub nodes_taken_lem : NodesTaken
nodes_taken_lem a l t v h e =
    let b = brought a h in
    let T = tables_of a in
    let i = insertion l t T v e in
    let now = now_listed l t T.register T.nodes (entered a) b v i in
    let more = now_begun l t T.register T.nodes (entered a) b v i in
    omega (
      arith,
      more,
      i.takes,
      ap (λ (ks : List Kit). length (all_beginnings ks)) now,
      ap (λ (ks : List Kit). length (all_beginnings ks))
          b.kits,
      as_many (kit (units l) t ∷ (entered a).kits),
      as_many (entered a).kits,
    )
