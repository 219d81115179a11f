-- Slots, then nodes, refuse with what is needed in all; with both, what stands in the sheet is what is kept.
use mathlib.Core.Path.{refl}
use Prim.Native.Nat.{◌≤◌}
use native.Mathlib.Omega.{arith}
use Rattle.register.specs.Register.{slot_count}
use Rattle.nodes.specs.Nodes.{size}
use Rattle.sheet.specs.Bytes.{Bytes}
use Rattle.sheet_read.proofs.Sheets.{Salvageable, salvageable, taking_slots, taking_nodes, taking_done, numbers_stand, kits_stand}
use Rattle.sheet_read.proofs.take_in.Goals as goal
use Rattle.sheet_read.proofs.take_in.Goals.{After-shared_slice_known-1, Start}

good : (c : Start) → Salvageable c.args.s.now c.args.found
good c = salvageable c.args.s.now c.args.found c.requires.found

lent : (c : After-shared_slice_known-1) →
    Bytes c.args.s.now
lent c = λ i. omega (arith, c.type_inv.s i)

pub returns-then-count_slots-parts : goal.returns-then-count_slots-parts
returns-then-count_slots-parts c =
    taking_slots (good (goal.at.returns-then-count_slots-parts c).Start) c.args.reg.now c.args.nodes.now c.from-parts.result
    c.from-parts.ensures (omega (arith, c.count_slots.ensures.fact_1))

pub returns-then-node_count-found : goal.returns-then-node_count-found
returns-then-node_count-found c =
    taking_nodes (good (goal.at.returns-then-node_count-found c).Start) c.args.reg.now c.args.nodes.now
    (omega (arith, c.count_slots.ensures.fact_1, c.from-parts.ensures))
    (omega (arith, c.node_count.ensures))

pub fill-requires : goal.fill-requires
fill-requires c =
    let F = good (goal.at.fill-requires c).Start in
    let b = lent (goal.at.fill-requires c).After-shared_slice_known-1 in
    let R = c.args.reg.now in
    let N = c.args.nodes.now in
    let slots : c.from-parts.result ≤ slot_count R = omega (arith, c.count_slots.ensures.fact_1) in
    let nodes : c.args.found.run.nodes ≤ size N = omega (arith, c.node_count.ensures) in
    record {
      numbers = numbers_stand F R N b c.from-parts.result c.args.found.run.kept c.from-parts.ensures refl slots nodes c.requires.register;
      kits = kits_stand F R N b c.from-parts.result c.args.found.run.kept c.from-parts.ensures refl slots nodes c.requires.nodes;
    }

pub returns : goal.returns
returns c =
    let R = c.args.reg.now in
    let N = c.args.nodes.now in
    taking_done (good (goal.at.returns c).Start) R N (lent (goal.at.returns c).After-shared_slice_known-1) c.from-parts.result c.args.found.run.kept
    c.from-parts.ensures refl (omega (arith, c.count_slots.ensures.fact_1))
    (omega (arith, c.node_count.ensures)) c.fill.new.reg c.fill.new.nodes
    c.fill.result c.fill.ensures.0 c.fill.ensures.1 c.fill.ensures.2
