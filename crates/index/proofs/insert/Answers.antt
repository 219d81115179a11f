-- The row's labels below the deepest node are the nodes lacking; a tag that a node bears is a held kit's.
use mathlib.Core.Path.{sym, ◌∙◌}
use native.Mathlib.Omega.{arith}
use lib.ListN.{length-drop}
use borrow.Author.Rules.{part_to_end}
use borrow.Author.Tests.{eqb-true, eqb-false}
use Rattle.index.proofs.Answers.{insert_19, insert_9, insert_10, insert_12, insert_grows, insert_counts, insert_done}
use Rattle.index.proofs.insert.Goals as goal

pub returns-then-is_empty : goal.returns-then-is_empty
returns-then-is_empty c =
    rw (← c.units-units.ensures)
    (insert_19 c.units-units.result.now c.args.nodes.now c.args.tag (eqb-true _ 0 (sym c.is_empty.ensures ∙ c.if-is_empty.true)))

pub returns-in-Some : goal.returns-in-Some
returns-in-Some c =
    rw (c.from.ensures, ← c.units-units.ensures)
    (insert_9 c.units-units.result.now c.args.nodes.now c.in-Some.ensures.0 c.args.tag
    (eqb-false _ 0 (sym c.is_empty.ensures ∙ c.if-is_empty.false)) (λ z. omega (arith, c.in-Some.ensures.1)))

pub returns-in_default-survey_nodes : goal.returns-in_default-survey_nodes
returns-in_default-survey_nodes c =
    rw (← c.units-units.ensures)
    (insert_10 c.requires.fact_1 c.descend-p.ensures c.requires.fact_4
    (eqb-false _ 0 (sym c.is_empty.ensures ∙ c.if-is_empty.false)) c.in_default.ensures
    c.in_default-survey_nodes.ensures)

pub returns-then-free-needs : goal.returns-then-free-needs
returns-then-free-needs c =
    rw (part_to_end, length-drop, ← c.units-units.ensures)
    (insert_12 c.requires.fact_1 c.descend-p.ensures c.requires.fact_4
    (eqb-false _ 0 (sym c.is_empty.ensures ∙ c.if-is_empty.false)) c.in_default.ensures
    c.in-Some-survey_nodes.ensures c.depth_at-d.ensures.0 (rw (part_to_end, length-drop) at c.if-free-needs.true))

pub grow-end-requires-clause-grows : goal.grow-end-requires-clause-grows
grow-end-requires-clause-grows c =
    rw part_to_end
    (insert_grows c.requires.fact_1 c.descend-p.ensures c.requires.fact_4
    (eqb-false _ 0 (sym c.is_empty.ensures ∙ c.if-is_empty.false)) c.in_default.ensures
    c.in-Some-survey_nodes.ensures c.depth_at-d.ensures.0 (rw (part_to_end, length-drop) at c.if-free-needs.false)
    (rw c.units-units.ensures c.requires.fact_3))

pub move_tallies-requires : goal.move_tallies-requires
move_tallies-requires c =
    insert_counts c.requires.fact_1 c.descend-p.ensures c.requires.fact_4
    (eqb-false _ 0 (sym c.is_empty.ensures ∙ c.if-is_empty.false)) c.in_default.ensures
    c.in-Some-survey_nodes.ensures c.depth_at-d.ensures.0 (rw (part_to_end, length-drop) at c.if-free-needs.false)
    (rw c.units-units.ensures c.requires.fact_3)
    (rw part_to_end at c.grow-end.ensures.entered) (rw part_to_end at c.grow-end.ensures.is_end)

pub returns : goal.returns
returns c =
    rw (part_to_end, length-drop, ← c.units-units.ensures)
    (insert_done c.requires.fact_1 c.descend-p.ensures c.requires.fact_4
    (eqb-false _ 0 (sym c.is_empty.ensures ∙ c.if-is_empty.false)) c.in_default.ensures
    c.in-Some-survey_nodes.ensures c.depth_at-d.ensures.0 (rw (part_to_end, length-drop) at c.if-free-needs.false)
    (rw c.units-units.ensures c.requires.fact_3)
    (rw part_to_end at c.grow-end.ensures.entered) (rw part_to_end at c.grow-end.ensures.is_end) c.move_tallies.ensures)
