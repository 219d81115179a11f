-- Right lengths let soundness be asked; a sound register tells the parts that the nodes are judged by.
use mathlib.Core.Bool.{true}
use mathlib.Core.Path.{◌≡◌, sym, ap, ◌∙◌}
use Rattle.ground.specs.Calls.{is_refused}
use Rattle.register.specs.Register.{register_length}
use Rattle.nodes.specs.Nodes.{nodes_length}
use Rattle.nodes.specs.Sound.{nodes_sound}
use Rattle.answers.proofs.Answers.{refuses, handed_check}
use Rattle.tables.proofs.Lent.{lengths_passed, both_refused, both_register, both_nodes, both_good}
use Rattle.tables.proofs.check_tables.Goals as goal
use Rattle.tables.proofs.check_tables.Goals.{In_ok-check_lengths}

-- the lengths passed
sized : (c : In_ok-check_lengths) →
    (register_length c.args.reg.now ≡ true) × (nodes_length c.args.nodes.now ≡ true)
sized c = lengths_passed _ _ (ap is_refused (sym c.in_ok-check_lengths.ensures))

pub returns-in_err-check_lengths : goal.returns-in_err-check_lengths
returns-in_err-check_lengths c =
    handed_check _ _ c.from_residual.ensures.1 ∙
    both_refused c.args.reg.now c.args.nodes.now _ c.in_err-check_lengths.ensures (refuses _)

pub register_sound-requires : goal.register_sound-requires
register_sound-requires c = (sized c).0

pub returns-then-not-register_sound : goal.returns-then-not-register_sound
returns-then-not-register_sound c =
    let s = sized (goal.at.returns-then-not-register_sound c).In_ok-check_lengths in
    sym (both_register _ _ s.0 s.1 (sym c.register_sound.ensures ∙ c.if-not-register_sound.true))

pub count_parts-parts-requires : goal.count_parts-parts-requires
count_parts-parts-requires c = record {
  fits = (sized (goal.at.count_parts-parts-requires c).In_ok-check_lengths).0;
  sound = sym c.register_sound.ensures ∙ c.if-not-register_sound.false;
}

pub nodes_sound-requires : goal.nodes_sound-requires
nodes_sound-requires c = (sized (goal.at.nodes_sound-requires c).In_ok-check_lengths).1

pub returns-then-not-nodes_sound : goal.returns-then-not-nodes_sound
returns-then-not-nodes_sound c =
    let s = sized (goal.at.returns-then-not-nodes_sound c).In_ok-check_lengths in
    sym (both_nodes _ _ s.0 s.1 (sym c.register_sound.ensures ∙ c.if-not-register_sound.false)
    (sym (c.nodes_sound.ensures ∙ ap (λ n. nodes_sound n c.args.nodes.now)
    c.count_parts-parts.ensures.fact_1) ∙ c.if-not-nodes_sound.true))

pub returns : goal.returns
returns c =
    let s = sized (goal.at.returns c).In_ok-check_lengths in
    sym (both_good _ _ s.0 s.1 (sym c.register_sound.ensures ∙ c.if-not-register_sound.false)
    (sym (c.nodes_sound.ensures ∙ ap (λ n. nodes_sound n c.args.nodes.now)
    c.count_parts-parts.ensures.fact_1) ∙ c.if-not-nodes_sound.false))
