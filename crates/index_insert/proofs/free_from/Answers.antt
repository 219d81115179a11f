-- No node passed is free: the first free one from here on is the first from a on.
use mathlib.Core.Path.{sym, ◌∙◌}
use native.Mathlib.Omega.{arith}
use Rattle.ground.proofs.Laws.{first_from_here, first_from_on, first_from_end}
use Rattle.nodes.specs.Nodes.{size, is_free}
use Rattle.index_insert.proofs.free_from.Goals as goal

pub returns-then-free_at : goal.returns-then-free_at
returns-then-free_at c =
    let n = size c.args.nodes.now in
    sym (first_from_here n c.loop-i.i (omega arith) n (is_free c.args.nodes.now) (sym c.free_at.ensures ∙ c.if-free_at.true))
    ∙ c.loop-i.invariant

pub loop-i-preserved : goal.loop-i-preserved
loop-i-preserved c =
    let n = size c.args.nodes.now in
    sym (first_from_on n c.loop-i.i (omega arith) n (is_free c.args.nodes.now) (sym c.free_at.ensures ∙ c.if-free_at.false))
    ∙ c.loop-i.invariant

pub returns : goal.returns
returns c =
    let n = size c.args.nodes.now in
    c.node_count-n.ensures ∙ sym (first_from_end n c.loop-i.i (omega arith) n (is_free c.args.nodes.now)) ∙ c.loop-i.invariant
