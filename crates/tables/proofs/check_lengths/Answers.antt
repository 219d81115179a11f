-- Either length is refused with 1, the register's first; past both nothing is left to refuse.
use Rattle.tables.proofs.Lent.{lengths_register, lengths_nodes, lengths_good}
use mathlib.Core.Path.{sym, ◌∙◌}
use Rattle.tables.proofs.check_lengths.Goals as goal

pub returns-then-not-length_good : goal.returns-then-not-length_good
returns-then-not-length_good c =
    sym (lengths_register c.args.reg.now c.args.nodes.now
    (sym c.length_good.ensures ∙ c.if-not-length_good.true))

pub returns-then-not-nodes_length_ok : goal.returns-then-not-nodes_length_ok
returns-then-not-nodes_length_ok c =
    sym (lengths_nodes c.args.reg.now c.args.nodes.now
    (sym c.length_good.ensures ∙ c.if-not-length_good.false)
    (sym c.nodes_length_ok.ensures ∙ c.if-not-nodes_length_ok.true))

pub returns : goal.returns
returns c =
    sym (lengths_good c.args.reg.now c.args.nodes.now
    (sym c.length_good.ensures ∙ c.if-not-length_good.false)
    (sym c.nodes_length_ok.ensures ∙ c.if-not-nodes_length_ok.false))
