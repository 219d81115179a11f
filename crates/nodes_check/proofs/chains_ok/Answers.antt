-- Used nodes, and nodes met on chains, passed and to come: what is met is never more than there are nodes.
use mathlib.Core.Bool.{not}
use mathlib.Core.Path.{ap, ◌∙◌}
use native.Mathlib.Omega.{arith}
use Rattle.nodes_check.specs.Inner.{chain_tags}
use Rattle.nodes_check.proofs.Chains.{count_start, count_refuses, count_fits, count_used, count_free, count_says}
use Rattle.nodes_check.proofs.chains_ok.Goals as goal
use Rattle.nodes_check.proofs.chains_ok.Goals.{then-label_at-ne0, else-label_at-ne0}

pub loop-i-init : goal.loop-i-init
loop-i-init c = count_start c.node_count-n.ensures

pub child_at-requires : goal.child_at-requires
child_at-requires c = omega (arith, c.loop-i.invariant.all_nodes)

pub walk_chain-chain-requires : goal.walk_chain-chain-requires
walk_chain-chain-requires c =
    record {
      siblings = c.requires.links.along;
      live = λ g. rw c.child_at.ensures.0
          (c.requires.links.down _ (omega (arith, c.loop-i.invariant.all_nodes)) (omega (arith, c.child_at.ensures.0)));
      few_nodes = c.requires.most;
    }

pub tally_ok-requires : goal.tally_ok-requires
tally_ok-requires c =
    record {
      node = omega (arith, c.loop-i.invariant.all_nodes);
      chain = c.walk_chain-chain.ensures.tells_tags ∙ ap (chain_tags c.args.nodes.now) c.child_at.ensures.0;
      bounded = c.walk_chain-chain.ensures.bounded;
    }

pub returns-then-not-tally_ok : goal.returns-then-not-tally_ok
returns-then-not-tally_ok c =
    count_refuses c.loop-i.invariant (omega arith) c.tally_ok.ensures (ap not c.if-not-tally_ok.true)

pub overflow_add-met : goal.overflow_add-met
overflow_add-met c =
    omega (
      arith,
      count_fits c.loop-i.invariant (omega arith) c.child_at.ensures.0
          c.walk_chain-chain.ensures.tells_nodes c.requires,
    )

pub label_at-requires : goal.label_at-requires
label_at-requires c =
    omega (arith, c.loop-i.invariant.all_nodes)

pub overflow_add-used : goal.overflow_add-used
overflow_add-used c =
    omega (arith, c.loop-i.invariant.fewer)

pub loop-i-preserved : goal.loop-i-preserved
loop-i-preserved c =
    let i = c.loop-i.invariant in
    let chain = c.walk_chain-chain.ensures.tells_nodes in
    let right = ap not c.if-not-tally_ok.false in elim c.if-label_at-ne0.branch [
      | then-label_at-ne0 w ↦
          rw w.used-is (count_used i c.loop-i-test.true c.child_at.ensures.0 chain c.tally_ok.ensures right c.label_at.ensures w.if-label_at-ne0.true)
      | else-label_at-ne0 w ↦
          rw w.used-is (count_free i c.loop-i-test.true c.child_at.ensures.0 chain c.tally_ok.ensures right c.label_at.ensures w.if-label_at-ne0.false)
    ]

pub returns : goal.returns
returns c =
    count_says c.loop-i.invariant c.requires (omega arith)
