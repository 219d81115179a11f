-- Those passed and those to come are the chain; labels rise along it, so it ends.
use mathlib.Core.Path.{◌∙◌}
use native.Mathlib.Omega.{arith}
use Rattle.nodes_check.proofs.Chains.{along_start, along_more, along_next, along_less, along_end}
use Rattle.nodes_check.proofs.walk_chain.Goals as goal

pub loop-at-init : goal.loop-at-init
loop-at-init c = along_start c.requires.siblings c.requires.live

pub next_at-at-requires : goal.next_at-at-requires
next_at-at-requires c = (c.loop-at.invariant.live (omega (arith, c.loop-at-test.true))).inside

pub tally_at-requires : goal.tally_at-requires
tally_at-requires c = (c.loop-at.invariant.live (omega (arith, c.loop-at-test.true))).inside

pub overflow_add-sum : goal.overflow_add-sum
overflow_add-sum c =
    omega (
      arith,
      c.loop-at.invariant.bounded,
      along_more c.requires.siblings c.loop-at.invariant (omega (arith, c.loop-at-test.true)),
      c.requires.few_nodes,
      c.from-sum.ensures,
    )

pub overflow_add-k : goal.overflow_add-k
overflow_add-k c =
    omega (arith, along_more c.requires.siblings c.loop-at.invariant (omega (arith, c.loop-at-test.true)))

pub loop-at-smaller : goal.loop-at-smaller
loop-at-smaller c =
    along_less c.requires.siblings c.loop-at.invariant (omega (arith, c.loop-at-test.true)) c.next_at-at.ensures.0

pub loop-at-preserved : goal.loop-at-preserved
loop-at-preserved c =
    along_next c.requires.siblings c.loop-at.invariant (omega (arith, c.loop-at-test.true)) c.next_at-at.ensures.0
    (c.from-sum.ensures ∙ c.tally_at.ensures) (omega arith)

pub returns : goal.returns
returns c =
    along_end c.requires.siblings c.loop-at.invariant c.loop-at-test.false c.requires.few_nodes
