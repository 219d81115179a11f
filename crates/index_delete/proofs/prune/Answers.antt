-- Node by node upwards, what is left to prune leads to the same table.
use Rattle.index_delete.proofs.Pruning.{prune_end, prune_at_tag, prune_at_child, prune_less, prune_up}
use Rattle.index_delete.proofs.prune.Goals as goal

pub returns-then-tag_at-ne0 : goal.returns-then-tag_at-ne0
returns-then-tag_at-ne0 c =
    prune_at_tag c.loop-i.invariant c.loop-i-test.true c.tag_at.ensures c.if-tag_at-ne0.true

pub returns-then-child_at-ne0 : goal.returns-then-child_at-ne0
returns-then-child_at-ne0 c =
    prune_at_child c.loop-i.invariant c.loop-i-test.true c.tag_at.ensures c.if-tag_at-ne0.false
    c.child_at.ensures.0 c.if-child_at-ne0.true

pub loop-i-smaller : goal.loop-i-smaller
loop-i-smaller c = search prune_less

pub loop-i-preserved : goal.loop-i-preserved
loop-i-preserved c = search prune_up

pub returns : goal.returns
returns c = prune_end c.loop-i.invariant c.loop-i-test.false
