-- Label by label down: what is left of the row below the node has the same nodes, and lacks the same.
use Rattle.index.proofs.Way.{go_start, go_next, go_stop, go_end}
use Rattle.index.proofs.descend.Goals as goal

pub loop-label-init : goal.loop-label-init
loop-label-init c = go_start c.requires

pub returns-then-c-eq0 : goal.returns-then-c-eq0
returns-then-c-eq0 c =
    go_stop c.requires c.loop-label.invariant c.loop-label-test.true c.child_with-c.ensures c.if-c-eq0.true

pub loop-label-preserved : goal.loop-label-preserved
loop-label-preserved c =
    go_next c.requires c.loop-label.invariant c.loop-label-test.true c.child_with-c.ensures c.if-c-eq0.false

pub returns : goal.returns
returns c = go_end c.requires c.loop-label.invariant c.loop-label-test.false
