-- The chain is followed while its labels are below l: the last of the rest is the last of the whole chain.
use Rattle.index_links.proofs.Seeking.{follows_less, near_start, near_stop, near_on, near_end}
use Rattle.index_links.proofs.last_below.Goals as goal

pub loop-c-init : goal.loop-c-init
loop-c-init c = near_start c.requires c.child_at-c.ensures.0

pub returns-then-l-label_at-clause-is_last : goal.returns-then-l-label_at-clause-is_last
returns-then-l-label_at-clause-is_last c =
    near_stop c.loop-c.invariant c.loop-c-test.true c.label_at.ensures c.if-l-label_at.true

pub loop-c-smaller : goal.loop-c-smaller
loop-c-smaller c = search follows_less

pub loop-c-preserved : goal.loop-c-preserved
loop-c-preserved c =
    near_on c.loop-c.invariant c.loop-c-test.true c.label_at.ensures c.if-l-label_at.false
    c.next_at-c.ensures.0

pub returns-clause-is_last : goal.returns-clause-is_last
returns-clause-is_last c =
    near_end c.loop-c.invariant c.loop-c-test.false
