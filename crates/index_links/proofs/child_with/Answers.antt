-- The chain is followed while its labels are too small: the rest has the child exactly when the whole chain has it.
use Rattle.index_links.proofs.Seeking.{follows_less, seek_start, seek_found, seek_past, seek_on, seek_end}
use Rattle.index_links.proofs.child_with.Goals as goal

pub loop-c-init : goal.loop-c-init
loop-c-init c = seek_start c.requires c.child_at-c.ensures.0

pub returns-then-m-l : goal.returns-then-m-l
returns-then-m-l c =
    seek_found c.loop-c.invariant c.loop-c-test.true c.label_at-m.ensures c.if-m-l.true

pub returns-then-l-m : goal.returns-then-l-m
returns-then-l-m c =
    seek_past c.loop-c.invariant c.loop-c-test.true c.label_at-m.ensures c.if-l-m.true

pub loop-c-smaller : goal.loop-c-smaller
loop-c-smaller c = search follows_less

pub loop-c-preserved : goal.loop-c-preserved
loop-c-preserved c =
    seek_on c.loop-c.invariant c.loop-c-test.true c.label_at-m.ensures c.if-m-l.false
    c.next_at-c.ensures.0

pub returns : goal.returns
returns c = seek_end c.loop-c.invariant c.loop-c-test.false
