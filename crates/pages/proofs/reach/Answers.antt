-- What is reached from here on is what is reached from the link; labels rise along the chain.
use Prim.Native.Nat.{◌<◌}
use Rattle.nodes.specs.Inner.{rank}
use Rattle.pages.proofs.Reaching.{Reaching, reach_none, reach_here, reach_next}
use Rattle.pages.proofs.reach.Goals as goal
use Rattle.pages.proofs.reach.Goals.{After-next_at-at}

on : (c : After-next_at-at) →
    let N = c.args.nodes.now in
    (rank N c.next_at-at.result < rank N c.loop-at.at) × Reaching N c.args.place c.args.link c.next_at-at.result
on c =
    reach_next c.loop-at.invariant c.loop-at-test.true c.label_at.ensures c.requires.shape
    c.if-label_at-place.true c.next_at-at.ensures.0

pub loop-at-smaller : goal.loop-at-smaller
loop-at-smaller c = (on c).0

pub loop-at-preserved : goal.loop-at-preserved
loop-at-preserved c = (on c).1

pub returns-else-label_at-place : goal.returns-else-label_at-place
returns-else-label_at-place c =
    reach_here c.loop-at.invariant c.loop-at-test.true c.label_at.ensures c.if-label_at-place.false

pub returns-after-loop-at : goal.returns-after-loop-at
returns-after-loop-at c = reach_none c.loop-at.invariant c.loop-at-test.false
