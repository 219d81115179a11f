use Rattle.nodes.specs.Inner.{rank}
use Rattle.pages.proofs.Reaching.{Reaching}
use Rattle.pages.proofs.reach.Given as goal

abbrev pub invariant-loop-at : goal.invariant-loop-at
invariant-loop-at l = Reaching l.nodes l.place l.link l.at

abbrev pub decreases-loop-at : goal.decreases-loop-at
decreases-loop-at l = rank l.nodes l.at
