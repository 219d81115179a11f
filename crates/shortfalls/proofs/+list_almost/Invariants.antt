use Rattle.nodes.specs.Inner.{rank}
use Rattle.shortfalls.proofs.Walked.{CameTo}
use Rattle.shortfalls.proofs.+list_almost.Given as goal

abbrev pub decreases-list_almost : goal.decreases-list_almost
decreases-list_almost l = rank l.nodes.now l.at

abbrev pub invariant-loop-link : goal.invariant-loop-link
invariant-loop-link l = CameTo l.nodes l.bin l.d l.at l.p l.initial.tags l.initial.shorts l.n l.tags l.shorts l.link l.k

abbrev pub decreases-loop-link : goal.decreases-loop-link
decreases-loop-link l = rank l.nodes l.link
