use Rattle.nodes.proofs.Chain.{left}
use Rattle.nodes_check.proofs.Chains.{Along}
use Rattle.nodes_check.proofs.walk_chain.Given as goal

abbrev pub invariant-loop-at : goal.invariant-loop-at
invariant-loop-at l = Along l.nodes l.h l.at l.k l.sum

abbrev pub decreases-loop-at : goal.decreases-loop-at
decreases-loop-at l = left l.nodes l.at
