use Rattle.nodes.specs.Nodes.{depth}
use Rattle.index_delete.proofs.Pruning.{Pruning}
use Rattle.index_delete.proofs.prune.Given as goal

abbrev pub invariant-loop-i : goal.invariant-loop-i
invariant-loop-i l = Pruning l.initial.nodes l.from l.nodes l.i

abbrev pub decreases-loop-i : goal.decreases-loop-i
decreases-loop-i l = depth l.nodes l.i
