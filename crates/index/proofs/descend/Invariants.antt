use Rattle.index.specs.Inner.{Going}
use Rattle.index.proofs.descend.Given as goal

abbrev pub invariant-loop-label : goal.invariant-loop-label
invariant-loop-label l = Going l.nodes l.row l.p l.label-index
