use Rattle.index_insert.proofs.Growing.{Growing}
use Rattle.index_insert.proofs.grow.Given as goal

abbrev pub invariant-loop-label : goal.invariant-loop-label
invariant-loop-label l = Growing l.initial.nodes l.labels l.at l.tag l.nodes l.p l.a l.label-index
