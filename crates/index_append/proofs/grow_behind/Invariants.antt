use Rattle.index_append.proofs.Steps.{Appending}
use Rattle.index_append.proofs.grow_behind.Given as goal

abbrev pub invariant-loop-label : goal.invariant-loop-label
invariant-loop-label l = Appending l.initial.nodes l.labels l.at l.tag l.nodes l.p l.b l.label-index l.f
