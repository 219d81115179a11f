use Rattle.index_insert.proofs.Surveying.{Surveying}
use Rattle.index_insert.proofs.survey_nodes.Given as goal

abbrev pub invariant-loop-i : goal.invariant-loop-i
invariant-loop-i l = Surveying l.nodes l.tag l.n l.i l.free.count l.free.lowest
