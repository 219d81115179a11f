use Rattle.nodes_check.proofs.Tags.{Marked}
use Rattle.nodes_check.proofs.tags_ok.Given as goal

abbrev pub invariant-loop-i : goal.invariant-loop-i
invariant-loop-i l = Marked l.nodes l.seen l.i
