use Rattle.nodes.proofs.Chain.{left}
use Rattle.index_links.proofs.Seeking.{Nearing}
use Rattle.index_links.proofs.last_below.Given as goal

abbrev pub invariant-loop-c : goal.invariant-loop-c
invariant-loop-c l = Nearing l.nodes l.p l.l l.b l.c

abbrev pub decreases-loop-c : goal.decreases-loop-c
decreases-loop-c l = left l.nodes l.c
