use Rattle.nodes.proofs.Chain.{left}
use Rattle.index_links.proofs.Seeking.{Seeking}
use Rattle.index_links.proofs.child_with.Given as goal

abbrev pub invariant-loop-c : goal.invariant-loop-c
invariant-loop-c l = Seeking l.nodes l.p l.l l.c

abbrev pub decreases-loop-c : goal.decreases-loop-c
decreases-loop-c l = left l.nodes l.c
