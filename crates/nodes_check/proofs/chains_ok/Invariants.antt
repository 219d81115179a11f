use Rattle.nodes_check.proofs.Chains.{Counting}
use Rattle.nodes_check.proofs.chains_ok.Given as goal

abbrev pub invariant-loop-i : goal.invariant-loop-i
invariant-loop-i l = Counting l.nodes l.n l.i l.used l.met
