use Rattle.nodes.specs.Nodes.{depth}
use Rattle.index_links.proofs.Counting.{Counting}
use Rattle.index_links.proofs.move_tallies.Given as goal

abbrev pub invariant-loop-at : goal.invariant-loop-at
invariant-loop-at l = Counting l.off l.on l.initial.nodes l.i l.nodes l.at

abbrev pub decreases-loop-at : goal.decreases-loop-at
decreases-loop-at l = depth l.nodes l.at
