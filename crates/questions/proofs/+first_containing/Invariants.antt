use Rattle.nodes.specs.Inner.{rank}
use Rattle.questions.proofs.+first_containing.Given as goal

abbrev pub decreases-first_containing : goal.decreases-first_containing
decreases-first_containing l = rank l.nodes.now l.at
