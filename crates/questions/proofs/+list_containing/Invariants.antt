use Rattle.nodes.specs.Inner.{rank}
use Rattle.questions.proofs.+list_containing.Given as goal

abbrev pub decreases-list_containing : goal.decreases-list_containing
decreases-list_containing l = rank l.nodes.now l.at
