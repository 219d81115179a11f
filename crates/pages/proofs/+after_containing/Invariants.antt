use Rattle.nodes.specs.Inner.{rank}
use Rattle.pages.proofs.+after_containing.Given as goal

abbrev pub decreases-after_containing : goal.decreases-after_containing
decreases-after_containing l = rank l.nodes.now l.link
