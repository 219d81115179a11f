use Rattle.nodes.specs.Inner.{rank}
use Rattle.pages.proofs.+after_within.Given as goal

abbrev pub decreases-after_within : goal.decreases-after_within
decreases-after_within l = rank l.nodes.now l.link
