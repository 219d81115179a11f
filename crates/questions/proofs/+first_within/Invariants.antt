use mathlib.Core.Path.{◌≡◌}
use Rattle.nodes.specs.Inner.{rank}
use Rattle.questions.specs.Inner.{fits, first_from}
use Rattle.questions.proofs.BinWalk.{CameTo}
use Rattle.questions.proofs.+first_within.Given as goal

abbrev pub decreases-first_within : goal.decreases-first_within
decreases-first_within l = rank l.nodes.now l.link

abbrev pub invariant-loop-at : goal.invariant-loop-at
invariant-loop-at l =
    CameTo l.nodes l.bin l.top l.link l.last l.had l.at
    × (first_from (fits l.bin) l.nodes l.at ≡ first_from (fits l.bin) l.nodes l.link)

abbrev pub decreases-loop-at : goal.decreases-loop-at
decreases-loop-at l = rank l.nodes l.at
