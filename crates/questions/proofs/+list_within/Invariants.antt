use Rattle.nodes.specs.Inner.{rank}
use Rattle.questions.specs.Inner.{fits, tags_from}
use Rattle.questions.proofs.BinWalk.{CameTo}
use Rattle.questions.proofs.Written.{Makes}
use Rattle.questions.proofs.+list_within.Given as goal

abbrev pub decreases-list_within : goal.decreases-list_within
decreases-list_within l = rank l.nodes.now l.link

abbrev pub invariant-loop-at : goal.invariant-loop-at
invariant-loop-at l =
    CameTo l.nodes l.bin l.top l.link l.last l.had l.at
    × Makes l.out l.k (tags_from (fits l.bin) l.nodes l.at) l.initial.out l.n (tags_from (fits l.bin) l.nodes l.link)

abbrev pub decreases-loop-at : goal.decreases-loop-at
decreases-loop-at l = rank l.nodes l.at
