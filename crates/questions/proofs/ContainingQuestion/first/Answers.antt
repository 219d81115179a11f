-- All that the list has is wanted where the walk begins.
use Rattle.questions.proofs.ListWalk.{root_at}
use Rattle.questions.proofs.ContainingQuestion.first.Goals as goal

pub first_containing-requires : goal.first_containing-requires
first_containing-requires c =
    root_at c.args.list.now c.requires.shape c.requires.good c.want_from-want.ensures c.child_at.ensures.0
