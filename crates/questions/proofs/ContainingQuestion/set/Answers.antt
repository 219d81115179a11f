-- As `first`; and what is set down is never more than there are nodes.
use Rattle.questions.specs.Inner.{covers}
use Rattle.questions.proofs.Asked.{root_room}
use Rattle.questions.proofs.ListWalk.{root_at}
use Rattle.questions.proofs.ContainingQuestion.set.Goals as goal

pub list_containing-requires : goal.list_containing-requires
list_containing-requires c = (
  root_at c.args.list.now c.requires.shape c.requires.good c.want_from-want.ensures c.child_at.ensures.0,
  root_room c.requires.shape (covers c.args.list.now) c.child_at.ensures.0,
)
