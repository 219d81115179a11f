-- As `first`; and what is set down is never more than there are nodes.
use Rattle.questions.specs.Inner.{fits}
use Rattle.questions.proofs.Asked.{root_room}
use Rattle.questions.proofs.BinWalk.{root_at}
use Rattle.questions.proofs.WithinQuestion.set.Goals as goal

pub list_within-requires : goal.list_within-requires
list_within-requires c = (
  root_at c.requires.shape (rw c.set_quantities.ensures c.last_place.ensures) c.child_at.ensures.0,
  root_room c.requires.shape (fits c.set_quantities.new.amounts) c.child_at.ensures.0,
)
