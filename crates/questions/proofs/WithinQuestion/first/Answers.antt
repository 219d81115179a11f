-- No label has come where the walk begins, and the bin has nothing above its last place.
use Rattle.questions.proofs.BinWalk.{root_at}
use Rattle.questions.proofs.WithinQuestion.first.Goals as goal

pub first_within-requires : goal.first_within-requires
first_within-requires c =
    root_at c.requires.shape (rw c.set_quantities.ensures c.last_place.ensures) c.child_at.ensures.0
