-- The walk begins below the root, where no label has come.
use Rattle.questions.proofs.BinWalk.{root_at}
use Rattle.pages.proofs.After.{root_along}
use Rattle.pages.proofs.WithinPaged.next.Goals as goal

pub after_within-requires : goal.after_within-requires
after_within-requires c = (
  root_at c.requires.shape (rw c.set_quantities.ensures c.last_place.ensures) c.child_at.ensures.0,
  root_along c.args.row.now c.requires.shape c.child_at.ensures.0,
)
