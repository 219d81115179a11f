-- The walk begins below the root, where all that the list has is wanted.
use Rattle.questions.proofs.ListWalk.{root_at}
use Rattle.pages.proofs.After.{root_along}
use Rattle.pages.proofs.ContainingPaged.next.Goals as goal

pub after_containing-requires : goal.after_containing-requires
after_containing-requires c = (
  root_at c.args.list.now c.requires.shape c.requires.good c.want_from-want.ensures c.child_at.ensures.0,
  root_along c.args.row.now c.requires.shape c.child_at.ensures.0,
)
