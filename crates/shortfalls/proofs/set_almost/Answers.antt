-- The walk from the root's first child on finds all, with no label passed; they are never more than there are nodes.
use Rattle.questions.proofs.Found.{found_few}
use Rattle.shortfalls.specs.Inner.{almost}
use Rattle.shortfalls.proofs.Walked.{root_link}
use Rattle.shortfalls.proofs.set_almost.Goals as goal

pub list_almost-requires : goal.list_almost-requires
list_almost-requires c =
    let a = c.args in (
      root_link a.bin.now a.d c.requires.0 c.requires.1 c.child_at.ensures.0,
      found_few c.requires.0 (almost a.bin.now a.d) c.child_at.ensures.0,
    )
