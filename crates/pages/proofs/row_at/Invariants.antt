use Rattle.pages.proofs.RowAt.{WalkedUp}
use Rattle.pages.proofs.row_at.Given as goal

abbrev pub invariant-loop-d : goal.invariant-loop-d
invariant-loop-d l = WalkedUp l.nodes l.i l.places l.at l.d
