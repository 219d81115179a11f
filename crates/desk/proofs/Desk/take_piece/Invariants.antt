-- What is left of the piece, behind what is kept, leaves what the whole piece does behind the line that had not ended.
use Rattle.std.proofs.Common.{◌-◌, length, take}
use Rattle.desk.specs.Lent.{tables_of}
use Rattle.desk.proofs.Serving.{Underway}
use Rattle.desk.proofs.Desk.take_piece.Given as goal

abbrev pub invariant-loop-at : goal.invariant-loop-at
invariant-loop-at l =
    Underway (take l.fn.from l.fn.kept) l.piece (tables_of l.fn.self) l.kept l.self.places l.self.sheet l.out l.n l.at (tables_of l.self)

abbrev pub decreases-loop-at : goal.decreases-loop-at
decreases-loop-at l = length l.piece - l.at
