-- Of all that was read the ended lines are answered and the last is kept.
use Rattle.desk.specs.Lent.{tables_of, DeskAtHand}
use Rattle.desk.specs.Inner.{Keeps}
use Rattle.desk.proofs.Serving.{Read}
use Rattle.desk.proofs.Desk.serve.Given as goal

abbrev pub invariant-pieces : goal.invariant-pieces
invariant-pieces l =
    Keeps l.kept l.n × DeskAtHand l.self l.out × Read l.kept l.n (tables_of l.self)
