-- A kit held never has tag 0: the deepest node tells the row's tag, or that it is not held.
use mathlib.Core.Path.{refl, sym}
use native.Mathlib.Omega.{arith}
use Rattle.index.proofs.Answers.{find_none, find_some}
use Rattle.index.proofs.find.Goals as goal

pub returns-in-None : goal.returns-in-None
returns-in-None c =
    rw (← c.units-units.ensures) (find_none c.units-units.result.now c.args.nodes.now (sym c.in-None.ensures) refl)

pub returns-in-Some : goal.returns-in-Some
returns-in-Some c =
    rw (c.from.ensures, ← c.units-units.ensures)
    (find_some c.units-units.result.now c.args.nodes.now c.in-Some.ensures.0 (λ z. omega (arith, c.in-Some.ensures.1)))
