-- A tag means that the deepest node has the whole row, so it is the row's own node that is struck.
use mathlib.Core.Path.{refl, sym}
use Rattle.index.proofs.Answers.{delete_none, delete_counts, delete_done}
use Rattle.index.proofs.delete.Goals as goal

pub returns-in_default : goal.returns-in_default
returns-in_default c =
    rw (← c.units-units.ensures) (delete_none c.units-units.result.now c.args.nodes.now (sym c.in_default.ensures) refl)

pub strike_at-requires : goal.strike_at-requires
strike_at-requires c =
    delete_counts c.requires.fact_1 c.descend-p.ensures c.in-Some.ensures.0 c.in-Some.ensures.1

pub returns : goal.returns
returns c =
    rw (c.from.ensures, ← c.units-units.ensures)
    (delete_done c.requires.fact_1 c.descend-p.ensures c.in-Some.ensures.0 c.in-Some.ensures.1 c.strike_at.ensures)
