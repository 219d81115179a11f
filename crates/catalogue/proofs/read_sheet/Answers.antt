-- Lengths are all that is asked of the tables, for they are filled anew; the sheet's own refusals stand behind.
use mathlib.Core.Path.{refl, sym, ap}
use Rattle.ground.specs.Calls.{is_refused}
use Rattle.answers.proofs.Answers.{refuses, handed_reply}
use Rattle.tables.proofs.Lent.{lengths_passed}
use Rattle.catalogue.proofs.Answers.{read_refused, read_done}
use Rattle.catalogue.proofs.read_sheet.Goals as goal

pub returns-in_err-check_lengths : goal.returns-in_err-check_lengths
returns-in_err-check_lengths c =
    let a = c.args in
    rw (handed_reply _ _ c.from_residual.ensures.1)
    (read_refused a.reg.now a.nodes.now a.s.now _ c.in_err-check_lengths.ensures (refuses c.in_err-check_lengths.field-0.0))

pub read_sheet-requires : goal.read_sheet-requires
read_sheet-requires c =
    let p = lengths_passed c.args.reg.now c.args.nodes.now (ap is_refused (sym c.in_ok-check_lengths.ensures)) in
    record { fact_1 = p.0; fact_2 = p.1 }

pub returns : goal.returns
returns c =
    read_done c.args.reg.now c.args.nodes.now c.args.s.now _ c.in_ok-check_lengths.ensures
    _ _ refl c.read_sheet.ensures
