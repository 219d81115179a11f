-- Lengths are all that is asked of the tables, as in reading; what salvage promises of a sheet stands behind.
use mathlib.Core.List.{[]}
use mathlib.Core.Path.{refl, sym, ap}
use Rattle.std.specs.Prelude.{Ok}
use Rattle.ground.specs.Calls.{is_refused}
use Rattle.answers.proofs.Answers.{refuses}
use Rattle.tables.proofs.Lent.{lengths_passed}
use Rattle.catalogue.proofs.Answers.{rescue_refused, rescue_done}
use Rattle.catalogue.proofs.salvage.Goals as goal

pub returns-in-Err : goal.returns-in-Err
returns-in-Err c =
    let a = c.args in
    rescue_refused a.reg.now a.nodes.now a.s.now _ c.in-Err.ensures _ _ (refuses c.in-Err.refusal)
    (c.report_of.ensures (record { parts = []; kits = [] }))

pub salvage-requires : goal.salvage-requires
salvage-requires c =
    let p = lengths_passed c.args.reg.now c.args.nodes.now (ap is_refused (sym c.in_default.ensures)) in
    record { fact_1 = p.0; fact_2 = p.1 }

pub returns : goal.returns
returns c =
    let a = c.args in
    rescue_done a.reg.now a.nodes.now a.s.now (Ok 0) c.in_default.ensures _ _ _ refl c.salvage.ensures
