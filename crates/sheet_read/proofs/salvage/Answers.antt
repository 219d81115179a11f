-- A fault up to the kit count refuses before any table is touched; what is kept is taken in, and reported with the judge's own counts.
use mathlib.Core.Path.{refl}
use mathlib.Core.List.{[]}
use Rattle.ground.specs.Calls.{refused}
use Rattle.ground.specs.Tables.{tables}
use Rattle.answers.specs.Answers.{reply}
use Rattle.sheet.specs.Sheet.{Contents}
use Rattle.sheet.specs.Reading.{salvage, rescued}
use Rattle.sheet_read.proofs.Sheets.{salvageable}
use Rattle.sheet_read.proofs.Promised.{salvaging_13, salvaging_taken, reported_taken, reported_refused}
use Rattle.sheet_read.proofs.salvage.Goals as goal

nothing : Contents
nothing = record { parts = []; kits = [] }

pub returns-in-Err : goal.returns-in-Err
returns-in-Err c =
    record {
      promised =
          salvaging_13 c.args.s.now (tables c.args.reg.now c.args.nodes.now) c.in-Err.o c.in-Err.ensures;
      reported =
          reported_refused (refused 13 c.in-Err.o) (record { kept = nothing; announced = 0; stopped = 0 })
          (rescued (salvage c.args.s.now)) refl (c.report_of.ensures nothing);
    }

pub returns-in-Ok : goal.returns-in-Ok
returns-in-Ok c =
    let T = tables c.args.reg.now c.args.nodes.now in
    record {
      promised =
          salvaging_taken (salvageable c.args.s.now c.in-Ok.found c.in-Ok.ensures) T (reply c.take_in-answer.result)
          (tables c.take_in-answer.new.reg c.take_in-answer.new.nodes) c.take_in-answer.ensures;
      reported =
          reported_taken (salvageable c.args.s.now c.in-Ok.found c.in-Ok.ensures) T (reply c.take_in-answer.result) c.from.result c.from.ensures
          c.report_of-in-Ok.ensures;
    }
