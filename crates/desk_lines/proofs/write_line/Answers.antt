-- What the call says that it set down lies inside the sheet's room, so just that is printed.
use native.Mathlib.Omega.{arith}
use Rattle.ground.specs.Tables.{tables}
use Rattle.catalogue.specs.Calls.{writing}
use Rattle.desk_text.specs.Letters.{writes}
use Rattle.desk_lines.specs.Desk.{sheet_text, write_line}
use Rattle.desk_lines.proofs.Answering.{written_inside, shown_put}
use Rattle.desk_lines.proofs.write_line.Goals as goal

pub put_written-requires : goal.put_written-requires
put_written-requires c =
    let a = c.args in
    record {
      room = omega (arith, c.write_sheet-a.auto.out);
      inside = written_inside
          (tables a.reg.now a.nodes.now) a.sheet.now _ _ c.write_sheet-a.ensures;
    }

pub returns : goal.returns
unfolding write_line
returns c =
    let a = c.args in
    record {
      says = shown_put writes sheet_text (writing (tables a.reg.now a.nodes.now) a.sheet.now) a.sheet.now _ _
          c.write_sheet-a.ensures c.put_written.ensures;
      sheet = c.write_sheet-a.ensures.lent;
    }
