-- As `put_listed`: done, the value says how many bytes are the sheet, and they lie inside its room.
use Rattle.desk_lines.specs.Desk.{sheet_text}
use Rattle.desk_text.specs.Letters.{writes}
use Rattle.desk_lines.proofs.Answering.{printed_refused, printed_done, done_length, done_inside}
use native.Mathlib.Omega.{arith}
use Rattle.desk_lines.proofs.put_written.Goals as goal

pub returns-in-Err : goal.returns-in-Err
returns-in-Err c =
    let a = c.args in
    printed_refused a.a a.sheet.now writes sheet_text _ c.in-Err.is c.put_answer.ensures

pub slice_bounds-put_sheet-end : goal.slice_bounds-put_sheet-end
slice_bounds-put_sheet-end c = done_length c.args.a c.args.sheet.now _ c.in-Ok.is c.requires.inside

pub put_sheet-requires : goal.put_sheet-requires
put_sheet-requires c =
    let a = c.args in
    let n = done_length a.a a.sheet.now _ c.in-Ok.is c.requires.inside in
    let i = done_inside a.a a.sheet.now _ c.in-Ok.is c.requires.inside in
    omega (arith, c.requires.room)

pub returns-in-Ok : goal.returns-in-Ok
unfolding sheet_text
returns-in-Ok c =
    let a = c.args in
    printed_done a.a a.sheet.now _ c.in-Ok.is c.requires.inside writes sheet_text (rw c.byte.ensures at c.put_sheet.ensures)
