-- A lookup refused is the answer and leaves the places; otherwise the words read are the list that is asked of.
use mathlib.Core.Path.{sym}
use lib.Seq.{length-take-le}
use Rattle.ground.specs.Tables.{tables}
use Rattle.ground.specs.Calls.{number_of, value_of}
use Rattle.answers.specs.Answers.{reply}
use Rattle.desk_text.specs.Letters.{byte_of}
use Rattle.desk_text.specs.Lines.{fields_from}
use Rattle.desk_lines.proofs.Answering.{read_stopped, read_typed, read_inside}
use Rattle.desk_lines.proofs.Outputs.{ask_typed, ask_stopped}
use Rattle.desk_lines.proofs.ask_line.Goals as goal

pub returns-in-Err : goal.returns-in-Err
returns-in-Err c =
    let a = c.args in
    let b = c.read_list-read.result in
    let it = ask_stopped (byte_of a.letter) a.tag (fields_from a.line.now a.from) a.places.now (tables a.reg.now a.nodes.now)
    (number_of (reply b)) (value_of (reply b))
    (read_stopped _ _ _ b _ c.read_list-read.ensures _ c.in-Err.is)
    c.put_answer.ensures in
    record { answers = it.0; places = it.1 }

pub slice_bounds-list-end : goal.slice_bounds-list-end
slice_bounds-list-end c = read_inside _ _ _ _ _ c.read_list-read.ensures _ c.in-Ok.is

pub slice_bounds-ask-end : goal.slice_bounds-ask-end
slice_bounds-ask-end c = sym (length-take-le _ _ (read_inside _ _ _ _ _ c.read_list-read.ensures _ c.in-Ok.is))

pub returns-in-Ok : goal.returns-in-Ok
returns-in-Ok c =
    let a = c.args in
    let it = ask_typed (byte_of a.letter) a.tag (fields_from a.line.now a.from) a.places.now (tables a.reg.now a.nodes.now) _ _ _
    (read_typed _ _ _ _ _ c.read_list-read.ensures _ c.in-Ok.is)
    (c.ask.ensures.answers, c.ask.ensures.places) in
    record { answers = it.0; places = it.1 }
