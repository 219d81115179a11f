-- The one field from the position on is the rest of the line.
use mathlib.Core.Path.{sym}
use Rattle.answers.specs.Answers.{reply}
use Rattle.desk_text.specs.Lines.{fields_from}
use Rattle.desk_lines.proofs.Answering.{register_put}
use Rattle.desk_lines.proofs.Good.{one_inside, one_field}
use Rattle.desk_lines.proofs.register_line.Goals as goal

pub slice_bounds-register_in-count : goal.slice_bounds-register_in-count
slice_bounds-register_in-count c =
    one_inside _ _ c.requires.one_number

pub slice_bounds-register_in-start : goal.slice_bounds-register_in-start
slice_bounds-register_in-start c =
    one_inside _ _ c.requires.one_number

pub returns : goal.returns
returns c =
    let a = c.args in
    register_put (fields_from a.line.now a.from) a.reg.now a.nodes.now _ (reply c.register_in.result) _
    (sym (one_field _ _ c.requires.one_number)) c.register_in.ensures c.put_answer.ensures
