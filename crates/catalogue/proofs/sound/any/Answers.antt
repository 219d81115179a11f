-- Only the list can be refused; the first tag, or 0, is the value.
use mathlib.Core.Path.{refl, ◌∙◌}
use Rattle.answers.proofs.Answers.{refuses, handed_reply}
use Rattle.tables.proofs.Lent.{lent_sound, lines_asked, lines_passed}
use Rattle.catalogue.proofs.Answers.{any_refused, any_done}
use Rattle.catalogue.proofs.sound.any.Goals as goal

pub returns-in_err-check_lines : goal.returns-in_err-check_lines
returns-in_err-check_lines g c =
    let a = c.args in
    let asked = lines_asked _ _ _ c.requires _ c.in_err-check_lines.ensures in
    rw (handed_reply _ _ c.from_residual.ensures.1)
    (any_refused a.reg.now a.nodes.now a.list.now _ asked g.Q.Question.asks (refuses c.in_err-check_lines.field-0.0))

pub any-requires : goal.any-requires
any-requires g c = record {
  sound = lent_sound _ _ c.requires;
  good = lines_passed _ _ _ c.requires c.in_ok-check_lines.ensures;
}

pub returns : goal.returns
returns g c =
    let a = c.args in
    let asked = lines_asked _ _ _ c.requires _ c.in_ok-check_lines.ensures in
    any_done a.reg.now a.nodes.now a.list.now _ asked g.Q.Question.asks _ refl (c.from.ensures ∙ c.any.ensures)
