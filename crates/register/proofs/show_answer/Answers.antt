-- Length, then soundness, refuse; in a sound register every place that a part has is shown.
use mathlib.Core.Path.{sym, ◌∙◌}
use Rattle.answers.proofs.Answers.{refuses, handed_reply}
use Rattle.register.proofs.Answers.{showing_refused, showing_11, showing_held}
use Rattle.register.proofs.show_answer.Goals as goal

pub returns-in_err-check_register : goal.returns-in_err-check_register
returns-in_err-check_register c =
    handed_reply _ _ c.from_residual.ensures.1
    ∙ showing_refused c.args.reg.now _ c.in_err-check_register.ensures.refuses (refuses _) c.args.place

pub returns-then-no_part : goal.returns-then-no_part
returns-then-no_part c =
    sym (showing_11 c.args.reg.now c.in_ok-check_register.ensures.passes c.args.place (sym c.no_part.ensures ∙ c.if-no_part.true))

pub returns : goal.returns
returns c =
    sym (showing_held c.args.reg.now c.in_ok-check_register.ensures.passes c.args.place (sym c.no_part.ensures ∙ c.if-no_part.false))
