-- What the check refuses is refused so.
use mathlib.Core.Path.{◌∙◌}
use Rattle.answers.proofs.Answers.{refuses, handed_reply}
use Rattle.register.proofs.Answers.{looking_up_refused}
use Rattle.register.proofs.look_up.Goals as goal

pub returns-in_err-check_register : goal.returns-in_err-check_register
returns-in_err-check_register c =
    handed_reply _ _ c.from_residual.ensures.1
    ∙ looking_up_refused c.args.reg.now _ c.in_err-check_register.ensures.refuses (refuses _) c.args.num.now
