-- Done, the value stands in the first place; refused, in the third.
use mathlib.Core.Path.{refl, ap, ◌∙◌}
use Rattle.ground.specs.Calls.{is_refused}
use Rattle.answers.specs.Answers.{reply}
use Rattle.answers.proofs.Answers.{refuses}
use Rattle.sheet.specs.Calls.{report_of}
use Rattle.sheet_read.proofs.Promised.{report_refused}
use Rattle.sheet_read.proofs.report_of.Goals as goal

pub returns-in-Ok : goal.returns-in-Ok
unfolding report_of
returns-in-Ok c = λ k. rw c.in-Ok.is refl

pub returns-in-Err : goal.returns-in-Err
returns-in-Err c =
    λ k. report_refused (reply c.args.a) (record { kept = k; announced = c.args.announced; stopped = c.args.end })
    c.reply_of.ensures.value (ap (λ a. is_refused (reply a)) c.in-Err.is ∙ refuses _)
