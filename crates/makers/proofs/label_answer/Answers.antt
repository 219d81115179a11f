-- Both tables are asked first; of sound ones every place that a part has is shown.
use mathlib.Core.Path.{sym, ap, ◌∙◌}
use Rattle.ground.specs.Calls.{is_refused}
use Rattle.answers.proofs.Answers.{refuses, handed_reply}
use Rattle.makers.proofs.Answers.{SoundBeside, beside_passed, label_11, label_done, label_refused}
use Rattle.makers.proofs.label_answer.Goals as goal
use Rattle.makers.proofs.label_answer.Goals.{In_ok-check_beside}

-- both tables passed
sound : (c : In_ok-check_beside) → SoundBeside c.args.reg.now c.args.makers.now
sound c = beside_passed _ _ (ap is_refused (sym c.in_ok-check_beside.ensures))

pub returns-in_err-check_beside : goal.returns-in_err-check_beside
returns-in_err-check_beside c =
    handed_reply _ _ c.from_residual.ensures.1
    ∙ label_refused c.args.reg.now c.args.makers.now c.args.place _ c.in_err-check_beside.ensures (refuses _)

pub no_part-requires : goal.no_part-requires
no_part-requires c = (sound c).ready

pub returns-then-no_part : goal.returns-then-no_part
returns-then-no_part c =
    sym (label_11 _ _ c.args.place (sound (goal.at.returns-then-no_part c).In_ok-check_beside) (sym c.if-no_part.ensures))

pub returns : goal.returns
returns c =
    sym (label_done _ _ c.args.place (sound (goal.at.returns c).In_ok-check_beside) (sym c.if-no_part.ensures))
