-- The lengths alone refuse; past them the table is made zero, whatever stood in it.
use mathlib.Core.Path.{refl}
use Rattle.answers.proofs.Answers.{refuses, handed_reply}
use Rattle.makers.proofs.Answers.{zeroing_refused, zeroing_done}
use Rattle.makers.proofs.zero_makers.Goals as goal

pub returns-in_err-check_sizes : goal.returns-in_err-check_sizes
returns-in_err-check_sizes c =
    rw (handed_reply _ _ c.from_residual.ensures.1)
    (zeroing_refused c.args.reg.now c.args.makers.now _ c.in_err-check_sizes.ensures (refuses _))

pub returns : goal.returns
returns c =
    zeroing_done c.args.reg.now c.args.makers.now _ c.in_ok-check_sizes.ensures refl _ c.clear.ensures
