-- What the check refuses is refused so, and leaves every byte.
use Rattle.ground.proofs.Calls.{promise_first}
use Rattle.answers.proofs.Answers.{refuses, handed_reply}
use Rattle.register.specs.Calls.{registering}
use Rattle.register.proofs.Answers.{registering_refused}
use Rattle.register.proofs.register_number.Goals as goal

pub returns-in_err-check_register : goal.returns-in_err-check_register
returns-in_err-check_register c =
    rw (handed_reply _ _ c.from_residual.ensures.1)
    (promise_first (registering c.args.num.now c.args.reg.now) c.args.reg.now _ (refuses _)
    (registering_refused c.args.reg.now _ c.in_err-check_register.ensures.refuses (refuses _) c.args.num.now))
