-- What `label_answer` refuses is refused so; otherwise the place has a slot in the maker's table, and it is cleared.
use mathlib.Core.Path.{ap, refl}
use Prim.Native.Nat.{◌-◌}
use native.Mathlib.Omega.{arith}
use Rattle.answers.proofs.Answers.{refuses, handed_reply}
use Rattle.makers.specs.Calls.{beside}
use Rattle.makers.proofs.Answers.{FoundBeside, clearing_done, clearing_refused, found_makers, found_beside}
use Rattle.makers.proofs.clear_maker.Goals as goal
use Rattle.makers.proofs.clear_maker.Goals.{In_ok-label_answer}

-- a place that `label_answer` lets pass
known : (c : In_ok-label_answer) → FoundBeside c.args.place (beside c.args.reg.now c.args.makers.now)
known c = found_beside _ _ _ _ c.in_ok-label_answer.ensures refl

pub returns-in_err-label_answer : goal.returns-in_err-label_answer
returns-in_err-label_answer c =
    rw (handed_reply _ _ c.from_residual.ensures.1)
    (clearing_refused c.args.reg.now c.args.makers.now c.args.place _ c.in_err-label_answer.ensures (refuses _))

pub overflow_sub-from : goal.overflow_sub-from
overflow_sub-from c = omega (arith, (known (goal.at.overflow_sub-from c).In_ok-label_answer).some, c.from.ensures)

pub clear_slot-requires : goal.clear_slot-requires
clear_slot-requires c =
    omega (arith, found_makers (known (goal.at.clear_slot-requires c).In_ok-label_answer), c.from.ensures)

pub returns : goal.returns
returns c =
    clearing_done c.args.reg.now c.args.makers.now c.args.place _ c.in_ok-label_answer.ensures refl _
    (ap (λ x. x - 1) c.from.ensures) _ c.clear_slot.ensures
