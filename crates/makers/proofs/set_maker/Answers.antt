-- What `label_answer` refuses is refused so, and then a bad number; otherwise the place's slot is cleared, and the number laid in it.
use mathlib.Core.Path.{◌≡◌, sym, ap, refl}
use mathlib.Core.Bool.{true}
use Prim.Native.Nat.{◌-◌, ◌<◌}
use native.Mathlib.Omega.{arith}
use Rattle.answers.proofs.Answers.{refuses, handed_reply}
use Rattle.register.specs.Number.{good_number}
use Rattle.register.specs.Register.{slot_count}
use Rattle.register.proofs.Slots.{number_short}
use Rattle.makers.specs.Calls.{beside}
use Rattle.makers.proofs.Slots.{cleared_room, cleared_zero, slot_set_lem}
use Rattle.makers.proofs.Answers.{FoundBeside, found_makers, found_beside, setting_3, setting_done, setting_refused}
use Rattle.makers.proofs.set_maker.Goals as goal
use Rattle.makers.proofs.set_maker.Goals.{After-from-k, In_ok-label_answer}

-- a place that `label_answer` lets pass, and its slot in the maker's table
known : (c : In_ok-label_answer) → FoundBeside c.args.place (beside c.args.reg.now c.args.makers.now)
known c = found_beside _ _ _ _ c.in_ok-label_answer.ensures refl

room : (c : After-from-k) → c.from-k.result - 1 < slot_count c.args.makers.now
room c = omega (arith, found_makers (known (goal.at.After-from-k c).In_ok-label_answer), c.from-k.ensures)

pub returns-in_err-label_answer : goal.returns-in_err-label_answer
returns-in_err-label_answer c =
    rw (handed_reply _ _ c.from_residual.ensures.1)
    (setting_refused c.args.reg.now c.args.makers.now c.args.place _ c.in_err-label_answer.ensures c.args.num.now (refuses _))

pub returns-then-not-good_number : goal.returns-then-not-good_number
returns-then-not-good_number c =
    setting_3 c.args.reg.now c.args.makers.now c.args.place _ c.in_ok-label_answer.ensures refl c.args.num.now
    (sym c.if-not-good_number.ensures)

pub overflow_sub-k : goal.overflow_sub-k
overflow_sub-k c = omega (arith, (known (goal.at.overflow_sub-k c).In_ok-label_answer).some, c.from-k.ensures)

pub clear_slot-requires : goal.clear_slot-requires
clear_slot-requires c = omega (arith, room (goal.at.clear_slot-requires c).After-from-k)

pub put_slot-requires : goal.put_slot-requires
put_slot-requires c =
    let M = c.args.makers.now in
    let k = c.from-k.result - 1 in
    let r = room (goal.at.put_slot-requires c).After-from-k in
    record {
      there = cleared_room M k r _ c.clear_slot.ensures;
      zero = cleared_zero M k r _ c.clear_slot.ensures;
      fits = number_short _ (sym c.if-not-good_number.ensures);
    }

pub returns : goal.returns
returns c =
    let M = c.args.makers.now in
    let n = c.args.num.now in
    let k = c.from-k.result - 1 in
    let good : good_number n ≡ true = sym c.if-not-good_number.ensures in
    setting_done c.args.reg.now M c.args.place _ c.in_ok-label_answer.ensures refl k (ap (λ x. x - 1) c.from-k.ensures) n _ good
    (slot_set_lem M k (room (goal.at.returns c).After-from-k) _ c.clear_slot.ensures n _ (number_short _ good) c.put_slot.ensures)
