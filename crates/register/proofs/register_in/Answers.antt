-- The parts are the first m slots and slot m is zero: a number not found among them is new, and enters there.
use mathlib.Core.Path.{sym}
use native.Mathlib.Omega.{arith}
use Rattle.ground.proofs.Calls.{promise_refused}
use Rattle.register.specs.Calls.{registering}
use Rattle.register.proofs.Sound.{ready_free}
use Rattle.register.proofs.Slots.{number_short}
use Rattle.register.proofs.Answers.{registering_3, registering_16, registering_9, registering_12, registering_enters}
use Rattle.register.proofs.register_in.Goals as goal

pub returns-then-not-good_number : goal.returns-then-not-good_number
returns-then-not-good_number c =
    let R = c.args.reg.now in
    let n = c.args.num.now in
    promise_refused (registering n R) R 3 0 (registering_3 R c.requires n (sym c.if-not-good_number.ensures))

pub returns-then-punctuation_at_end : goal.returns-then-punctuation_at_end
returns-then-punctuation_at_end c =
    let R = c.args.reg.now in
    let n = c.args.num.now in
    promise_refused (registering n R) R 16 0
    (registering_16 R c.requires n (sym c.if-not-good_number.ensures) (sym c.if-punctuation_at_end.ensures))

pub returns-in-Some : goal.returns-in-Some
returns-in-Some c =
    let R = c.args.reg.now in
    let n = c.args.num.now in
    promise_refused (registering n R) R 9 _
    (registering_9 R c.requires n (sym c.if-not-good_number.ensures) (sym c.if-punctuation_at_end.ensures) _ c.in-Some.ensures.1
    c.in-Some.ensures.0)

pub returns-then-count_slots-m : goal.returns-then-count_slots-m
returns-then-count_slots-m c =
    let R = c.args.reg.now in
    let n = c.args.num.now in
    promise_refused (registering n R) R 12 1
    (registering_12 R c.requires n (sym c.if-not-good_number.ensures) (sym c.if-punctuation_at_end.ensures) c.in_default.ensures
    (omega (arith, c.count_parts-m.ensures.fact_1, c.count_slots.ensures.fact_1)))

pub put_slot-requires-clause-zero : goal.put_slot-requires-clause-zero
put_slot-requires-clause-zero c = ready_free c.args.reg.now c.requires _ c.count_parts-m.ensures.fact_1

pub put_slot-requires-clause-fits : goal.put_slot-requires-clause-fits
put_slot-requires-clause-fits c = number_short _ (sym c.if-not-good_number.ensures)

pub returns : goal.returns
returns c =
    registering_enters c.args.reg.now c.requires c.args.num.now (sym c.if-not-good_number.ensures)
    (sym c.if-punctuation_at_end.ensures) _ _ c.count_parts-m.ensures.fact_1 c.in_default.ensures (omega arith) c.put_slot.ensures
