-- The place found, or none.
use mathlib.Core.Path.{sym}
use Rattle.register.proofs.Answers.{looking_up_3, looking_up_found}
use Rattle.register.proofs.look_up_in.Goals as goal

pub returns-then-not-good_number-clause-fact_1 : goal.returns-then-not-good_number-clause-fact_1
returns-then-not-good_number-clause-fact_1 c =
    sym (looking_up_3 c.args.reg.now c.requires c.args.num.now (sym c.if-not-good_number.ensures))

pub returns-clause-fact_1 : goal.returns-clause-fact_1
returns-clause-fact_1 c =
    rw c.ok_or.ensures.value
    (looking_up_found c.args.reg.now c.requires c.args.num.now (sym c.if-not-good_number.ensures) _ c.find_place.ensures)
