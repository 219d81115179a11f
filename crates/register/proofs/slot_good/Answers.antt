-- A length byte above 24 can leave no good number; otherwise first the number decides, and then the zeros.
use mathlib.Core.Path.{◌≡◌, sym, ◌∙◌}
use Prim.Native.Nat.{◌-◌, ◌+◌}
use native.Mathlib.Omega.{arith}
use lib.ListN.{get_or, take, drop}
use borrow.Author.Rules.{part_to_end}
use Rattle.register.specs.Number.{good_number}
use Rattle.register.proofs.Slots.{slot_long, slot_no, slot_yes}
use Rattle.register.proofs.slot_good.Goals as goal
use Rattle.register.proofs.slot_good.Goals.{After-good_number}

-- what the number was found to be
told : (c : After-good_number) →
    let s = c.args.s.now in
    c.good_number.result ≡ good_number (take (get_or s 0 0) (drop 1 s))
told c =
    let e : 1 + c.from-n.result - 1 ≡ c.from-n.result = omega arith in
    rw (e, c.from-n.ensures) at c.good_number.ensures

pub returns-then-n-gt-LONGEST_NUMBER : goal.returns-then-n-gt-LONGEST_NUMBER
returns-then-n-gt-LONGEST_NUMBER c = sym (slot_long c.args.s.now c.requires (omega arith))

pub returns-then-good_number : goal.returns-then-good_number
returns-then-good_number c =
    let tells = told (goal.at.returns-then-good_number c).After-good_number in
    rw (part_to_end, c.from-n.ensures) at c.zeros.ensures
    ∙ sym (slot_yes c.args.s.now (sym tells ∙ c.if-good_number.true))

pub returns-else-good_number : goal.returns-else-good_number
returns-else-good_number c =
    let tells = told (goal.at.returns-else-good_number c).After-good_number in
    c.if-good_number.false ∙ sym (slot_no c.args.s.now (sym tells ∙ c.if-good_number.false))
