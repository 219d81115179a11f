-- Not where refused; otherwise where the place's slot of the maker's table is used, as its length byte says.
use mathlib.Core.Path.{sym, ap, ◌∙◌}
use Prim.Native.Nat.{◌-◌}
use native.Mathlib.Omega.{arith}
use Rattle.ground.specs.Calls.{is_refused}
use Rattle.answers.proofs.Answers.{refuses}
use Rattle.register.specs.Register.{used_at}
use Rattle.makers.specs.Calls.{beside}
use Rattle.makers.proofs.Answers.{found_makers, label_empty, label_shown_lem, show_found}
use Rattle.face.proofs.Face.{used_said}
use Rattle.face.proofs.is_makers.Goals as goal

pub overflow_sub-from : goal.overflow_sub-from
overflow_sub-from c = omega (arith, (show_found _ _ _ (sym c.in-Ok.ensures)).some, c.from.ensures)

pub length_at-requires : goal.length_at-requires
length_at-requires c = omega (arith, found_makers (show_found _ _ _ (sym c.in-Ok.ensures)), c.from.ensures)

pub returns-in-Ok : goal.returns-in-Ok
returns-in-Ok c =
    let a = c.args in
    let M = a.makers.now in
    used_said M _ _ c.length_at.ensures.fact_1 ∙ ap (λ x. used_at M (x - 1)) c.from.ensures
    ∙ sym (label_shown_lem a.place (beside a.reg.now M) _ (sym c.in-Ok.ensures)).0

pub returns-in-Err : goal.returns-in-Err
returns-in-Err c =
    let a = c.args in
    sym (label_empty a.place (beside a.reg.now a.makers.now) (ap is_refused (sym c.in-Err.ensures) ∙ refuses _)).0
