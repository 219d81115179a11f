-- Only a held place shows, and its slot has a short number; any refusal gives the empty stretch at the start.
use mathlib.Core.Path.{◌≡◌, sym, refl}
use Prim.Native.Nat.{ℕ, ◌-◌}
use native.Mathlib.Omega.{arith}
use Rattle.ground.specs.Calls.{leaves, answer}
use Rattle.ground.proofs.Calls.{leaves_done, refused_leaves}
use Rattle.ground.proofs.Stretch.{stretch_same}
use Rattle.answers.proofs.Answers.{refuses}
use Rattle.register.specs.Calls.{showing, stretch_from, stretch_size}
use Rattle.register.proofs.Sound.{ready_short}
use Rattle.register.proofs.Answers.{shows}
use Rattle.register.proofs.show.Goals as goal

pub overflow_sub-from : goal.overflow_sub-from
overflow_sub-from c =
    omega (arith, c.from.ensures, (shows c.args.reg.now c.args.place _ (sym c.in-Ok.ensures)).some)

pub number_at-requires-clause-fact_1 : goal.number_at-requires-clause-fact_1
number_at-requires-clause-fact_1 c =
    let s = shows c.args.reg.now c.args.place _ (sym c.in-Ok.ensures) in
    omega (arith, s.some, s.held, c.from.ensures, (ready_short c.args.reg.now s.ready _ refl).inside)

pub number_at-requires-clause-fact_2 : goal.number_at-requires-clause-fact_2
number_at-requires-clause-fact_2 c =
    let s = shows c.args.reg.now c.args.place _ (sym c.in-Ok.ensures) in
    (ready_short c.args.reg.now s.ready _ refl).short (c.from.result - 1) (omega (arith, s.some, s.held, c.from.ensures))

pub returns-in-Ok : goal.returns-in-Ok
unfolding stretch_from stretch_size
returns-in-Ok c =
    let R = c.args.reg.now in
    let p = c.args.place in
    let d : (x : ℕ) → leaves (answer (showing p R)) 0 x ≡ x = λ x. leaves_done _ _ 0 x (sym c.in-Ok.ensures) in
    stretch_same c.number_at.ensures.fact_1 (rw (d, c.from.ensures)) (rw (d, c.from.ensures))

pub returns-in-Err : goal.returns-in-Err
unfolding stretch_from stretch_size
returns-in-Err c =
    let z : (x : ℕ) → leaves (answer (showing c.args.place c.args.reg.now)) 0 x ≡ 0 =
    λ x. rw (sym c.in-Err.ensures) (refused_leaves _ 0 x (refuses _)) in
    record { block = refl; start = rw z (omega arith); holds = rw z }
