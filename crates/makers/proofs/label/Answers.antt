-- An empty stretch of the register where refused; otherwise the place's number in the maker's table where one is set, and in the register where none is.
use mathlib.Core.Path.{refl, sym, ap, ◌∙◌}
use Prim.Native.Nat.{◌-◌}
use native.Mathlib.Omega.{arith}
use Rattle.answers.proofs.Answers.{refuses}
use Rattle.makers.specs.Calls.{beside}
use Rattle.makers.proofs.Answers.{FoundBeside, Inside, found_beside, inside_makers, inside_ours, shows_makers, shows_none, shows_ours}
use Rattle.makers.proofs.label.Goals as goal
use Rattle.makers.proofs.label.Goals.{After-from-k, In-Ok}

-- a place that `label_answer` lets pass, and its slot in both tables
known : (c : In-Ok) → FoundBeside c.args.place (beside c.args.reg.now c.args.makers.now)
known c = found_beside _ _ _ _ c.in-Ok.ensures refl

ours : (c : After-from-k) → Inside c.args.reg.now (c.from-k.result - 1)
ours c = inside_ours (known (goal.at.After-from-k c).In-Ok) _ (ap (λ x. x - 1) c.from-k.ensures)

makers : (c : After-from-k) → Inside c.args.makers.now (c.from-k.result - 1)
makers c = inside_makers (known (goal.at.After-from-k c).In-Ok) _ (ap (λ x. x - 1) c.from-k.ensures)

pub returns-in_default : goal.returns-in_default
returns-in_default c =
    shows_none c.args.reg.now c.args.makers.now c.args.place _ c.in_default.ensures
    c.args.reg c.args.makers (refuses _) (record { block = refl; start = omega arith; holds = refl })

pub overflow_sub-k : goal.overflow_sub-k
overflow_sub-k c = omega (arith, (known (goal.at.overflow_sub-k c).In-Ok).some, c.from-k.ensures)

pub length_at-requires : goal.length_at-requires
length_at-requires c = (makers c).there

pub number_at-requires : goal.number_at-requires
number_at-requires c =
    let i = ours (goal.at.number_at-requires c).After-from-k in
    record { fact_1 = i.there; fact_2 = i.short }

pub returns-then-length_at-eq0 : goal.returns-then-length_at-eq0
returns-then-length_at-eq0 c =
    shows_ours c.args.reg.now c.args.makers.now c.args.place _ c.in-Ok.ensures refl
    _ (ap (λ x. x - 1) c.from-k.ensures) c.args.reg c.args.makers
    (sym c.length_at.ensures.fact_1 ∙ c.if-length_at-eq0.true) c.number_at.ensures.fact_1

pub number_at-requires-2 : goal.number_at-requires-2
number_at-requires-2 c =
    let i = makers (goal.at.number_at-requires-2 c).After-from-k in
    record { fact_1 = i.there; fact_2 = i.short }

pub returns : goal.returns
returns c =
    shows_makers c.args.reg.now c.args.makers.now c.args.place _ c.in-Ok.ensures refl
    _ (ap (λ x. x - 1) c.from-k.ensures) c.args.reg c.args.makers
    (λ z. c.if-length_at-eq0.false (c.length_at.ensures.fact_1 ∙ z)) c.number_at-2.ensures.fact_1
