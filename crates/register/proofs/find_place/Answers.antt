-- The slots searched are just the parts: a slot found is the place less one, and none found is no place.
use mathlib.Core.Path.{◌≡◌, ap, sym, ◌∙◌}
use native.Mathlib.Omega.{arith}
use Rattle.ground.specs.Lists.{eq_list}
use Rattle.ground.proofs.Laws.{first_from_here, first_from_on, first_from_end}
use Rattle.register.specs.Inner.{holds_at}
use Rattle.register.proofs.Sound.{few_parts_lem, ready_short}
use Rattle.register.proofs.Places.{ready_found, ready_missing}
use Rattle.register.proofs.find_place.Goals as goal
use Rattle.register.proofs.find_place.Goals.{After-same}

-- whether the slot holds the number
told : (c : After-same) → c.same.result ≡ holds_at c.args.reg.now c.args.num.now c.loop-k.k
unfolding holds_at
told c = c.same.ensures ∙ ap (eq_list c.args.num.now) c.number_at.ensures.fact_2

pub number_at-requires-clause-fact_1 : goal.number_at-requires-clause-fact_1
number_at-requires-clause-fact_1 c =
    omega (arith, (ready_short c.args.reg.now c.requires.ready c.args.parts c.requires.counted).inside)

pub number_at-requires-clause-fact_2 : goal.number_at-requires-clause-fact_2
number_at-requires-clause-fact_2 c =
    (ready_short c.args.reg.now c.requires.ready c.args.parts c.requires.counted).short c.loop-k.k c.loop-k-test.true

pub returns-then-same : goal.returns-then-same
returns-then-same c =
    let R = c.args.reg.now in
    let n = c.args.num.now in
    let k = c.loop-k.k in
    let holds = sym (told (goal.at.returns-then-same c).After-same) ∙ c.if-same.true in
    let first = sym (first_from_here c.args.parts k c.loop-k-test.true c.args.parts (holds_at R n) holds) ∙ c.loop-k.invariant in (
      ready_found R n c.requires.ready c.args.parts k c.requires.counted first c.loop-k-test.true,
      omega arith,
      omega (arith, few_parts_lem R c.requires.ready),
    )

pub loop-k-preserved : goal.loop-k-preserved
loop-k-preserved c =
    let other = sym (told (goal.at.loop-k-preserved c).After-same) ∙ c.if-same.false in
    sym (first_from_on c.args.parts c.loop-k.k c.loop-k-test.true c.args.parts (holds_at c.args.reg.now c.args.num.now) other)
    ∙ c.loop-k.invariant

pub returns : goal.returns
returns c =
    let R = c.args.reg.now in
    let n = c.args.num.now in
    let m = c.args.parts in
    let none = sym (first_from_end m c.loop-k.k (omega arith) m (holds_at R n)) ∙ c.loop-k.invariant in
    ready_missing R n c.requires.ready m m c.requires.counted none (omega arith)
