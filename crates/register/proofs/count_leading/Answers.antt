-- The first unused slot of the rest is the first of all.
use mathlib.Core.Path.{sym, ◌∙◌}
use native.Mathlib.Omega.{arith}
use native.Mathlib.Nat.{sub-zero}
use Rattle.ground.proofs.Laws.{first_from_here, first_from_on, first_from_end}
use Rattle.register.specs.Register.{unused_at}
use Rattle.register.specs.Inner.{leading}
use Rattle.register.proofs.Slots.{unused_no, unused_yes}
use Rattle.register.proofs.count_leading.Goals as goal

pub loop-k-init : goal.loop-k-init
unfolding leading
loop-k-init c = (c.count_slots-n.ensures.fact_1, rw (c.count_slots-n.ensures.fact_1, sub-zero))

pub returns-then-length_at-eq0 : goal.returns-then-length_at-eq0
returns-then-length_at-eq0 c =
    let free = unused_yes c.args.reg.now c.loop-k.k (sym c.length_at.ensures.fact_1 ∙ c.if-length_at-eq0.true) in
    sym (first_from_here _ _ c.loop-k-test.true _ (unused_at c.args.reg.now) free) ∙ c.loop-k.invariant.1

pub loop-k-preserved : goal.loop-k-preserved
loop-k-preserved c =
    let used = unused_no c.args.reg.now c.loop-k.k (λ e. c.if-length_at-eq0.false (c.length_at.ensures.fact_1 ∙ e)) in (
      c.loop-k.invariant.0,
      sym (first_from_on _ _ c.loop-k-test.true _ (unused_at c.args.reg.now) used) ∙ c.loop-k.invariant.1,
    )

pub returns : goal.returns
returns c =
    let n = c.count_slots-n.result in
    sym (first_from_end n c.loop-k.k (omega arith) n (unused_at c.args.reg.now)) ∙ c.loop-k.invariant.1
