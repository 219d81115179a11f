-- One that repeats an earlier number decides for all.
use mathlib.Core.Path.{refl, sym}
use native.Mathlib.Omega.{arith}
use Rattle.ground.proofs.Laws.{get_d_zeros}
use Rattle.repeats.specs.Inner.{entry_of, hashes}
use Rattle.repeats.proofs.Repeats.{hashed_none, once_none, once_no, once_on}
use Rattle.repeats.proofs.none_repeats.Goals as goal

pub loop-k-init : goal.loop-k-init
loop-k-init c =
    (hashed_none _ _ _ refl refl (λ h. get_d_zeros hashes h), once_none (entry_of c.args.s.now c.args.at.now))

pub returns-then-repeats_earlier : goal.returns-then-repeats_earlier
returns-then-repeats_earlier c =
    sym (once_no (entry_of c.args.s.now c.args.at.now) c.loop-k.k _ c.repeats_earlier.ensures.fact_1 c.args.m
    (omega arith) c.if-repeats_earlier.true)

pub loop-k-preserved : goal.loop-k-preserved
loop-k-preserved c = (
  c.repeats_earlier.ensures.fact_2,
  once_on (entry_of c.args.s.now c.args.at.now) c.loop-k.k _ c.repeats_earlier.ensures.fact_1 c.if-repeats_earlier.false
      c.loop-k.invariant.1,
)
