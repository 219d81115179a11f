-- The numbers passed, then what the rest reads as, are all; one that ends where it starts is at fault, and so is one that those passed have.
use mathlib.Core.Path.{◌≡◌, refl, ◌∙◌}
use native.Mathlib.Omega.{arith}
use Rattle.ground.specs.Lists.{anyb, eq_list}
use Rattle.ground.proofs.Laws.{get_d_zeros}
use Rattle.repeats.specs.Inner.{number_here, hashes}
use Rattle.repeats.proofs.Repeats.{offsets_on, hashed_none, hashed_set}
use Rattle.sheet.specs.Inner.{head_bytes}
use Rattle.sheet_judge.proofs.Numbers.{numbering_start, numbering_fault, numbering_on, numbering_end, number_twice, number_taken}
use Rattle.sheet_judge.proofs.Offsets.{items_inside, told_among}
use Rattle.sheet_judge.proofs.read_numbers.Goals as goal
use Rattle.sheet_judge.proofs.read_numbers.Goals.{After-repeats_earlier}

-- this number is one of those seen just when it repeats one before it
told : (c : After-repeats_earlier) →
    anyb (eq_list (number_here c.args.s.now c.loop-k.at)) c.loop-k.invariant.0.seen ≡ c.repeats_earlier.result
told c =
    let N = c.loop-k.invariant.0 in
    N.same _ ∙ told_among c.args.s.now _ head_bytes c.loop-k.k c.loop-k.at
    (offsets_on _ c.loop-k.invariant.2 (omega arith) N.ends) N.ends _ c.repeats_earlier.ensures.fact_1

pub loop-k-init : goal.loop-k-init
loop-k-init c = (
  numbering_start c.args.s.now c.args.n c.requires.inside,
  omega arith,
  record { long = refl; at = λ i u. absurd (omega arith) },
  hashed_none _ _ _ refl refl (λ h. get_d_zeros hashes h),
)

pub returns-in_default : goal.returns-in_default
returns-in_default c =
    let N = c.loop-k.invariant.0 in
    numbering_fault N (omega arith) (c.in_default.ensures N.seen)

pub repeats_earlier-requires : goal.repeats_earlier-requires
repeats_earlier-requires c =
    let N = c.loop-k.invariant.0 in
    record {
      fact_1 = items_inside c.args.s.now _ head_bytes c.loop-k.k c.loop-k.at
          (offsets_on _ c.loop-k.invariant.2 (omega arith) N.ends) N.ends (omega arith)
          c.in-Some.ensures.inside;
      fact_2 = hashed_set c.args.s.now _ _ _ c.loop-k.k _ c.loop-k.invariant.3;
    }

pub returns-then-repeats_earlier : goal.returns-then-repeats_earlier
returns-then-repeats_earlier c =
    let N = c.loop-k.invariant.0 in
    numbering_fault N (omega arith)
    (number_twice c.args.s.now c.loop-k.at N.seen c.in-Some.ensures.good
    (told (goal.at.returns-then-repeats_earlier c).After-repeats_earlier ∙ c.if-repeats_earlier.true))

pub loop-k-preserved : goal.loop-k-preserved
loop-k-preserved c =
    let N = c.loop-k.invariant.0 in
    let m = c.in-Some.ensures in (
      numbering_on N (omega arith) c.in-Some.end
          (m.ends ∙ number_taken c.args.s.now c.loop-k.at N.seen m.inside m.good
          (told (goal.at.loop-k-preserved c).After-repeats_earlier ∙ c.if-repeats_earlier.false))
          (λ e. omega (arith, m.ends)),
      omega (arith, c.loop-k.invariant.1, m.ends, c.type_inv.s c.loop-k.at),
      offsets_on _ c.loop-k.invariant.2 (omega arith) N.ends,
      c.repeats_earlier.ensures.fact_2,
    )

pub returns : goal.returns
returns c = numbering_end c.loop-k.invariant.0 (omega arith)
