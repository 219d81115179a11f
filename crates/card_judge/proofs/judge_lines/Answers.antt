-- The lines passed, then what the rest reads as, are all; behind the last of them nothing may remain.
use mathlib.Core.Path.{◌≡◌, refl, ◌∙◌}
use Prim.Native.Nat.{ℕ}
use native.Mathlib.Omega.{arith}
use Rattle.std.specs.Prelude.{Option, None, Some, Ok, Err}
use Rattle.std.specs.Option.{ok_or}
use Rattle.std.proofs.lemmas.Result.{err_from_is_err_and}
use Rattle.card_judge.specs.Inner.{line_end}
use Rattle.card_judge.proofs.Lines.{line_stays}
use Rattle.card_judge.proofs.Walk.{judging_start, judging_fault, judging_more, judging_end, line_whole, judging_on}
use Rattle.card_judge.proofs.judge_lines.Goals as goal
use Rattle.card_judge.proofs.judge_lines.Goals.{In_ok-end}

-- where a line ends, or the place of one at fault
ends_at : (x : Option ℕ) (at r : ℕ) → Ok r ≡ ok_or x at → Some r ≡ x
ends_at None at r e = cc
ends_at (Some y) at r e = cc

stays_at : (x : Option ℕ) (at o : ℕ) → Err o ≡ ok_or x at → (None ≡ x) × (o ≡ at)
stays_at None at o e = (refl, cc)
stays_at (Some y) at o e = (cc, cc)

ends : (c : In_ok-end) → Some c.in_ok-end.end ≡ line_end c.args.s.now c.loop-k.prev c.loop-k.units c.loop-k.at
ends c = ends_at c.line_end.result c.loop-k.at c.in_ok-end.end c.in_ok-end.ensures.value ∙ c.line_end.ensures

pub loop-k-init : goal.loop-k-init
loop-k-init c =
    (c.requires.few, judging_start c.args.s.now c.args.card c.requires.inside)

pub line_end-requires : goal.line_end-requires
line_end-requires c =
    let J = c.loop-k.invariant.1 in
    record {
      inside = J.inside;
      before = J.latest;
      few = J.few;
    }

pub returns-in_err-end : goal.returns-in_err-end
returns-in_err-end c =
    let J = c.loop-k.invariant.1 in
    let p = err_from_is_err_and c.from_residual.result c.from_residual.ensures.1 in
    let f = stays_at c.line_end.result c.loop-k.at _ c.in_err-end.ensures.value in
    rw (p.1, p.2, f.1) (judging_fault J c.loop-k-test.true
    (line_stays c.args.s.now c.loop-k.prev c.loop-k.units c.loop-k.at J.seen J.sum J.rises (f.0 ∙ c.line_end.ensures)))

pub quantity_here-units-requires : goal.quantity_here-units-requires
quantity_here-units-requires c =
    line_whole c.loop-k.invariant.1 c.in_ok-end.end (ends c)

pub overflow_add-units : goal.overflow_add-units
overflow_add-units c =
    omega (arith, c.loop-k.invariant.1.few, c.quantity_here-units.ensures.byte)

pub loop-k-preserved : goal.loop-k-preserved
loop-k-preserved c = (
  c.loop-k.invariant.0,
  judging_on c.loop-k.invariant.1 c.in_ok-end.end (ends (goal.at.loop-k-preserved c).In_ok-end)
      c.quantity_here-units.result c.loop-k-test.true c.quantity_here-units.ensures.value,
)

pub returns-then-at-s : goal.returns-then-at-s
returns-then-at-s c =
    judging_more c.loop-k.invariant.1 (omega arith) c.if-at-s.true

pub returns : goal.returns
returns c =
    judging_end c.loop-k.invariant.1 (omega arith) c.if-at-s.false
