-- The pairs passed are good, so the rest decide; a number at the end of the line lacks its quantity.
use mathlib.Core.Path.{refl, sym, ◌∙◌}
use Prim.Native.Nat.{◌<◌}
use native.Mathlib.Omega.{arith}
use lib.ListN.{length}
use Rattle.desk_text.proofs.Amounts.{good_if_some}
use Rattle.desk_text.proofs.Lines.{pairs_odd, pairs_no, pairs_yes, pairs_end}
use Rattle.desk_text.proofs.good_pairs.Goals as goal

pub loop-at-init : goal.loop-at-init
loop-at-init c = (c.requires, refl)

pub returns-then-number_end-line : goal.returns-then-number_end-line
returns-then-number_end-line c = cc (pairs_odd _ _ _ c.loop-at-test.true c.end_of-number_end.ensures c.if-number_end-line.true)

pub overflow_add-start : goal.overflow_add-start
overflow_add-start c = omega (arith, c.end_of-number_end.ensures.high)

pub end_of-end-requires : goal.end_of-end-requires
end_of-end-requires c = omega (arith, c.end_of-number_end.ensures.high, c.if-number_end-line.false)

pub overflow_add-at : goal.overflow_add-at
overflow_add-at c = omega (arith, c.end_of-end.ensures.high)

pub slice_bounds-read_amount-count : goal.slice_bounds-read_amount-count
slice_bounds-read_amount-count c = omega (arith, c.end_of-end.ensures.low)

pub slice_bounds-read_amount-start : goal.slice_bounds-read_amount-start
slice_bounds-read_amount-start c = omega (arith, c.end_of-end.ensures.low, c.end_of-end.ensures.high)

pub slice_bounds-read_amount-end : goal.slice_bounds-read_amount-end
slice_bounds-read_amount-end c = omega (arith, c.end_of-end.ensures.high)

pub returns-then-is_none : goal.returns-then-is_none
returns-then-is_none c =
    let g : c.end_of-number_end.result < length c.args.line.now = omega
    (arith, c.end_of-number_end.ensures.high, c.if-number_end-line.false) in
    let bad = sym (good_if_some _ _ c.read_amount.ensures) ∙ c.if-is_none.ensures in
    sym (pairs_no _ _ _ c.loop-at-test.true c.end_of-number_end.ensures _ g c.end_of-end.ensures bad) ∙ c.loop-at.invariant.1

pub loop-at-smaller : goal.loop-at-smaller
loop-at-smaller c =
    omega (arith, c.end_of-end.ensures.low, c.end_of-number_end.ensures.low)

pub loop-at-preserved : goal.loop-at-preserved
loop-at-preserved c =
    let g : c.end_of-number_end.result < length c.args.line.now = omega
    (arith, c.end_of-number_end.ensures.high, c.if-number_end-line.false) in
    let good = sym (good_if_some _ _ c.read_amount.ensures) ∙ c.if-is_none.ensures in (
      omega (arith, c.end_of-end.ensures.high),
      sym (pairs_yes _ _ _ c.loop-at-test.true c.end_of-number_end.ensures _ g c.end_of-end.ensures good) ∙ c.loop-at.invariant.1,
    )

pub returns : goal.returns
returns c = cc (pairs_end _ _ c.loop-at-test.false)
