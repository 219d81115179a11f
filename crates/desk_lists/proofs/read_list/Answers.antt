-- The list so far, before what the pairs to come type, is all; a pair takes four bytes, so 256 words are enough.
use mathlib.Core.Path.{ap, sym, ◌∙◌}
use native.Mathlib.Omega.{arith}
use Rattle.ground.specs.Calls.{Reply, number_of, value_of, leaves}
use Rattle.ground.proofs.Calls.{refused_says, refused_leaves}
use Rattle.answers.specs.Answers.{refusal}
use Rattle.desk_lists.specs.Inner.{typed_as}
use Rattle.std.proofs.lemmas.Result.{err_from_is_err_and}
use Rattle.desk_text.proofs.Amounts.{good_if_some, amount_value}
use Rattle.desk_lists.proofs.Typing.{reading_start, reading_inside, reading_end, reading_stopped}
use Rattle.desk_lists.proofs.Typing.{reading_on, pair_room, quantity_follows, amount_follows}
use Rattle.answers.proofs.Answers.{refuses}
use Rattle.desk_lists.proofs.read_list.Goals as goal

pub loop-at-init : goal.loop-at-init
loop-at-init c = search reading_start

pub slice_bounds-look_up_in-count : goal.slice_bounds-look_up_in-count
slice_bounds-look_up_in-count c = omega (arith, c.end_of-number_end.ensures.low)

pub slice_bounds-look_up_in-start : goal.slice_bounds-look_up_in-start
slice_bounds-look_up_in-start c = omega (arith, c.end_of-number_end.ensures.low, c.end_of-number_end.ensures.high)

pub slice_bounds-look_up_in-end : goal.slice_bounds-look_up_in-end
slice_bounds-look_up_in-end c = omega (arith, c.end_of-number_end.ensures.high)

pub look_up_in-requires : goal.look_up_in-requires
look_up_in-requires c =
    c.requires.ready

pub returns-in_err-place : goal.returns-in_err-place
returns-in_err-place c =
    let p = err_from_is_err_and c.from_residual.result c.from_residual.ensures.1 in
    let e = c.in_err-place.field-0.0 in
    let q = refused_says (refusal e) (refuses e) in
    rw (p.1, p.2)
    (record {
      says = ap (λ (z : Reply). typed_as z c.loop-at.list) q
          ∙ reading_stopped c.loop-at.invariant c.end_of-number_end.result c.loop-at-test.true c.end_of-number_end.ensures
          (number_of (refusal e)) (value_of (refusal e)) (sym c.in_err-place.ensures.fact_1 ∙ q);
      inside = rw (refused_leaves (refusal e) 0 (value_of (refusal e)) (refuses e)) (omega arith);
    })

pub overflow_cast-place : goal.overflow_cast-place
overflow_cast-place c = omega (arith, c.in_ok-place.ensures.fact_2)

pub overflow_add-start : goal.overflow_add-start
overflow_add-start c =
    omega (arith, c.end_of-number_end.ensures.high)

pub end_of-end-requires : goal.end_of-end-requires
end_of-end-requires c =
    let q = quantity_follows _ _ _ c.loop-at.invariant.pairs c.loop-at-test.true c.end_of-number_end.ensures in
    omega arith

pub slice_bounds-read_amount-count : goal.slice_bounds-read_amount-count
slice_bounds-read_amount-count c = omega (arith, c.end_of-end.ensures.low)

pub slice_bounds-read_amount-start : goal.slice_bounds-read_amount-start
slice_bounds-read_amount-start c = omega (arith, c.end_of-end.ensures.low, c.end_of-end.ensures.high)

pub slice_bounds-read_amount-end : goal.slice_bounds-read_amount-end
slice_bounds-read_amount-end c = omega (arith, c.end_of-end.ensures.high)

pub unwrap-quantity-requires : goal.unwrap-quantity-requires
unwrap-quantity-requires c =
    good_if_some _ _ c.read_amount.ensures
    ∙ amount_follows _ _ _ c.loop-at.invariant.pairs c.loop-at-test.true c.end_of-number_end.ensures _ c.end_of-end.ensures

pub put_pair-requires : goal.put_pair-requires
put_pair-requires c = search pair_room

pub overflow_add-n : goal.overflow_add-n
overflow_add-n c =
    omega (
      arith,
      pair_room c.loop-at.invariant _ c.loop-at-test.true c.end_of-number_end.ensures _
          c.end_of-end.ensures,
      c.loop-at.invariant.size,
    )

pub overflow_add-at : goal.overflow_add-at
overflow_add-at c =
    omega (arith, c.end_of-end.ensures.high, c.loop-at.invariant.pairs.short)

pub loop-at-smaller : goal.loop-at-smaller
loop-at-smaller c =
    omega (arith, c.end_of-end.ensures.low, c.end_of-number_end.ensures.low)

pub loop-at-preserved : goal.loop-at-preserved
loop-at-preserved c =
    reading_on c.loop-at.invariant _ c.loop-at-test.true c.end_of-number_end.ensures _ c.end_of-end.ensures
    c.in_ok-place.field-0 c.unwrap-quantity.result _ (sym c.in_ok-place.ensures.fact_1)
    (amount_value _ _ c.read_amount.ensures _ c.unwrap-quantity.ensures).1 c.put_pair.ensures

pub shape_of-list : goal.shape_of-list
shape_of-list c = c.loop-at.invariant.size

pub returns : goal.returns
unfolding leaves
returns c =
    record { says = reading_end c.loop-at.invariant c.loop-at-test.false; inside = reading_inside c.loop-at.invariant }
