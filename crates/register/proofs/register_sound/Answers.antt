-- A sound register is just this: the leading slots good, all behind them zero, and no number in them twice.
use mathlib.Core.Path.{◌≡◌, sym, ◌∙◌}
use mathlib.Core.Bool.{true}
use native.Mathlib.Omega.{arith}
use borrow.Author.Rules.{part_to_end}
use Rattle.register.proofs.Sound.{checked, sound_is_checked, leading_inside, checked_short, few_slots}
use Rattle.register.proofs.register_sound.Goals as goal
use Rattle.register.proofs.register_sound.Goals.{Then-zeros, then-slots_good, else-slots_good}

-- where both tests before it pass, the first does
good : (c : Then-zeros) → c.slots_good.result ≡ true
good c = elim c.if-slots_good.branch [ then-slots_good w ↦ w.if-slots_good.true | else-slots_good w ↦ cc ]

pub slots_good-requires : goal.slots_good-requires
slots_good-requires c = rw c.count_leading-m.ensures (leading_inside c.args.reg.now)

pub overflow_mul-m : goal.overflow_mul-m
overflow_mul-m c = omega (arith, leading_inside c.args.reg.now, c.count_leading-m.ensures)

pub slice_bounds-zeros-count : goal.slice_bounds-zeros-count
slice_bounds-zeros-count c = omega (arith, leading_inside c.args.reg.now, c.count_leading-m.ensures)

pub slice_bounds-zeros-start : goal.slice_bounds-zeros-start
slice_bounds-zeros-start c = omega (arith, leading_inside c.args.reg.now, c.count_leading-m.ensures)

pub none_twice-requires-clause-short : goal.none_twice-requires-clause-short
none_twice-requires-clause-short c =
    checked_short c.args.reg.now _ (omega (arith, leading_inside c.args.reg.now, c.count_leading-m.ensures))
    (sym c.slots_good.ensures ∙ good c)

pub none_twice-requires-clause-few : goal.none_twice-requires-clause-few
none_twice-requires-clause-few c =
    omega (arith, leading_inside c.args.reg.now, c.count_leading-m.ensures, few_slots c.args.reg.now c.requires)

pub returns-then-zeros : goal.returns-then-zeros
unfolding checked
returns-then-zeros c =
    let lead = c.count_leading-m.ensures in
    let g = rw lead at c.slots_good.ensures in
    let d = rw lead at c.none_twice.ensures in
    elim c.if-slots_good.branch [
      | then-slots_good w ↦
          let z = rw (part_to_end, lead) at w.zeros.ensures in
          d ∙ sym (sound_is_checked _ c.requires ∙ rw (sym g ∙ w.if-slots_good.true, sym z ∙ sym w.value-is ∙ c.if-zeros.true))
      | else-slots_good w ↦ cc
    ]

pub returns-else-zeros : goal.returns-else-zeros
unfolding checked
returns-else-zeros c =
    let lead = c.count_leading-m.ensures in
    let g = rw lead at c.slots_good.ensures in
    elim c.if-slots_good.branch [
      | then-slots_good w ↦
          let z = rw (part_to_end, lead) at w.zeros.ensures in
          c.if-zeros.false
          ∙ sym (sound_is_checked _ c.requires ∙ rw (sym g ∙ w.if-slots_good.true, sym z ∙ sym w.value-is ∙ c.if-zeros.false))
      | else-slots_good w ↦ c.if-zeros.false ∙ sym (sound_is_checked _ c.requires ∙ rw (sym g ∙ w.if-slots_good.false))
    ]
