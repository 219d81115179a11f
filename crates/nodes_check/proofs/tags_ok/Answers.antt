-- `seen` marks just the tags of the nodes passed, and these differ.
use mathlib.Core.Path.{refl, ◌∙◌}
use native.Mathlib.Omega.{arith}
use Rattle.ground.specs.Inner.{holds, fails}
use Rattle.nodes_check.proofs.Tags.{mark_start, mark_none, mark_more, mark_twice, mark_end}
use Rattle.nodes_check.proofs.tags_ok.Goals as goal
use Rattle.nodes_check.proofs.tags_ok.Goals.{then-t-ne0+else-bit_at-ne0, else-t-ne0}

pub loop-i-init : goal.loop-i-init
loop-i-init c = mark_start _

pub offset_bounds-seen-t : goal.offset_bounds-seen-t
offset_bounds-seen-t c = omega arith

pub bounds-seen-t : goal.bounds-seen-t
bounds-seen-t c = omega arith

pub returns-then-bit_at-ne0 : goal.returns-then-bit_at-ne0
returns-then-bit_at-ne0 c =
    fails (mark_twice c.loop-i.invariant (c.from-t.ensures ∙ c.tag_at.ensures) refl
    (omega (arith, c.if-t-ne0.true)) (omega arith) c.bit_at.ensures c.if-bit_at-ne0.true)

pub offset_bounds-seen-t-then-t-ne0 : goal.offset_bounds-seen-t-then-t-ne0
offset_bounds-seen-t-then-t-ne0 c =
    omega arith

pub bounds-seen-t-then-t-ne0 : goal.bounds-seen-t-then-t-ne0
bounds-seen-t-then-t-ne0 c =
    omega arith

pub loop-i-preserved : goal.loop-i-preserved
loop-i-preserved c =
    let i = c.loop-i.invariant in
    let e = c.from-t.ensures ∙ c.tag_at.ensures in elim c.if-t-ne0.branch [
      | then-t-ne0+else-bit_at-ne0 w ↦
          rw w.seen-is (mark_more i e refl (omega (arith, w.if-t-ne0.true)) (omega arith) w.bit_at.ensures w.if-bit_at-ne0.false w.bit_put.ensures)
      | else-t-ne0 w ↦ rw w.seen-is (mark_none i e w.if-t-ne0.false)
    ]

pub returns : goal.returns
returns c = holds (mark_end c.loop-i.invariant (omega arith))
