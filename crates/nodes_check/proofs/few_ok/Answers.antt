-- So many labels of the row are the last one, down to the node reached; where the label falls there are no more.
use native.Mathlib.Omega.{arith}
use Rattle.nodes.proofs.Rows.{live_inside}
use Rattle.nodes_check.proofs.Paths.{climb_start, climb_next, climb_many, climb_end}
use Rattle.nodes_check.proofs.few_ok.Goals as goal

pub loop-i-init : goal.loop-i-init
loop-i-init c =
    climb_start c.requires.climb c.requires.used c.label_at-l.ensures c.parent_at-at.ensures.0

pub label_at-requires : goal.label_at-requires
label_at-requires c =
    live_inside c.requires.climb _ c.loop-i.invariant.live

pub returns-then-m-eq-MOST_QUANTITY : goal.returns-then-m-eq-MOST_QUANTITY
returns-then-m-eq-MOST_QUANTITY c =
    climb_many c.requires.climb c.requires.used c.loop-i.invariant c.label_at.ensures
    c.loop-i-test.true c.if-m-eq-MOST_QUANTITY.true

pub parent_at-at-requires-in-loop-i : goal.parent_at-at-requires-in-loop-i
parent_at-at-requires-in-loop-i c =
    live_inside c.requires.climb _ c.loop-i.invariant.live

pub overflow_add-m : goal.overflow_add-m
overflow_add-m c =
    omega (arith, c.loop-i.invariant.most)

pub loop-i-smaller : goal.loop-i-smaller
loop-i-smaller c =
    omega (arith, c.loop-i.invariant.most, c.if-m-eq-MOST_QUANTITY.false)

pub loop-i-preserved : goal.loop-i-preserved
loop-i-preserved c =
    climb_next c.requires.climb c.requires.used c.loop-i.invariant c.label_at.ensures
    c.loop-i-test.true c.if-m-eq-MOST_QUANTITY.false c.parent_at-at-in-loop-i.ensures.0

pub returns : goal.returns
returns c =
    climb_end c.requires.climb c.requires.used c.loop-i.invariant c.label_at.ensures c.loop-i-test.false
