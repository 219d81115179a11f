-- Node by node, what is left to enter leads to the same table.
use native.Mathlib.Omega.{arith}
use Rattle.index_insert.proofs.Growing.{grow_start, grow_links, grow_next, grow_end, grow_node, f_inside}
use Rattle.index_insert.proofs.grow.Goals as goal

pub loop-label-init : goal.loop-label-init
loop-label-init c = grow_start c.requires.grows c.requires.is_lowest

pub link-requires : goal.link-requires
link-requires c = grow_links c.loop-label.invariant c.loop-label-test.true c.free_from-f.ensures

pub overflow_add-a : goal.overflow_add-a
overflow_add-a c = omega (arith, f_inside c.loop-label.invariant c.loop-label-test.true c.free_from-f.ensures)

pub loop-label-preserved : goal.loop-label-preserved
loop-label-preserved c =
    grow_next c.loop-label.invariant c.loop-label-test.true c.free_from-f.ensures c.link.ensures

pub returns-clause-entered : goal.returns-clause-entered
returns-clause-entered c = grow_end c.loop-label.invariant c.loop-label-test.false c.put_tag.ensures

pub returns-clause-is_end : goal.returns-clause-is_end
returns-clause-is_end c = grow_node c.loop-label.invariant c.loop-label-test.false c.put_tag.ensures
