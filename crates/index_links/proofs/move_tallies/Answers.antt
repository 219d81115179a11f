-- Node by node upwards, what is left to count leads to the same table, and each number has what it is to lose and room for what it is to get.
use native.Mathlib.Omega.{arith}
use Rattle.index_links.proofs.Counting.{counting_able, counting_root_able}
use Rattle.index_links.proofs.Counting.{counting_up, counting_end}
use Rattle.index_links.proofs.move_tallies.Goals as goal

pub overflow_sub-n : goal.overflow_sub-n
overflow_sub-n c =
    omega (arith, c.tally_at-n.ensures, (counting_able c.loop-at.invariant).0)

pub overflow_add-n : goal.overflow_add-n
overflow_add-n c =
    omega (arith, c.tally_at-n.ensures, (counting_able c.loop-at.invariant).1, c.loop-at.invariant.counts.few)

pub loop-at-preserved : goal.loop-at-preserved
loop-at-preserved c =
    counting_up c.loop-at.invariant c.loop-at-test.true c.parent_at-q.ensures.0 c.tally_at-n.ensures
    c.set_word.ensures

pub overflow_sub-n-2 : goal.overflow_sub-n-2
overflow_sub-n-2 c =
    omega (arith, c.tally_at-n-2.ensures, (counting_root_able c.loop-at.invariant c.loop-at-test.false).0)

pub overflow_add-n-2 : goal.overflow_add-n-2
overflow_add-n-2 c =
    omega (
      arith,
      c.tally_at-n-2.ensures,
      (counting_root_able c.loop-at.invariant c.loop-at-test.false).1,
      c.loop-at.invariant.counts.few,
    )

pub returns : goal.returns
returns c =
    counting_end c.loop-at.invariant c.loop-at-test.false c.tally_at-n-2.ensures c.set_word-2.ensures
