-- Node by node, what is left to enter leads to the same table, and the node taken last stays at its edge.
use Rattle.index_append.proofs.Steps.{append_start, append_links, append_next, append_end}
use Rattle.index_append.proofs.grow_behind.Goals as goal

pub loop-label-init : goal.loop-label-init
loop-label-init c = append_start c.requires

pub link_behind-requires : goal.link_behind-requires
link_behind-requires c = append_links c.loop-label.invariant c.loop-label-test.true

pub loop-label-preserved : goal.loop-label-preserved
loop-label-preserved c =
    append_next c.loop-label.invariant c.loop-label-test.true c.link_behind.ensures

pub returns-clause-entered : goal.returns-clause-entered
returns-clause-entered c = (append_end c.loop-label.invariant c.loop-label-test.false c.put_tag.ensures).0

pub returns-clause-last : goal.returns-clause-last
returns-clause-last c = (append_end c.loop-label.invariant c.loop-label-test.false c.put_tag.ensures).1
