-- Up the last path to the depth to which the rows agree: there the new row departs, behind the node below.
use native.Mathlib.Omega.{arith}
use borrow.Author.Rules.{part_to_end}
use Rattle.index_append.proofs.Fork.{climb_start, climb_on, climb_home, climb_appends, climb_enters, climb_last}
use Rattle.index_append.proofs.append.Goals as goal

pub loop-b-init : goal.loop-b-init
loop-b-init c = climb_start c.requires

pub depth_at-requires : goal.depth_at-requires
depth_at-requires c = climb_home c.requires c.loop-b.invariant

pub loop-b-preserved : goal.loop-b-preserved
loop-b-preserved c = climb_on c.requires c.loop-b.invariant (omega (arith, c.depth_at.ensures.0)) c.parent_at-p.ensures.0

pub grow_behind-requires : goal.grow_behind-requires
grow_behind-requires c = rw part_to_end (climb_appends c.requires c.loop-b.invariant (omega (arith, c.depth_at.ensures.0)))

pub returns-clause-entered : goal.returns-clause-entered
returns-clause-entered c =
    climb_enters c.requires c.loop-b.invariant (omega (arith, c.depth_at.ensures.0)) c.args.tag
    (rw part_to_end at c.grow_behind.ensures.entered)

pub returns-clause-last : goal.returns-clause-last
returns-clause-last c =
    climb_last c.requires c.loop-b.invariant (omega (arith, c.depth_at.ensures.0)) (rw part_to_end at c.grow_behind.ensures.last)
