-- As `list_within` of the questions: what the rest of the chain sets down behind what is there makes the whole. A node's own kit comes first, then those
-- below it; a branch whose shortfall passes d is left out.
use mathlib.Core.Path.{refl}
use native.Mathlib.Omega.{arith}
use Rattle.shortfalls.proofs.Walked.{none_at, Seen, to_next, to_child, room}
use Rattle.shortfalls.proofs.Walked.{came_ends, came_past, came_on}
use Prim.Native.Nat.{ℕ}
use Rattle.shortfalls.proofs.+list_almost.Goals as goal
use Rattle.shortfalls.proofs.+list_almost.Goals.{After-pass-then}

-- what is known once the label is passed
v : (t : ℕ) (c : After-pass-then t) →
    Seen c.args.nodes.now c.args.bin.now c.args.d c.loop-link.link c.args.p
    c.label_at.result c.pass-then.result t
v t c =
    record {
      knows = c.loop-link.invariant.knows;
      measured = omega (arith, c.decreases, c.loop-link.invariant.lower);
      node = c.loop-link-test.true;
      l_is = c.label_at.ensures;
      q_is = c.pass-then.ensures;
    }

pub put_both-k-requires : goal.put_both-k-requires
put_both-k-requires t c =
    omega (
      arith,
      c.requires.1,
      came_ends c.loop-link.invariant,
      room (v t (goal.at.put_both-k-requires t c).After-pass-then) c.if-then-d.true refl c.next_at-link.ensures.0 c.tag_at.ensures,
    )

pub list_almost-k-requires : goal.list_almost-k-requires
list_almost-k-requires t c =
    let known = goal.at.list_almost-k-requires t c in
    let h = to_child (v t known.After-pass-then) c.if-then-d.true c.child_at-child.ensures.0 in
    let many = room (v t known.After-pass-then) c.if-then-d.true c.child_at-child.ensures.0 c.next_at-link.ensures.0
    c.tag_at.ensures in
    (h.0, (h.1, omega (arith, c.requires.1, c.put_both-k.ensures.one.behind, came_ends c.loop-link.invariant, many)))

pub loop-link-smaller-then-child-ne0 : goal.loop-link-smaller-then-child-ne0
loop-link-smaller-then-child-ne0 t c =
    (to_next (v t (goal.at.loop-link-smaller-then-child-ne0 t c).After-pass-then) c.next_at-link.ensures.0).0

pub loop-link-preserved-then-child-ne0 : goal.loop-link-preserved-then-child-ne0
loop-link-preserved-then-child-ne0 t c =
    let known = goal.at.loop-link-preserved-then-child-ne0 t c in
    came_on c.loop-link.invariant (v t known.After-pass-then) c.next_at-link.ensures.0 c.if-then-d.true c.child_at-child.ensures.0
    c.tag_at.ensures c.put_both-k.ensures c.list_almost-k.ensures

pub loop-link-smaller-else-child-ne0 : goal.loop-link-smaller-else-child-ne0
loop-link-smaller-else-child-ne0 t c =
    (to_next (v t (goal.at.loop-link-smaller-else-child-ne0 t c).After-pass-then) c.next_at-link.ensures.0).0

pub loop-link-preserved-else-child-ne0 : goal.loop-link-preserved-else-child-ne0
loop-link-preserved-else-child-ne0 t c =
    let known = goal.at.loop-link-preserved-else-child-ne0 t c in
    let h = to_child (v t known.After-pass-then) c.if-then-d.true c.child_at-child.ensures.0 in
    came_on c.loop-link.invariant (v t known.After-pass-then) c.next_at-link.ensures.0 c.if-then-d.true c.child_at-child.ensures.0
    c.tag_at.ensures c.put_both-k.ensures (none_at h.1 c.if-child-ne0.false)

pub loop-link-smaller : goal.loop-link-smaller
loop-link-smaller t c =
    (to_next (v t (goal.at.loop-link-smaller t c).After-pass-then) c.next_at-link.ensures.0).0

pub loop-link-preserved : goal.loop-link-preserved
loop-link-preserved t c =
    came_past c.loop-link.invariant (v t (goal.at.loop-link-preserved t c).After-pass-then) c.next_at-link.ensures.0 c.if-then-d.false

pub returns : goal.returns
returns t c =
    c.loop-link.invariant.whole (none_at c.loop-link.invariant.knows c.loop-link-test.false)
