-- Depth plus label rises along both links: the measure. Along a chain, what is first from here on is what is first of the whole. What the walk
-- knows at a node is `SeenIn`, and `Entered` once it goes below.
use mathlib.Core.Path.{refl, ◌∙◌}
use Rattle.questions.specs.Inner.{fits}
use Rattle.questions.proofs.Asked.{none_at, no_first, same_first, behind_is, found_own, found_below, found_behind}
use Rattle.questions.proofs.BinWalk.{SeenIn, past_top, to_next, skipped, Entered, entered, to_child}
use Prim.Native.Nat.{ℕ}
use Rattle.questions.proofs.+first_within.Goals as goal
use Rattle.questions.proofs.+first_within.Goals.{After-label_at-label, After-tag_at}

v : (t : ℕ) (c : After-label_at-label t) →
    SeenIn c.args.nodes.now c.args.bin.now c.args.top c.args.link c.args.last
    c.args.had c.loop-at.at c.label_at-label.result t
v t c =
    record { came = c.loop-at.invariant.0; measured = c.decreases; node = c.loop-at-test.true; l_is = c.label_at-label.ensures }

e : (t : ℕ) (c : After-tag_at t) →
    Entered c.args.nodes.now c.args.bin.now c.args.top c.args.link c.args.last
    c.args.had c.loop-at.at c.label_at-label.result t c.quantity.result
    c.had_of-came.result c.tag_at.result
e t c =
    record {
      comes = v t (goal.at.After-tag_at t c).After-label_at-label;
      most = c.quantity.ensures;
      times = c.had_of-came.ensures;
      some = c.if-came-quantity.true;
      own_is = c.tag_at.ensures;
    }

pub returns-then-top-label : goal.returns-then-top-label
returns-then-top-label t c =
    no_first (past_top (v t (goal.at.returns-then-top-label t c).After-label_at-label) c.if-top-label.true) ∙ c.loop-at.invariant.1

pub returns-then-tag_at-ne0 : goal.returns-then-tag_at-ne0
returns-then-tag_at-ne0 t c =
    found_own (entered (e t (goal.at.returns-then-tag_at-ne0 t c).After-tag_at)) c.if-tag_at-ne0.true ∙ c.loop-at.invariant.1

pub first_within-below-requires : goal.first_within-below-requires
first_within-below-requires t c =
    to_child (e t (goal.at.first_within-below-requires t c).After-tag_at) c.child_at.ensures.0

pub returns-then-below-ne0 : goal.returns-then-below-ne0
returns-then-below-ne0 t c =
    found_below (entered (e t (goal.at.returns-then-below-ne0 t c).After-tag_at)) c.if-tag_at-ne0.false c.child_at.ensures.0
    c.first_within-below.ensures c.if-below-ne0.true ∙ c.loop-at.invariant.1

pub loop-at-smaller-else-below-ne0 : goal.loop-at-smaller-else-below-ne0
loop-at-smaller-else-below-ne0 t c =
    (to_next (v t (goal.at.loop-at-smaller-else-below-ne0 t c).After-label_at-label) c.next_at-at.ensures.0).0

pub loop-at-preserved-else-below-ne0 : goal.loop-at-preserved-else-below-ne0
loop-at-preserved-else-below-ne0 t c =
    let known = goal.at.loop-at-preserved-else-below-ne0 t c in (
      (to_next (v t known.After-label_at-label) c.next_at-at.ensures.0).1,
      found_behind (entered (e t known.After-tag_at)) c.if-tag_at-ne0.false c.child_at.ensures.0
          c.first_within-below.ensures c.if-below-ne0.false (behind_is c.next_at-at.ensures.0) refl
          ∙ c.loop-at.invariant.1,
    )

pub loop-at-smaller : goal.loop-at-smaller
loop-at-smaller t c =
    (to_next (v t (goal.at.loop-at-smaller t c).After-label_at-label) c.next_at-at.ensures.0).0

pub loop-at-preserved : goal.loop-at-preserved
loop-at-preserved t c =
    let known = goal.at.loop-at-preserved t c in (
      (to_next (v t known.After-label_at-label) c.next_at-at.ensures.0).1,
      same_first (skipped (v t known.After-label_at-label) c.quantity.ensures c.had_of-came.ensures c.if-came-quantity.false
          c.next_at-at.ensures.0) refl
          ∙ c.loop-at.invariant.1,
    )

pub returns : goal.returns
returns t c =
    no_first (none_at c.requires.shape (fits c.args.bin.now) c.loop-at-test.false) ∙ c.loop-at.invariant.1
