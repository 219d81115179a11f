-- As `first_within`; what the rest of the chain sets down behind what is there makes the whole. A node's own tag comes first, then those below it.
use mathlib.Core.Path.{refl, sym}
use native.Mathlib.Omega.{arith}
use Rattle.questions.specs.Inner.{fits}
use Rattle.ground.proofs.Put.{put_none, put_same}
use Rattle.questions.proofs.Asked.{none_at, same_tags, behind_is, room, set_down_lem}
use Rattle.questions.proofs.BinWalk.{SeenIn, past_top, to_next, skipped, Entered, entered, to_child}
use Rattle.questions.proofs.Written.{makes_ends}
use Prim.Native.Nat.{ℕ}
use Rattle.questions.proofs.+list_within.Goals as goal
use Rattle.questions.proofs.+list_within.Goals.{After-label_at-label, After-tag_at}

v : (t : ℕ) (c : After-label_at-label t) →
    SeenIn c.args.nodes.now c.args.bin.now c.args.top c.args.link c.args.last
    c.args.had c.loop-at.at c.label_at-label.result t
v t c =
    record { came = c.loop-at.invariant.0; measured = c.decreases; node = c.loop-at-test.true; l_is = c.label_at-label.ensures }

e : (t : ℕ) (c : After-tag_at t) →
    Entered c.args.nodes.now c.args.bin.now c.args.top c.args.link c.args.last
    c.args.had c.loop-at.at c.label_at-label.result t c.quantity.result
    c.had_of-came.result c.tag_at.result
e t c =
    record {
      comes = v t (goal.at.After-tag_at t c).After-label_at-label;
      most = c.quantity.ensures;
      times = c.had_of-came.ensures;
      some = c.if-came-quantity.true;
      own_is = c.tag_at.ensures;
    }

pub returns-then-top-label : goal.returns-then-top-label
returns-then-top-label t c =
    c.loop-at.invariant.1.made (put_none c.loop-at.out c.loop-at.k
    (same_tags c.args.nodes.now (past_top (v t (goal.at.returns-then-top-label t c).After-label_at-label) c.if-top-label.true)))

pub put_tag-k-requires : goal.put_tag-k-requires
put_tag-k-requires t c =
    omega (arith, c.requires.1, makes_ends c.loop-at.invariant.1, room (entered (e t c)) refl (behind_is c.next_at-at.ensures.0))

pub list_within-k-requires : goal.list_within-k-requires
list_within-k-requires t c =
    let known = goal.at.list_within-k-requires t c in
    let h = to_child (e t known.After-tag_at) c.child_at-child.ensures.0 in (
      h.0,
      (
        h.1,
        omega (
          arith,
          c.requires.1,
          c.put_tag-k.ensures.behind,
          makes_ends c.loop-at.invariant.1,
          room (entered (e t known.After-tag_at)) c.child_at-child.ensures.0 (behind_is c.next_at-at.ensures.0),
        ),
      ),
    )

pub loop-at-smaller-then-child-ne0 : goal.loop-at-smaller-then-child-ne0
loop-at-smaller-then-child-ne0 t c =
    (to_next (v t (goal.at.loop-at-smaller-then-child-ne0 t c).After-label_at-label) c.next_at-at.ensures.0).0

pub loop-at-preserved-then-child-ne0 : goal.loop-at-preserved-then-child-ne0
loop-at-preserved-then-child-ne0 t c =
    let known = goal.at.loop-at-preserved-then-child-ne0 t c in (
      (to_next (v t known.After-label_at-label) c.next_at-at.ensures.0).1,
      record {
        made = λ p. c.loop-at.invariant.1.made (set_down_lem (entered (e t known.After-tag_at)) c.child_at-child.ensures.0
            (behind_is c.next_at-at.ensures.0) c.put_tag-k.ensures c.list_within-k.ensures p);
      },
    )

pub loop-at-smaller-else-child-ne0 : goal.loop-at-smaller-else-child-ne0
loop-at-smaller-else-child-ne0 t c =
    (to_next (v t (goal.at.loop-at-smaller-else-child-ne0 t c).After-label_at-label) c.next_at-at.ensures.0).0

pub loop-at-preserved-else-child-ne0 : goal.loop-at-preserved-else-child-ne0
loop-at-preserved-else-child-ne0 t c =
    let known = goal.at.loop-at-preserved-else-child-ne0 t c in (
      (to_next (v t known.After-label_at-label) c.next_at-at.ensures.0).1,
      record {
        made = λ p. c.loop-at.invariant.1.made (set_down_lem (entered (e t known.After-tag_at)) c.child_at-child.ensures.0
            (behind_is c.next_at-at.ensures.0) c.put_tag-k.ensures
            (put_none _ _ (same_tags c.args.nodes.now (none_at c.requires.0.shape (fits c.args.bin.now) c.if-child-ne0.false))) p);
      },
    )

pub loop-at-smaller : goal.loop-at-smaller
loop-at-smaller t c =
    (to_next (v t (goal.at.loop-at-smaller t c).After-label_at-label) c.next_at-at.ensures.0).0

pub loop-at-preserved : goal.loop-at-preserved
loop-at-preserved t c =
    let known = goal.at.loop-at-preserved t c in (
      (to_next (v t known.After-label_at-label) c.next_at-at.ensures.0).1,
      record {
        made = λ p. c.loop-at.invariant.1.made (put_same p (same_tags c.args.nodes.now (sym (skipped (v t known.After-label_at-label)
            c.quantity.ensures c.had_of-came.ensures c.if-came-quantity.false c.next_at-at.ensures.0))));
      },
    )

pub returns : goal.returns
returns t c =
    c.loop-at.invariant.1.made (put_none c.loop-at.out c.loop-at.k
    (same_tags c.args.nodes.now (none_at c.requires.0.shape (fits c.args.bin.now) c.loop-at-test.false)))
