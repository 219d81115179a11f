-- The measure is the rank, as of the question's walk. What the walk knows at the node that it reached is `MeetsBin`.
use mathlib.Core.Path.{refl}
use lib.ListN.{get_or}
use Rattle.questions.proofs.Asked.{inside}
use Rattle.questions.proofs.BinWalk.{met}
use Rattle.pages.proofs.After.{after_ended, after_unreached, reached_inside, after_greater}
use Rattle.pages.proofs.AfterWithin.{beside_bin, MeetsBin, seen_bin, next_bin, used_up, to_child_bin, below_bin, behind_bin}
use Prim.Native.Nat.{ℕ}
use Rattle.pages.proofs.+after_within.Goals as goal
use Rattle.pages.proofs.+after_within.Goals.{then-came-quantity+else-below-ne0, else-came-quantity}
use Rattle.pages.proofs.+after_within.Goals.{After-label_at-label}

m : (t : ℕ) (c : After-label_at-label t) →
    let a = c.args in
    MeetsBin a.row.now a.nodes.now a.bin.now a.top a.link a.last a.had a.d c.reach-at.result
    c.label_at-label.result (get_or a.row.now a.d 0) t
m t c =
    record {
      knows = c.requires.0;
      measured = c.decreases;
      meets = record {
        beside = beside_bin c.requires.0 c.requires.1;
        more = c.if-d-row.false;
        place = refl;
        reached = c.reach-at.ensures;
        node = c.if-at-eq0.false;
        l_is = c.label_at-label.ensures;
      };
    }

pub returns-then-d-row : goal.returns-then-d-row
returns-then-d-row t c =
    after_ended (beside_bin c.requires.0 c.requires.1) c.if-d-row.true c.first_within.ensures

pub returns-then-at-eq0 : goal.returns-then-at-eq0
returns-then-at-eq0 t c =
    after_unreached (beside_bin c.requires.0 c.requires.1) c.if-d-row.false refl c.reach-at.ensures c.if-at-eq0.true

pub label_at-label-requires : goal.label_at-label-requires
label_at-label-requires t c =
    reached_inside (beside_bin c.requires.0 c.requires.1) c.if-d-row.false refl c.reach-at.ensures c.if-at-eq0.false

pub first_within-requires-then-place-label : goal.first_within-requires-then-place-label
first_within-requires-then-place-label t c =
    (seen_bin (m t (goal.at.first_within-requires-then-place-label t c).After-label_at-label)).came.knows

pub returns-then-place-label : goal.returns-then-place-label
returns-then-place-label t c =
    let known = goal.at.returns-then-place-label t c in
    after_greater (m t known.After-label_at-label).meets c.if-place-label.true c.first_within-then-place-label.ensures

pub child_at-requires : goal.child_at-requires
child_at-requires t c =
    inside (met (seen_bin (m t (goal.at.child_at-requires t c).After-label_at-label)))

pub after_within-below-requires : goal.after_within-below-requires
after_within-below-requires t c =
    let known = goal.at.after_within-below-requires t c in
    to_child_bin (m t known.After-label_at-label) c.quantity.ensures c.had_of-came.ensures c.if-came-quantity.true c.if-place-label.false
    c.child_at.ensures.0

pub returns-then-below-ne0 : goal.returns-then-below-ne0
returns-then-below-ne0 t c =
    let known = goal.at.returns-then-below-ne0 t c in
    below_bin (m t known.After-label_at-label) c.quantity.ensures c.had_of-came.ensures c.if-came-quantity.true c.if-place-label.false
    c.child_at.ensures.0 c.after_within-below.ensures c.if-below-ne0.true

pub next_at-requires : goal.next_at-requires
next_at-requires t c =
    inside (met (seen_bin (m t (goal.at.next_at-requires t c).After-label_at-label)))

pub first_within-requires-2 : goal.first_within-requires-2
first_within-requires-2 t c =
    next_bin (m t (goal.at.first_within-requires-2 t c).After-label_at-label) c.next_at.ensures.0

-- what is behind, where nothing below passes or the label is used up
pub returns : goal.returns
returns t c =
    let known = goal.at.returns t c in
    elim c.if-came-quantity.branch [
      | then-came-quantity+else-below-ne0 w ↦
          behind_bin (m t known.After-label_at-label) c.quantity.ensures c.had_of-came.ensures w.if-came-quantity.true c.if-place-label.false
          w.child_at.ensures.0 w.after_within-below.ensures w.if-below-ne0.false c.next_at.ensures.0 c.first_within-2.ensures
      | else-came-quantity w ↦
          used_up (m t known.After-label_at-label) c.quantity.ensures c.had_of-came.ensures c.if-place-label.false w.if-came-quantity.false
          c.next_at.ensures.0 c.first_within-2.ensures
    ]
