-- The measure is the rank, as of the question's walk. What the walk knows at the node that it reached is `MeetsList`.
use mathlib.Core.Path.{refl}
use lib.ListN.{get_or}
use Rattle.questions.specs.Inner.{wanting}
use Rattle.questions.proofs.Asked.{in_table}
use Rattle.pages.proofs.After.{after_ended, after_unreached, reached_inside, after_greater}
use Rattle.pages.proofs.AfterContaining.{beside_list, MeetsList, reached_list, seen_list, next_list, over_list, to_child_list}
use Rattle.pages.proofs.AfterContaining.{below_list, behind_list}
use Prim.Native.Nat.{ℕ}
use Rattle.pages.proofs.+after_containing.Goals as goal
use Rattle.pages.proofs.+after_containing.Goals.{After-label_at-label}

m : (t : ℕ) (c : After-label_at-label t) →
    let a = c.args in
    MeetsList a.row.now a.nodes.now a.list.now a.link (wanting a.due a.left a.line) a.d
    c.reach-at.result c.label_at-label.result (get_or a.row.now a.d 0) t
m t c =
    record {
      knows = c.requires.0;
      measured = c.decreases;
      meets = record {
        beside = beside_list c.requires.0 c.requires.1;
        more = c.if-d-row.false;
        place = refl;
        reached = c.reach-at.ensures;
        node = c.if-at-eq0.false;
        l_is = c.label_at-label.ensures;
      };
    }

pub returns-then-d-row : goal.returns-then-d-row
returns-then-d-row t c =
    after_ended (beside_list c.requires.0 c.requires.1) c.if-d-row.true c.first_containing.ensures

pub returns-then-at-eq0 : goal.returns-then-at-eq0
returns-then-at-eq0 t c =
    after_unreached (beside_list c.requires.0 c.requires.1) c.if-d-row.false refl c.reach-at.ensures c.if-at-eq0.true

pub label_at-label-requires : goal.label_at-label-requires
label_at-label-requires t c =
    reached_inside (beside_list c.requires.0 c.requires.1) c.if-d-row.false refl c.reach-at.ensures c.if-at-eq0.false

pub first_containing-requires-then-place-label : goal.first_containing-requires-then-place-label
first_containing-requires-then-place-label t c =
    reached_list (m t (goal.at.first_containing-requires-then-place-label t c).After-label_at-label)

pub returns-then-place-label : goal.returns-then-place-label
returns-then-place-label t c =
    let known = goal.at.returns-then-place-label t c in
    after_greater (m t known.After-label_at-label).meets c.if-place-label.true c.first_containing-then-place-label.ensures

pub returns-then-due-label : goal.returns-then-due-label
returns-then-due-label t c =
    over_list (m t (goal.at.returns-then-due-label t c).After-label_at-label) c.if-due-label.true

pub child_at-child-requires : goal.child_at-child-requires
child_at-child-requires t c =
    in_table (seen_list (m t (goal.at.child_at-child-requires t c).After-label_at-label))

pub after_containing-below-requires : goal.after_containing-below-requires
after_containing-below-requires t c =
    let known = goal.at.after_containing-below-requires t c in
    to_child_list (m t known.After-label_at-label) c.if-due-label.false c.want_after-then.ensures c.if-place-label.false c.child_at-child.ensures.0

pub returns-then-below-ne0 : goal.returns-then-below-ne0
returns-then-below-ne0 t c =
    let known = goal.at.returns-then-below-ne0 t c in
    below_list (m t known.After-label_at-label) c.if-due-label.false c.want_after-then.ensures c.if-place-label.false
    c.child_at-child.ensures.0 c.after_containing-below.ensures c.if-below-ne0.true

pub next_at-requires : goal.next_at-requires
next_at-requires t c =
    in_table (seen_list (m t (goal.at.next_at-requires t c).After-label_at-label))

pub first_containing-requires-2 : goal.first_containing-requires-2
first_containing-requires-2 t c =
    next_list (m t (goal.at.first_containing-requires-2 t c).After-label_at-label) c.next_at.ensures.0

pub returns : goal.returns
returns t c =
    behind_list (m t (goal.at.returns t c).After-label_at-label) c.if-due-label.false c.want_after-then.ensures c.if-place-label.false
    c.child_at-child.ensures.0 c.after_containing-below.ensures c.if-below-ne0.false c.next_at.ensures.0
    c.first_containing-2.ensures
