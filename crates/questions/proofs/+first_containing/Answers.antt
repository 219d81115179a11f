-- The measure is what depth and label leave: their sum rises along both links. What the walk knows at a node is `Seen`, and
-- `Entered` once it goes below.
use mathlib.Core.Path.{refl}
use Rattle.questions.specs.Inner.{covers, wanting}
use Rattle.questions.proofs.Asked.{none_at, no_first, found_own, found_below, found_behind}
use Rattle.questions.proofs.Asked.{past, behind, to_later}
use Rattle.questions.proofs.ListWalk.{SeenIn, seen, Entered, entered, to_child}
use Prim.Native.Nat.{ℕ}
use Rattle.questions.proofs.+first_containing.Goals as goal
use Rattle.questions.proofs.+first_containing.Goals.{After-label_at-label, After-tag_if_there}

v : (t : ℕ) (c : After-label_at-label t) →
    let a = c.args in
    SeenIn a.nodes.now a.list.now a.at (wanting a.due a.left a.line) c.label_at-label.result t
v t c =
    seen c.requires c.decreases c.if-at-eq0.false c.label_at-label.ensures

e : (t : ℕ) (c : After-tag_if_there t) →
    let a = c.args in
    Entered a.nodes.now a.list.now a.at (wanting a.due a.left a.line) c.label_at-label.result t
    c.want_after-then.result c.tag_if_there.result
e t c =
    record {
      comes = v t (goal.at.After-tag_if_there t c).After-label_at-label;
      upto = c.if-due-label.false;
      wants = c.want_after-then.ensures;
      own_is = c.tag_if_there.ensures;
    }

pub returns-then-at-eq0 : goal.returns-then-at-eq0
returns-then-at-eq0 t c =
    no_first (none_at c.requires.shape (covers c.args.list.now) c.if-at-eq0.true)

pub returns-then-due-label : goal.returns-then-due-label
returns-then-due-label t c =
    no_first (past (v t (goal.at.returns-then-due-label t c).After-label_at-label) c.if-due-label.true)

pub returns-then-tag_if_there-ne0 : goal.returns-then-tag_if_there-ne0
returns-then-tag_if_there-ne0 t c =
    found_own (entered (e t (goal.at.returns-then-tag_if_there-ne0 t c).After-tag_if_there)) c.if-tag_if_there-ne0.true

pub returns-then-next-eq0 : goal.returns-then-next-eq0
returns-then-next-eq0 t c =
    let known = goal.at.returns-then-next-eq0 t c in
    found_behind (entered (e t known.After-tag_if_there)) c.if-tag_if_there-ne0.false c.child_at-child.ensures.0
    (no_first (none_at c.requires.shape (covers c.args.list.now) c.if-child-eq0.true)) refl
    (behind (v t known.After-label_at-label) c.later-next.ensures) (no_first (none_at c.requires.shape (covers c.args.list.now) c.if-next-eq0.true))

pub first_containing-requires : goal.first_containing-requires
first_containing-requires t c =
    to_later (v t (goal.at.first_containing-requires t c).After-label_at-label) c.later-next.ensures

pub returns-then-child-eq0 : goal.returns-then-child-eq0
returns-then-child-eq0 t c =
    let known = goal.at.returns-then-child-eq0 t c in
    found_behind (entered (e t known.After-tag_if_there)) c.if-tag_if_there-ne0.false c.child_at-child.ensures.0
    (no_first (none_at c.requires.shape (covers c.args.list.now) c.if-child-eq0.true)) refl
    (behind (v t known.After-label_at-label) c.later-next.ensures) c.first_containing.ensures

pub first_containing-below-requires : goal.first_containing-below-requires
first_containing-below-requires t c =
    to_child (e t (goal.at.first_containing-below-requires t c).After-tag_if_there) c.child_at-child.ensures.0

pub returns-then-below-ne0 : goal.returns-then-below-ne0
returns-then-below-ne0 t c =
    let known = goal.at.returns-then-below-ne0 t c in
    found_below (entered (e t known.After-tag_if_there)) c.if-tag_if_there-ne0.false c.child_at-child.ensures.0 c.first_containing-below.ensures
    c.if-below-ne0.true

pub returns-then-next-eq0-2 : goal.returns-then-next-eq0-2
returns-then-next-eq0-2 t c =
    let known = goal.at.returns-then-next-eq0-2 t c in
    found_behind (entered (e t known.After-tag_if_there)) c.if-tag_if_there-ne0.false c.child_at-child.ensures.0
    c.first_containing-below.ensures c.if-below-ne0.false
    (behind (v t known.After-label_at-label) c.later-next.ensures) (no_first (none_at c.requires.shape (covers c.args.list.now) c.if-next-eq0-2.true))

pub first_containing-requires-2 : goal.first_containing-requires-2
first_containing-requires-2 t c =
    to_later (v t (goal.at.first_containing-requires-2 t c).After-label_at-label) c.later-next.ensures

pub returns : goal.returns
returns t c =
    let known = goal.at.returns t c in
    found_behind (entered (e t known.After-tag_if_there)) c.if-tag_if_there-ne0.false c.child_at-child.ensures.0
    c.first_containing-below.ensures c.if-below-ne0.false
    (behind (v t known.After-label_at-label) c.later-next.ensures) c.first_containing-2.ensures
