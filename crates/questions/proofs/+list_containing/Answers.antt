-- As `first_containing`; what is set down is a node's own tag, then those below it, then those behind it.
use mathlib.Core.Path.{refl}
use native.Mathlib.Omega.{arith}
use Rattle.questions.specs.Inner.{covers, wanting}
use Rattle.ground.proofs.Put.{put_none}
use Rattle.questions.proofs.Asked.{none_at, same_tags, behind_next, room, set_down_lem}
use Rattle.questions.proofs.Asked.{past, behind, to_later}
use Rattle.questions.proofs.ListWalk.{SeenIn, seen, Entered, entered, to_child}
use Prim.Native.Nat.{ℕ}
use Rattle.questions.proofs.+list_containing.Goals as goal
use Rattle.questions.proofs.+list_containing.Goals.{After-label_at-label, After-tag_if_there}

v : (t : ℕ) (c : After-label_at-label t) →
    let a = c.args in
    SeenIn a.nodes.now a.list.now a.at (wanting a.due a.left a.line) c.label_at-label.result t
v t c =
    seen c.requires.0 c.decreases c.if-at-eq0.false c.label_at-label.ensures

e : (t : ℕ) (c : After-tag_if_there t) →
    let a = c.args in
    Entered a.nodes.now a.list.now a.at (wanting a.due a.left a.line) c.label_at-label.result t
    c.want_after-then.result c.tag_if_there.result
e t c =
    record {
      comes = v t (goal.at.After-tag_if_there t c).After-label_at-label;
      upto = c.if-due-label.false;
      wants = c.want_after-then.ensures;
      own_is = c.tag_if_there.ensures;
    }

pub returns-then-at-eq0 : goal.returns-then-at-eq0
returns-then-at-eq0 t c =
    put_none c.args.out.now c.args.n
    (same_tags c.args.nodes.now (none_at c.requires.0.shape (covers c.args.list.now) c.if-at-eq0.true))

pub returns-then-due-label : goal.returns-then-due-label
returns-then-due-label t c =
    let known = goal.at.returns-then-due-label t c in
    put_none c.args.out.now c.args.n (same_tags c.args.nodes.now (past (v t known.After-label_at-label) c.if-due-label.true))

pub put_tag-m-requires : goal.put_tag-m-requires
put_tag-m-requires t c =
    omega (arith, c.requires.1, room (entered (e t c)) refl behind_next)

pub returns-then-next-eq0 : goal.returns-then-next-eq0
returns-then-next-eq0 t c =
    let known = goal.at.returns-then-next-eq0 t c in
    set_down_lem (entered (e t known.After-tag_if_there)) c.child_at-child.ensures.0 (behind (v t known.After-label_at-label) c.later-next.ensures)
    c.put_tag-m.ensures
    (put_none _ _ (same_tags c.args.nodes.now (none_at c.requires.0.shape (covers c.args.list.now) c.if-child-eq0.true)))
    (put_none _ _ (same_tags c.args.nodes.now (none_at c.requires.0.shape (covers c.args.list.now) c.if-next-eq0.true)))

pub list_containing-requires : goal.list_containing-requires
list_containing-requires t c =
    let known = goal.at.list_containing-requires t c in
    let h = to_later (v t known.After-label_at-label) c.later-next.ensures in
    let few = room (entered (e t known.After-tag_if_there)) c.child_at-child.ensures.0 (behind (v t known.After-label_at-label) c.later-next.ensures) in
    (h.0, (h.1, omega (arith, c.requires.1, c.put_tag-m.ensures.behind, few)))

pub returns-then-child-eq0 : goal.returns-then-child-eq0
returns-then-child-eq0 t c =
    let known = goal.at.returns-then-child-eq0 t c in
    set_down_lem (entered (e t known.After-tag_if_there)) c.child_at-child.ensures.0 (behind (v t known.After-label_at-label) c.later-next.ensures)
    c.put_tag-m.ensures
    (put_none _ _ (same_tags c.args.nodes.now (none_at c.requires.0.shape (covers c.args.list.now) c.if-child-eq0.true)))
    c.list_containing.ensures

pub list_containing-k-requires : goal.list_containing-k-requires
list_containing-k-requires t c =
    let known = goal.at.list_containing-k-requires t c in
    let h = to_child (e t known.After-tag_if_there) c.child_at-child.ensures.0 in
    let few = room (entered (e t known.After-tag_if_there)) c.child_at-child.ensures.0 (behind (v t known.After-label_at-label) c.later-next.ensures) in
    (h.0, (h.1, omega (arith, c.requires.1, c.put_tag-m.ensures.behind, few)))

pub returns-then-next-eq0-2 : goal.returns-then-next-eq0-2
returns-then-next-eq0-2 t c =
    let known = goal.at.returns-then-next-eq0-2 t c in
    set_down_lem (entered (e t known.After-tag_if_there)) c.child_at-child.ensures.0 (behind (v t known.After-label_at-label) c.later-next.ensures)
    c.put_tag-m.ensures c.list_containing-k.ensures
    (put_none _ _ (same_tags c.args.nodes.now (none_at c.requires.0.shape (covers c.args.list.now) c.if-next-eq0-2.true)))

pub list_containing-requires-2 : goal.list_containing-requires-2
list_containing-requires-2 t c =
    let known = goal.at.list_containing-requires-2 t c in
    let h = to_later (v t known.After-label_at-label) c.later-next.ensures in
    let few = room (entered (e t known.After-tag_if_there)) c.child_at-child.ensures.0 (behind (v t known.After-label_at-label) c.later-next.ensures) in
    (h.0, (h.1, omega (arith, c.requires.1, c.put_tag-m.ensures.behind, c.list_containing-k.ensures.behind, few)))

pub returns : goal.returns
returns t c =
    let known = goal.at.returns t c in
    set_down_lem (entered (e t known.After-tag_if_there)) c.child_at-child.ensures.0 (behind (v t known.After-label_at-label) c.later-next.ensures)
    c.put_tag-m.ensures c.list_containing-k.ensures c.list_containing-2.ensures
