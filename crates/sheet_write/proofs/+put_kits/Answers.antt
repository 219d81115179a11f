-- What is still to come is what the rest of the chain sets down: a node's own record, and those below it, come first. The lines of the row above
-- stand while they are written, and thereafter.
use Rattle.sheet.specs.Sheet.{bytes_of}
use mathlib.Core.Path.{refl, ap, sym}
use mathlib.Core.List.{◌++◌}
use native.Mathlib.Omega.{arith}
use Rattle.ground.proofs.Put.{Rest, rest_same, rest_room, rest_put, rest_end}
use Rattle.nodes.specs.Nodes.{child, next}
use Rattle.sheet_write.specs.Inner.{EndsIn, end_line, own_record, records_from}
use Rattle.sheet_write.proofs.Carried.{kept_on}
use Rattle.sheet_write.proofs.Walked.{none_from, may_add, ends, further, to_child, child_falls, next_falls, parts_are}
use Rattle.sheet_write.proofs.Walked.{along_next}
use Rattle.sheet_write.proofs.Walked.{above_stands, child_stands, next_stands, still_stands}
use Prim.Native.Nat.{ℕ}
use Rattle.sheet_write.proofs.+put_kits.Goals as goal
use Rattle.sheet_write.proofs.+put_kits.Goals.{After-child_at-child, After-with_unit-end}

-- what the rows end in once the label is read
known : (t : ℕ) (c : After-with_unit-end t) →
    EndsIn c.args.nodes.now c.loop-i.i (end_line c.args.line c.args.place c.args.quantity)
    c.with_unit-end.result
known t c =
    ends c.loop-i.invariant.0.reached c.loop-i-test.true c.label_at.ensures c.with_unit-end.ensures

-- the node's own record is down, and those below it are to come
below : (t : ℕ) (c : After-child_at-child t) →
    let N = c.args.nodes.now in
    let w = bytes_of c.args.w in
    Rest c.args.out.now c.args.at (records_from w N c.args.link) c.put_node-own.new.out
    c.put_node-own.result (records_from w N c.child_at-child.result ++ records_from w N (next N c.loop-i.i))
below t c =
    rest_put c.loop-i.invariant.3
    (parts_are c.loop-i.invariant.0.reached c.loop-i-test.true (bytes_of c.args.w) c.child_at-child.ensures.0 refl)
    c.put_node-own.ensures.put

pub with_unit-end-requires : goal.with_unit-end-requires
with_unit-end-requires t c =
    may_add c.loop-i.invariant.0.reached c.loop-i-test.true

pub put_node-own-requires-clause-ends : goal.put_node-own-requires-clause-ends
put_node-own-requires-clause-ends t c =
    let N = c.args.nodes.now in
    let w = bytes_of c.args.w in
    let i = c.loop-i.i in
    let reached = c.loop-i.invariant.0.reached in
    let n = c.loop-i-test.true in
    known t (goal.at.put_node-own-requires-clause-ends t c).After-with_unit-end

pub put_node-own-requires-clause-room : goal.put_node-own-requires-clause-room
put_node-own-requires-clause-room t c =
    let N = c.args.nodes.now in
    let w = bytes_of c.args.w in
    let i = c.loop-i.i in
    let reached = c.loop-i.invariant.0.reached in
    let n = c.loop-i-test.true in
    rest_room (own_record w N i) (records_from w N (child N i) ++ records_from w N (next N i)) c.loop-i.invariant.3 (parts_are reached n w refl refl)

pub put_kits-to-requires : goal.put_kits-to-requires
put_kits-to-requires t c =
    let N = c.args.nodes.now in
    let w = bytes_of c.args.w in
    let k = c.child_at-child.result in
    let reached = c.loop-i.invariant.0.reached in
    let n = c.loop-i-test.true in
    let l = c.label_at.ensures in
    let u = c.with_unit-end.ensures in
    let e = c.child_at-child.ensures.0 in (
      omega (arith, c.decreases, c.loop-i.invariant.0.later, child_falls reached n e),
      (
        to_child reached n l u e,
        (
          child_stands reached n l u e c.put_node-own.ensures.stands,
          rest_room (records_from w N k) (records_from w N (next N c.loop-i.i)) (below t (goal.at.put_kits-to-requires t c).After-child_at-child) refl,
        ),
      ),
    )

pub loop-i-smaller : goal.loop-i-smaller
loop-i-smaller t c =
    next_falls c.loop-i.invariant.0.reached c.loop-i-test.true c.next_at-i.ensures.0

pub loop-i-preserved : goal.loop-i-preserved
loop-i-preserved t c =
    let reached = c.loop-i.invariant.0.reached in
    let n = c.loop-i-test.true in
    let e = c.next_at-i.ensures.0 in
    let node = kept_on c.put_node-own.ensures.kept c.put_kits-to.ensures.kept
    (further (known t (goal.at.loop-i-preserved t c).After-with_unit-end) (bytes_of c.args.w)) in (
      along_next c.loop-i.invariant.0 n e,
      next_stands reached n e (still_stands reached n node (above_stands reached n c.loop-i.invariant.1)),
      kept_on c.loop-i.invariant.2 node (omega arith),
      rest_same (rest_put (below t (goal.at.loop-i-preserved t c).After-child_at-child) refl c.put_kits-to.ensures.put)
          (ap (records_from (bytes_of c.args.w) c.args.nodes.now) (sym e)),
    )

pub returns-clause-put : goal.returns-clause-put
returns-clause-put t c =
    rest_end c.loop-i.invariant.3 (none_from (bytes_of c.args.w) c.loop-i.invariant.0.reached c.loop-i-test.false)
