-- So far the bytes of the nodes before this one on the chain, each with those below it, are counted; with those of the rest they are all.
use Rattle.sheet.specs.Sheet.{bytes_of}
use mathlib.Core.Path.{refl, ap}
use Prim.Native.Nat.{ℕ}
use native.Mathlib.Omega.{arith}
use lib.ListN.{length}
use Rattle.sheet_write.specs.Inner.{EndsIn, end_line}
use Rattle.sheet_write.proofs.Walked.{none_from, may_add, ends, to_child, child_falls, next_falls, parts_long}
use Rattle.sheet_write.proofs.Walked.{along_next}
use Rattle.sheet_write.proofs.+kits_size.Goals as goal
use Rattle.sheet_write.proofs.+kits_size.Goals.{After-with_unit-end}

-- what the rows end in once the label is read
known : (t : ℕ) (c : After-with_unit-end t) →
    EndsIn c.args.nodes.now c.loop-i.i (end_line c.args.line c.args.place c.args.quantity)
    c.with_unit-end.result
known t c =
    ends c.loop-i.invariant.0.reached c.loop-i-test.true c.label_at.ensures c.with_unit-end.ensures

pub with_unit-end-requires : goal.with_unit-end-requires
with_unit-end-requires t c =
    may_add c.loop-i.invariant.0.reached c.loop-i-test.true

pub own_size-requires-clause-ends : goal.own_size-requires-clause-ends
own_size-requires-clause-ends t c =
    let k = known t c in
    k.end_is

pub overflow_add-own : goal.overflow_add-own
overflow_add-own t c =
    let long = parts_long c.loop-i.invariant.0.reached c.loop-i-test.true (bytes_of c.args.w) in
    omega (arith, c.requires.few, c.loop-i.invariant.1, c.own_size.ensures, long refl refl)

pub kits_size-requires : goal.kits_size-requires
kits_size-requires t c =
    let reached = c.loop-i.invariant.0.reached in
    let n = c.loop-i-test.true in
    let e = c.child_at-child.ensures.0 in (
      omega (arith, c.decreases, c.loop-i.invariant.0.later, child_falls reached n e),
      (
        to_child reached n c.label_at.ensures c.with_unit-end.ensures e,
        omega (arith, c.requires.few, c.loop-i.invariant.1, parts_long reached n (bytes_of c.args.w) e refl),
      ),
    )

pub overflow_add-size : goal.overflow_add-size
overflow_add-size t c =
    omega (
      arith,
      c.requires.few,
      c.loop-i.invariant.1,
      c.own_size.ensures,
      c.kits_size.ensures,
      parts_long c.loop-i.invariant.0.reached c.loop-i-test.true (bytes_of c.args.w) c.child_at-child.ensures.0 refl,
    )

pub loop-i-smaller : goal.loop-i-smaller
loop-i-smaller t c =
    next_falls c.loop-i.invariant.0.reached c.loop-i-test.true c.next_at-i.ensures.0

pub loop-i-preserved : goal.loop-i-preserved
loop-i-preserved t c =
    let n = c.loop-i-test.true in (
      along_next c.loop-i.invariant.0 n c.next_at-i.ensures.0,
      omega (
        arith,
        c.loop-i.invariant.1,
        c.own_size.ensures,
        c.kits_size.ensures,
        parts_long c.loop-i.invariant.0.reached n (bytes_of c.args.w) c.child_at-child.ensures.0 c.next_at-i.ensures.0,
      ),
    )

pub returns : goal.returns
returns t c =
    omega (arith, c.loop-i.invariant.1, ap length (none_from (bytes_of c.args.w) c.loop-i.invariant.0.reached c.loop-i-test.false))
