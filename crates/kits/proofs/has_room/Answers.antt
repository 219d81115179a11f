-- has_room: what is left has room in what is left of the row exactly when the whole has room in a row
use Rattle.std.proofs.Common.{ap, sym, ◌∙◌, length, arith}
use Rattle.std.specs.Slice.Iter.{chunks_exact_rest}
use borrow.Author.Tests.{lt-leb, le-leb}
use Rattle.kits.specs.Kits.{units}
use Rattle.kits.proofs.Lists.{count_first, units_short, room_on}
use Rattle.kits.proofs.has_room.Goals as goal

pub returns-then-left-quantity : goal.returns-then-left-quantity
returns-then-left-quantity c =
    let s = c.in-Some.ensures.steps in
    let n = count_first _ _ _ _ c.loop-line.invariant.0 s.1 in
    sym (lt-leb (length (units (chunks_exact_rest c.loop-line.line-iterator))) c.loop-line.left (omega arith)) ∙ c.loop-line.invariant.1

pub loop-line-preserved : goal.loop-line-preserved
loop-line-preserved c =
    let s = c.in-Some.ensures.steps in
    let n = count_first _ _ _ _ c.loop-line.invariant.0 s.1 in (
      s.0 ∙ c.loop-line.invariant.0,
      sym (room_on _ _ _ c.if-left-quantity.false) ∙ rw c.from-quantity.ensures (rw n at c.loop-line.invariant.1),
    )

pub returns : goal.returns
returns c =
    let s = c.in-None.ensures.steps in
    let rest = chunks_exact_rest c.loop-line.line-iterator in
    let n = ap length (units_short rest (omega arith)) in
    sym (le-leb (length (units rest)) c.loop-line.left (omega arith)) ∙ c.loop-line.invariant.1
