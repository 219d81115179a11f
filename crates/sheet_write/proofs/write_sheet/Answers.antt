-- What is counted is what the walk sets down, so the need is the sheet's length; room decides.
use mathlib.Core.Path.{◌≡◌, refl, ap}
use Prim.Native.Nat.{ℕ, ◌+◌}
use native.Mathlib.Omega.{arith}
use lib.ListN.{length}
use Rattle.register.proofs.Sound.{ready_short}
use Rattle.nodes.specs.Held.{listed}
use Rattle.sheet.specs.Sheet.{encode, contents_of}
use Rattle.sheet.specs.Calls.{writing_of}
use Rattle.sheet.proofs.Down.{down_12, down_done}
use Rattle.sheet_write.specs.Inner.{all_records}
use Rattle.sheet_write.proofs.Whole.{sheet_size}
use Rattle.sheet_write.proofs.write_sheet.Goals as goal
use Rattle.sheet_write.proofs.write_sheet.Goals.{After-records_size}

need : (c : After-records_size) →
    7 + c.numbers_size.result + 2 + c.records_size.result ≡ length
    (encode (contents_of c.args.reg.now c.args.nodes.now))
need c =
    let N = c.args.nodes.now in
    omega (
      arith,
      c.records_size.ensures.size,
      ap (λ (w : ℕ). length (all_records w N)) c.place_bytes.ensures,
      c.numbers_size.ensures.size,
      sheet_size c.args.reg.now
          c.args.nodes.now c.requires.fact_1 c.count_parts-parts.result (length (listed c.args.nodes.now))
          c.count_parts-parts.ensures.fact_1 refl c.requires.fact_2.shape,
    )

pub numbers_size-requires-clause-short : goal.numbers_size-requires-clause-short
numbers_size-requires-clause-short c =
    ready_short c.args.reg.now c.requires.fact_1 c.count_parts-parts.result c.count_parts-parts.ensures.fact_1

pub returns-then-out-need : goal.returns-then-out-need
unfolding writing_of
returns-then-out-need c =
    down_12 (encode (contents_of c.args.reg.now c.args.nodes.now)) c.args.out.now _ (need (goal.at.returns-then-out-need c).After-records_size)
    c.if-out-need.true

pub put_items-requires-clause-room : goal.put_items-requires-clause-room
put_items-requires-clause-room c =
    omega
    (arith, need (goal.at.put_items-requires-clause-room c).After-records_size, c.if-out-need.false)

pub returns : goal.returns
unfolding writing_of
returns c =
    down_done (encode (contents_of c.args.reg.now c.args.nodes.now)) c.args.out.now _ (need (goal.at.returns c).After-records_size) _
    c.put_items.result c.if-out-need.false c.put_items.ensures
