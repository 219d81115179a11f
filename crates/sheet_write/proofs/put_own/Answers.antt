-- Without a tag there is no record; with one it is the tag and the lines of its row.
use Rattle.sheet.proofs.Widths.{some_width}
use Rattle.sheet.specs.Sheet.{bytes_of}
use mathlib.Core.Path.{◌≡◌, ap, sym, ◌∙◌}
use native.Mathlib.Omega.{arith}
use Prim.Native.Nat.{◌+◌, ◌≤◌}
use lib.ListN.{length}
use Rattle.ground.proofs.Laid.{room}
use Rattle.ground.proofs.Put.{put_none, put_same, put_lent}
use Rattle.sheet.specs.Inner.{record_bytes}
use Rattle.sheet_write.specs.Inner.{own_record}
use Rattle.sheet_write.proofs.Records.{own_none, own_record_lem, row_count}
use Rattle.sheet_write.proofs.put_own.Goals as goal
use Rattle.sheet_write.proofs.put_own.Goals.{Else-tag-eq0}

own : (c : Else-tag-eq0) →
    record_bytes (bytes_of c.args.w) c.tag_at-tag.result c.args.lines.now ≡ own_record (bytes_of c.args.w) c.args.nodes.now c.args.i
own c =
    ap (record_bytes (bytes_of c.args.w) c.tag_at-tag.result) c.requires.lines
    ∙ own_record_lem c.args.nodes.now c.requires.shape c.args.i c.requires.used (some_width c.args.w) c.tag_at-tag.result
    c.tag_at-tag.ensures c.if-tag-eq0.false

fits : (c : Else-tag-eq0) →
    c.args.at + length (record_bytes (bytes_of c.args.w) c.tag_at-tag.result c.args.lines.now) ≤ length c.args.out.now
fits c =
    omega (arith, ap length (own c), c.requires.room)

pub returns-then-tag-eq0 : goal.returns-then-tag-eq0
returns-then-tag-eq0 c =
    put_none c.args.out.now c.args.at
    (own_none (bytes_of c.args.w) c.args.nodes.now c.args.i (sym c.tag_at-tag.ensures ∙ c.if-tag-eq0.true))

pub put_kit-requires : goal.put_kit-requires
put_kit-requires c = (
  row_count c.args.nodes.now c.requires.shape c.args.i c.requires.used (some_width c.args.w) c.requires.lines,
  room c.args.out.now c.args.at (length (record_bytes (bytes_of c.args.w) c.tag_at-tag.result c.args.lines.now))
      (fits (goal.at.put_kit-requires c).Else-tag-eq0),
)

pub overflow_add-result : goal.overflow_add-result
overflow_add-result c =
    omega (arith, c.put_kit.ensures.behind, fits (goal.at.overflow_add-result c).Else-tag-eq0)

pub returns : goal.returns
returns c =
    put_same (put_lent (fits (goal.at.returns c).Else-tag-eq0) c.put_kit.ensures) (own (goal.at.returns c).Else-tag-eq0)
