-- No tag, no record; otherwise the bytes of its row's lines, behind three.
use Rattle.sheet.proofs.Widths.{some_width}
use mathlib.Core.Path.{◌≡◌, ap, sym, ◌∙◌}
use Prim.Native.Nat.{◌+◌, ◌*◌, ◌≤◌}
use native.Mathlib.Omega.{arith}
use lib.ListN.{length}
use Rattle.sheet.specs.Sheet.{bytes_of, line_bytes, lines_at}
use Rattle.sheet.specs.Inner.{most_record}
use Rattle.sheet_write.specs.declared.EndLine.{EndLine}
use Rattle.sheet_write.specs.Inner.{node_row, end_of}
use Rattle.sheet_write.proofs.Records.{own_none, own_length, row_most}
use Rattle.sheet_write.proofs.own_size.Goals as goal
use Rattle.sheet_write.proofs.own_size.Goals.{Start}

pub returns-then-tag_at-eq0 : goal.returns-then-tag_at-eq0
returns-then-tag_at-eq0 c =
    sym (ap length (own_none (bytes_of c.args.w) c.args.nodes.now c.args.i (sym c.tag_at.ensures ∙ c.if-tag_at-eq0.true)))

-- the bytes of all lines but the last
before : (c : Start) → c.args.end.at * line_bytes (bytes_of c.args.w) ≡ (end_of (node_row c.args.nodes.now c.args.i)).at * line_bytes (bytes_of c.args.w)
before c = ap (λ (e : EndLine). e.at * line_bytes (bytes_of c.args.w)) c.requires.ends

few : (c : Start) → lines_at + c.args.end.at * line_bytes (bytes_of c.args.w) ≤ most_record
few c = omega (arith, before c, row_most c.args.nodes.now c.requires.shape c.args.i c.requires.used (some_width c.args.w))

pub overflow_mul-result : goal.overflow_mul-result
overflow_mul-result c =
    rw c.line_bytes.ensures (omega (arith, few (goal.at.overflow_mul-result c).Start))

pub overflow_add-result : goal.overflow_add-result
overflow_add-result c =
    rw c.line_bytes.ensures (omega (arith, few (goal.at.overflow_add-result c).Start))

pub returns : goal.returns
returns c =
    rw c.line_bytes.ensures (omega (
      arith,
      before (goal.at.returns c).Start,
      own_length c.args.nodes.now c.requires.shape c.args.i c.requires.used (some_width c.args.w) c.tag_at.result
          c.tag_at.ensures c.if-tag_at-eq0.false,
    ))
