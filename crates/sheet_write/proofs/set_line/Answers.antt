-- A line in the lent tail, which comes back.
use Prim.Native.Nat.{◌+◌, ◌*◌, ◌≤◌}
use native.Mathlib.Omega.{arith}
use lib.ListN.{length}
use Rattle.ground.proofs.Put.{put_lent}
use Rattle.sheet.specs.Sheet.{bytes_of, line_bytes}
use Rattle.sheet_write.specs.Inner.{end_item}
use Rattle.sheet_write.proofs.Carried.{item_long}
use Rattle.sheet_write.proofs.set_line.Goals as goal

pub returns : goal.returns
returns c =
    let w = bytes_of c.args.w in
    let fits : c.args.line.at * line_bytes w + length (end_item w c.args.line) ≤ length c.args.lines.now = omega
    (arith, c.requires.0, item_long w c.args.line) in
    rw c.line_bytes.ensures ((put_lent fits (rw c.line_bytes.ensures at c.put_line.ensures)).lies)
