-- With the tag and the line count down only the lines are to come.
use mathlib.Core.Path.{refl, ap}
use Prim.Native.Nat.{ℕ, ◌+◌, ◌/◌}
use native.Mathlib.Omega.{arith}
use lib.ListN.{length, set, length-set}
use Rattle.ground.proofs.Put.{Rest, rest_last, put_length}
use Rattle.ground.specs.Laid.{Put}
use Rattle.sheet.specs.Sheet.{bytes_of, count_at, lines_at}
use Rattle.sheet.specs.Inner.{record_bytes}
use Rattle.sheet.proofs.Lines.{kit_going, record_long}
use Rattle.sheet.proofs.put_kit.Goals as goal
use Rattle.sheet.proofs.put_kit.Goals.{After-copy_in, After-line_bytes}

going : (c : After-line_bytes) →
    Rest c.args.out.now 0 (record_bytes (bytes_of c.args.w) c.args.tag c.args.lines.now)
    (set c.put_two.new.out count_at (length c.args.lines.now / c.line_bytes.result)) lines_at c.args.lines.now
going c =
    let ls = c.args.lines.now in
    kit_going (bytes_of c.args.w) ls c.args.tag _ c.put_two.ensures (ap (λ (n : ℕ). length ls / n) c.line_bytes.ensures) c.requires.1

all : (c : After-copy_in) →
    Put c.args.out.now 0 (record_bytes (bytes_of c.args.w) c.args.tag c.args.lines.now) (lines_at + length c.args.lines.now)
    c.copy_in.new.out
all c =
    rest_last (going (goal.at.After-copy_in c).After-line_bytes) refl (record { behind = refl; lies = c.copy_in.ensures })

pub put_two-requires : goal.put_two-requires
put_two-requires c =
    omega (arith, c.requires.1, record_long (bytes_of c.args.w) c.args.tag c.args.lines.now)

pub bounds-out-2 : goal.bounds-out-2
bounds-out-2 c =
    omega (arith, rw length-set at (going (goal.at.bounds-out-2 c).After-line_bytes).room)

pub copy_in-requires : goal.copy_in-requires
copy_in-requires c =
    (going (goal.at.copy_in-requires c).After-line_bytes).room

pub shape_of-out : goal.shape_of-out
shape_of-out c =
    put_length (all (goal.at.shape_of-out c).After-copy_in)

pub returns : goal.returns
returns c =
    all (goal.at.returns c).After-copy_in
