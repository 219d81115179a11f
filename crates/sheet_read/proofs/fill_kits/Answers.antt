-- Of kits in listing order only the first can be empty: behind it, or from it on, stand those with a unit.
use Rattle.sheet.specs.Sheet.{bytes_of}
use mathlib.Core.Path.{◌∙◌, ap, sym}
use mathlib.Core.List.{List}
use Prim.Native.Nat.{◌+◌, ◌-◌}
use native.Mathlib.Omega.{arith}
use Rattle.ground.specs.Laid.{zeroed}
use Rattle.nodes.specs.Held.{Kit, with_units}
use Rattle.sheet.proofs.Places.{size_at}
use Rattle.sheet_read.specs.Inner.{kits_read}
use Rattle.sheet_read.proofs.FirstKit.{entered_are, first_whole, some_kit, units_of_rest, rest_stands, all_with_units}
use Rattle.sheet_read.proofs.fill_kits.Goals as goal
use Rattle.sheet_read.proofs.fill_kits.Goals.{Start}

pub first_empty-requires : goal.first_empty-requires
first_empty-requires c =
    first_whole c.requires

-- the kits that have a unit, of those that stand there
abbrev wanted : Start → List Kit
wanted c = with_units (kits_read (bytes_of c.args.w) c.args.s.now c.args.at c.args.m)

pub record_size-requires : goal.record_size-requires
record_size-requires c =
    let some = some_kit c.requires (sym c.first_empty.ensures ∙ c.if-first_empty.true) in
    omega (arith, (first_whole c.requires some).0)

pub overflow_add-next : goal.overflow_add-next
overflow_add-next c =
    let some = some_kit c.requires (sym c.first_empty.ensures ∙ c.if-first_empty.true) in
    omega (
      arith,
      c.record_size.ensures,
      (first_whole c.requires some).0,
      size_at (bytes_of c.args.w) c.args.s.now c.args.at,
    )

pub fill_nodes-requires : goal.fill_nodes-requires
fill_nodes-requires c =
    rest_stands c.requires (sym c.first_empty.ensures ∙ c.if-first_empty.true) (ap (◌+◌ c.args.at) c.record_size.ensures)

pub returns-then-first_empty : goal.returns-then-first_empty
returns-then-first_empty c =
    let e = units_of_rest c.requires (sym c.first_empty.ensures ∙ c.if-first_empty.true) (ap (◌+◌ c.args.at) c.record_size.ensures) in
    let it = entered_are (bytes_of c.args.w) c.args.s.now (c.args.at + c.record_size.result) (c.args.m - 1) (wanted (goal.at.returns-then-first_empty c).Start)
    (zeroed c.args.nodes.now) e c.fill_nodes.ensures in
    record { count = it.0; entered = it.1 }

pub returns : goal.returns
returns c =
    let e = all_with_units c.requires (sym c.first_empty.ensures ∙ c.if-first_empty.false) in
    let it = entered_are (bytes_of c.args.w) c.args.s.now c.args.at c.args.m (wanted (goal.at.returns c).Start)
    (zeroed c.args.nodes.now) e c.fill_nodes-2.ensures in
    record { count = it.0; entered = it.1 }
