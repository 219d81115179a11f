-- Mark, version, part count: each in the rest of the output behind the last, which has room for all still to come.
use mathlib.Core.Path.{refl, ap}
use mathlib.Core.List.{◌++◌}
use Prim.Native.Nat.{◌+◌, ◌-◌}
use native.Mathlib.Omega.{arith}
use lib.ListN.{length}
use borrow.Rule.Slice.PartMut.{put_mid}
use Rattle.ground.specs.Laid.{Put}
use Rattle.ground.proofs.Put.{tail_of, Rest, rest_behind, rest_lent, rest_fits, rest_inside, last_fits, last_lent, put_same}
use Rattle.sheet.specs.Bytes.{two, in_bytes}
use Rattle.sheet.specs.Sheet.{version}
use Rattle.sheet.proofs.Numbers.{two_length}
use Rattle.sheet_write.specs.Inner.{head_items}
use Rattle.sheet_write.proofs.put_head.Goals as goal
use Rattle.sheet_write.proofs.put_head.Goals.{After-slice_known-2-1, After-slice_known-3-1}

first : (c : After-slice_known-2-1) →
    Rest c.args.out.now 0 (head_items c.args.parts) c.copy_in.new.out 3
    (two (version c.args.parts) ++ two c.args.parts)
unfolding head_items
first c =
    rest_behind (two (version c.args.parts) ++ two c.args.parts) (record { behind = refl; lies = c.copy_in.ensures }) refl
    c.requires

version_down : (c : After-slice_known-3-1) →
    Put (tail_of c.copy_in.new.out 3) 0 (two (version c.args.parts)) c.put_two-at.result c.put_two-at.new.out
version_down c =
    put_same c.put_two-at.ensures (ap two c.version.ensures)

second : (c : After-slice_known-3-1) →
    Rest c.args.out.now 0 (head_items c.args.parts)
    (put_mid 3 (length c.copy_in.new.out - 3) c.copy_in.new.out c.put_two-at.new.out)
    (3 + c.put_two-at.result) (two c.args.parts)
second c =
    rest_lent (two (version c.args.parts)) (two c.args.parts) (first (goal.at.After-slice_known-3-1 c).After-slice_known-2-1) (version_down c)

pub copy_in-requires : goal.copy_in-requires
unfolding head_items in_bytes
copy_in-requires c = omega arith

pub slice_bounds-put_two-count : goal.slice_bounds-put_two-count
slice_bounds-put_two-count c =
    omega (arith, rest_inside (two (version c.args.parts)) (two c.args.parts) (first c))

pub slice_bounds-put_two-start : goal.slice_bounds-put_two-start
slice_bounds-put_two-start c =
    omega (arith, rest_inside (two (version c.args.parts)) (two c.args.parts) (first c))

pub put_two-at-requires : goal.put_two-at-requires
put_two-at-requires c =
    let v = version c.args.parts in
    omega (arith, two_length v, rest_fits (two v) (two c.args.parts) (first (goal.at.put_two-at-requires c).After-slice_known-2-1))

pub overflow_add-at : goal.overflow_add-at
overflow_add-at c =
    omega (arith, two_length (version c.args.parts), (version_down c).behind)

pub slice_bounds-put_two-count-2 : goal.slice_bounds-put_two-count-2
slice_bounds-put_two-count-2 c = omega (arith, (second c).room)

pub slice_bounds-put_two-start-2 : goal.slice_bounds-put_two-start-2
slice_bounds-put_two-start-2 c = omega (arith, (second c).room)

pub put_two-requires : goal.put_two-requires
put_two-requires c =
    omega (arith, two_length c.args.parts, last_fits (second (goal.at.put_two-requires c).After-slice_known-3-1))

pub overflow_add-result : goal.overflow_add-result
overflow_add-result c =
    omega (
      arith,
      two_length (version c.args.parts),
      two_length c.args.parts,
      c.put_two.ensures.behind,
      (version_down (goal.at.overflow_add-result c).After-slice_known-3-1).behind,
    )

pub returns : goal.returns
returns c =
    last_lent (second (goal.at.returns c).After-slice_known-3-1) c.put_two.ensures
