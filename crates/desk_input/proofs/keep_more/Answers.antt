-- More than there is room for is cut to the room, which is then full; anything less is kept whole.
use mathlib.Core.Path.{sym}
use native.Mathlib.Omega.{arith}
use Rattle.desk_input.proofs.Input.{kept_full, kept_all, room_length}
use Rattle.desk_input.proofs.keep_more.Goals as goal

pub slice_bounds-copy_in-end : goal.slice_bounds-copy_in-end
slice_bounds-copy_in-end c =
    sym (room_length c.args.kept.now c.args.n c.args.bytes.now c.if-room-bytes.true)

pub copy_in-requires : goal.copy_in-requires
copy_in-requires c =
    omega (arith, room_length c.args.kept.now c.args.n c.args.bytes.now c.if-room-bytes.true)

pub returns-then-room-bytes : goal.returns-then-room-bytes
returns-then-room-bytes c =
    kept_full c.args.kept.now c.args.n c.args.bytes.now c.copy_in.new.out c.requires
    c.if-room-bytes.true c.copy_in.ensures

pub returns : goal.returns
returns c =
    kept_all c.args.kept.now c.args.n c.args.bytes.now c.copy_in-2.new.out c.requires
    c.if-room-bytes.false c.copy_in-2.ensures
