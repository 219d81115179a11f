-- The hex of the bytes to come, behind what is down, makes all; a byte is two digits, each below 16.
use mathlib.Core.Path.{refl}
use native.Mathlib.Omega.{arith}
use Rattle.ground.proofs.Put.{rest_byte, rest_byte_room}
use Rattle.ground.proofs.Put.{rest_start, rest_end}
use Rattle.desk_replies.proofs.Replies.{hex_step, hex_end}
use Rattle.desk_replies.proofs.put_hex.Goals as goal

pub loop-b-init : goal.loop-b-init
loop-b-init c = rest_start _ _ _ c.requires

pub hex_digit-requires : goal.hex_digit-requires
hex_digit-requires c =
    omega (arith, c.type_inv.bytes c.loop-b.b-index)

pub put_byte-at-requires : goal.put_byte-at-requires
put_byte-at-requires c =
    rest_byte_room c.loop-b.invariant (hex_step c.args.bytes.now c.loop-b.b-index c.loop-b-test.true)

pub hex_digit-requires-in-loop-b : goal.hex_digit-requires-in-loop-b
hex_digit-requires-in-loop-b c =
    omega (arith, c.type_inv.bytes c.loop-b.b-index)

pub put_byte-at-requires-in-loop-b : goal.put_byte-at-requires-in-loop-b
put_byte-at-requires-in-loop-b c =
    let s = hex_step c.args.bytes.now c.loop-b.b-index c.loop-b-test.true in
    rest_byte_room (rest_byte c.loop-b.invariant s c.hex_digit.ensures c.put_byte-at.ensures) refl

pub loop-b-preserved : goal.loop-b-preserved
loop-b-preserved c =
    let s = hex_step c.args.bytes.now c.loop-b.b-index c.loop-b-test.true in
    rest_byte
    (rest_byte c.loop-b.invariant s c.hex_digit.ensures c.put_byte-at.ensures) refl
    c.hex_digit-in-loop-b.ensures c.put_byte-at-in-loop-b.ensures

pub shape_of-out : goal.shape_of-out
shape_of-out c = c.loop-b.invariant.size

pub returns : goal.returns
returns c = rest_end c.loop-b.invariant (hex_end _ _ c.loop-b-test.false)
