-- Five items, each behind the last; the room that the whole head has is room for what is left of it.
use mathlib.Core.Path.{refl}
use mathlib.Core.List.{◌∷◌}
use Rattle.desk_text.specs.Lines.{space}
use Rattle.desk_replies.specs.Replies.{decimal}
use Rattle.ground.proofs.Put.{rest_room, rest_byte_room}
use Rattle.desk_replies.proofs.Replies.{head_start, head_letter, head_space, head_number, head_gap, head_value}
use Rattle.desk_replies.proofs.put_head.Goals as goal

pub put_byte-at-requires : goal.put_byte-at-requires
put_byte-at-requires c =
    rest_byte_room (head_start c.args.out.now c.args.letter c.args.number c.args.value
    c.requires) refl

pub put_byte-at-requires-2 : goal.put_byte-at-requires-2
put_byte-at-requires-2 c =
    rest_byte_room (head_letter c.args.out.now c.args.letter c.args.number c.args.value
    c.requires c.put_byte-at.ensures) refl

pub put_decimal-at-requires : goal.put_decimal-at-requires
put_decimal-at-requires c =
    rest_room (decimal c.args.number) (space ∷ decimal c.args.value)
    (head_space c.args.out.now c.args.letter c.args.number c.args.value c.requires
    c.put_byte-at.ensures c.put_byte-at-2.ensures) refl

pub put_byte-at-requires-3 : goal.put_byte-at-requires-3
put_byte-at-requires-3 c =
    rest_byte_room (head_number c.args.out.now c.args.letter c.args.number c.args.value
    c.requires c.put_byte-at.ensures c.put_byte-at-2.ensures c.put_decimal-at.ensures) refl

pub put_decimal-requires : goal.put_decimal-requires
put_decimal-requires c =
    (head_gap c.args.out.now c.args.letter c.args.number c.args.value c.requires
    c.put_byte-at.ensures c.put_byte-at-2.ensures c.put_decimal-at.ensures
    c.put_byte-at-3.ensures).room

pub returns : goal.returns
returns c =
    head_value c.args.out.now c.args.letter c.args.number c.args.value c.requires
    c.put_byte-at.ensures c.put_byte-at-2.ensures c.put_decimal-at.ensures
    c.put_byte-at-3.ensures c.put_decimal.ensures
