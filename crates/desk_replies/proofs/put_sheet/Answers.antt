-- At most 43 bytes of head, a space, two digits for each byte and a line feed: each in turn has its room.
use mathlib.Core.Path.{refl}
use mathlib.Core.List.{[], ◌∷◌}
use native.Mathlib.Omega.{arith}
use lib.ListN.{length}
use Rattle.desk_text.specs.Lines.{space}
use Rattle.desk_replies.specs.Replies.{hex_of}
use Rattle.desk_text.specs.Lines.{line_feed}
use Rattle.ground.proofs.Put.{rest_room, rest_put, rest_byte, rest_byte_room}
use Rattle.desk_replies.proofs.Replies.{sheet_room, head_fits, behind_head_lem, reply_last}
use Rattle.desk_replies.proofs.put_sheet.Goals as goal

pub put_head-at-requires : goal.put_head-at-requires
put_head-at-requires c =
    let a = c.args in
    let s = a.sheet.now in
    head_fits a.letter 0 (length s) (space ∷ hex_of s) a.out.now
    (sheet_room a.letter a.out.now s (omega arith) c.requires)

pub put_byte-at-requires : goal.put_byte-at-requires
put_byte-at-requires c =
    let a = c.args in
    let s = a.sheet.now in
    let h = sheet_room a.letter a.out.now s (omega arith) c.requires in
    rest_byte_room (behind_head_lem a.letter 0 (length s) (space ∷ hex_of s) h c.put_head-at.ensures) refl

pub put_hex-at-requires : goal.put_hex-at-requires
put_hex-at-requires c =
    let a = c.args in
    let s = a.sheet.now in
    let h = sheet_room a.letter a.out.now s (omega arith) c.requires in
    rest_room (hex_of s) (line_feed ∷ [])
    (rest_byte (behind_head_lem a.letter 0 (length s) (space ∷ hex_of s) h c.put_head-at.ensures) refl refl
    c.put_byte-at.ensures) refl

pub put_byte-requires : goal.put_byte-requires
put_byte-requires c =
    let a = c.args in
    let s = a.sheet.now in
    let h = sheet_room a.letter a.out.now s (omega arith) c.requires in
    rest_byte_room (rest_put {more = line_feed ∷ []}
    (rest_byte (behind_head_lem a.letter 0 (length s) (space ∷ hex_of s) h c.put_head-at.ensures) refl refl
    c.put_byte-at.ensures) refl c.put_hex-at.ensures) refl

pub returns : goal.returns
returns c =
    let a = c.args in
    let s = a.sheet.now in
    let h = sheet_room a.letter a.out.now s (omega arith) c.requires in
    reply_last (rest_put {more = line_feed ∷ []}
    (rest_byte (behind_head_lem a.letter 0 (length s) (space ∷ hex_of s) h c.put_head-at.ensures) refl refl
    c.put_byte-at.ensures) refl c.put_hex-at.ensures) refl c.put_byte.ensures
