-- Two numbers below 2^64 leave a head at most 43 bytes, so the line feed has its room behind it.
use mathlib.Core.Path.{refl}
use mathlib.Core.List.{[]}
use native.Mathlib.Omega.{arith}
use Rattle.ground.proofs.Put.{rest_byte_room}
use Rattle.desk_replies.proofs.Replies.{reply_room, head_fits, behind_head_lem, reply_last}
use Rattle.desk_replies.proofs.put_reply.Goals as goal

pub put_head-at-requires : goal.put_head-at-requires
put_head-at-requires c =
    let a = c.args in
    head_fits a.letter a.number a.value [] a.out.now
    (reply_room a.letter a.out.now a.number a.value (omega arith) (omega arith) c.requires)

pub put_byte-requires : goal.put_byte-requires
put_byte-requires c =
    let a = c.args in
    let h = reply_room a.letter a.out.now a.number a.value (omega arith) (omega arith) c.requires in
    rest_byte_room (behind_head_lem a.letter a.number a.value [] h c.put_head-at.ensures) refl

pub returns : goal.returns
returns c =
    let a = c.args in
    let h = reply_room a.letter a.out.now a.number a.value (omega arith) (omega arith) c.requires in
    reply_last (behind_head_lem a.letter a.number a.value [] h c.put_head-at.ensures) refl
    c.put_byte.ensures
