-- A refusal has nothing behind; done, the value says how many places are the tags.
use Rattle.desk_replies.specs.Replies.{tags_text}
use Rattle.desk_text.specs.Letters.{byte_of}
use Rattle.desk_lines.proofs.Answering.{printed_refused, printed_done, done_length, done_inside}
use native.Mathlib.Omega.{arith}
use Rattle.desk_lines.proofs.put_listed.Goals as goal

pub returns-in-Err : goal.returns-in-Err
returns-in-Err c =
    let a = c.args in
    printed_refused a.a a.places.now (byte_of a.letter) tags_text _ c.in-Err.is c.put_answer.ensures

pub slice_bounds-put_listing-end : goal.slice_bounds-put_listing-end
slice_bounds-put_listing-end c = done_length c.args.a c.args.places.now _ c.in-Ok.is c.requires.inside

pub put_listing-requires : goal.put_listing-requires
put_listing-requires c =
    let a = c.args in
    let n = done_length a.a a.places.now _ c.in-Ok.is c.requires.inside in
    let i = done_inside a.a a.places.now _ c.in-Ok.is c.requires.inside in
    omega (arith, c.requires.room)

pub returns-in-Ok : goal.returns-in-Ok
returns-in-Ok c =
    let a = c.args in
    printed_done a.a a.places.now _ c.in-Ok.is c.requires.inside (byte_of a.letter) tags_text
    (rw c.byte.ensures at c.put_listing.ensures)
