-- The text of the tags to come, behind what is down, makes all; each is a space and its digits.
use mathlib.Core.Path.{refl, sym, ap}
use mathlib.Core.List.{◌++◌}
use Prim.Native.Nat.{ℕ, ◌+◌}
use lib.ListN.{drop}
use Rattle.desk_replies.specs.Replies.{tags_text, decimal}
use Rattle.ground.proofs.Put.{rest_start, rest_put, rest_room, rest_byte, rest_byte_room, rest_end}
use Rattle.desk_replies.proofs.Replies.{tags_step, tags_end}
use Rattle.desk_replies.proofs.put_tags.Goals as goal

pub loop-tag-init : goal.loop-tag-init
loop-tag-init c = rest_start _ _ _ c.requires

pub put_byte-at-requires : goal.put_byte-at-requires
put_byte-at-requires c =
    rest_byte_room c.loop-tag.invariant (tags_step c.args.tags.now c.loop-tag.tag-index c.loop-tag-test.true)

pub put_decimal-at-requires : goal.put_decimal-at-requires
put_decimal-at-requires c =
    let ts = c.args.tags.now in
    let i = c.loop-tag.tag-index in
    let more = tags_text (drop (i + 1) ts) in
    rest_room (decimal c.from.result) more
    (rest_byte c.loop-tag.invariant (tags_step ts i c.loop-tag-test.true) refl c.put_byte-at.ensures)
    (ap (λ (n : ℕ). decimal n ++ more) (sym c.from.ensures))

pub loop-tag-preserved : goal.loop-tag-preserved
loop-tag-preserved c =
    let ts = c.args.tags.now in
    let i = c.loop-tag.tag-index in
    let more = tags_text (drop (i + 1) ts) in
    rest_put
    (rest_byte c.loop-tag.invariant (tags_step ts i c.loop-tag-test.true) refl c.put_byte-at.ensures)
    (ap (λ (n : ℕ). decimal n ++ more) (sym c.from.ensures)) c.put_decimal-at.ensures

pub shape_of-out : goal.shape_of-out
shape_of-out c = c.loop-tag.invariant.size

pub returns : goal.returns
returns c = rest_end c.loop-tag.invariant (tags_end _ _ c.loop-tag-test.false)
