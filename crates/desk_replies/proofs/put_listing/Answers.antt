-- At most 43 bytes of head, six for each tag and a line feed: each part in turn has the room of what is left.
use mathlib.Core.Path.{refl}
use mathlib.Core.List.{[], ◌∷◌}
use native.Mathlib.Omega.{arith}
use lib.ListN.{length}
use Rattle.desk_replies.specs.Replies.{tags_text}
use Rattle.desk_text.specs.Lines.{line_feed}
use Rattle.ground.proofs.Put.{rest_room, rest_put, rest_byte_room}
use Rattle.desk_replies.proofs.Replies.{listing_room, head_fits, behind_head_lem, reply_last}
use Rattle.desk_replies.proofs.put_listing.Goals as goal

pub put_head-at-requires : goal.put_head-at-requires
put_head-at-requires c =
    let a = c.args in
    let ts = a.tags.now in
    head_fits a.letter 0 (length ts) (tags_text ts) a.out.now
    (listing_room a.letter a.out.now ts (λ i. omega (arith, c.type_inv.tags i)) (omega arith)
    c.requires)

pub put_tags-at-requires : goal.put_tags-at-requires
put_tags-at-requires c =
    let a = c.args in
    let ts = a.tags.now in
    let h = listing_room a.letter a.out.now ts (λ i. omega (arith, c.type_inv.tags i))
    (omega arith) c.requires in
    rest_room (tags_text ts) (line_feed ∷ []) (behind_head_lem a.letter 0 (length ts) (tags_text ts) h c.put_head-at.ensures)
    refl

pub put_byte-requires : goal.put_byte-requires
put_byte-requires c =
    let a = c.args in
    let ts = a.tags.now in
    let h = listing_room a.letter a.out.now ts (λ i. omega (arith, c.type_inv.tags i))
    (omega arith) c.requires in
    rest_byte_room (rest_put {more = line_feed ∷ []}
    (behind_head_lem a.letter 0 (length ts) (tags_text ts) h c.put_head-at.ensures) refl c.put_tags-at.ensures)
    refl

pub returns : goal.returns
returns c =
    let a = c.args in
    let ts = a.tags.now in
    let h = listing_room a.letter a.out.now ts (λ i. omega (arith, c.type_inv.tags i))
    (omega arith) c.requires in
    reply_last (rest_put {more = line_feed ∷ []}
    (behind_head_lem a.letter 0 (length ts) (tags_text ts) h c.put_head-at.ensures) refl c.put_tags-at.ensures)
    refl c.put_byte.ensures
