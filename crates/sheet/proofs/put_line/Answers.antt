-- The quantity stands behind the bytes of its place.
use Rattle.ground.proofs.Put.{put_one, put_put}
use Rattle.sheet.proofs.put_line.Goals as goal

pub returns : goal.returns
returns c = put_put c.put_place-at.ensures (put_one _ _ c.args.quantity)
