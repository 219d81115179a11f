-- Two bytes, one behind the other.
use native.Mathlib.Omega.{arith}
use Rattle.ground.proofs.Put.{put_put}
use Rattle.desk_replies.proofs.put_other.Goals as goal

pub returns : goal.returns
returns c =
    let p = put_put c.put_byte-at.ensures c.put_byte.ensures in
    record { put = p; whole = omega (arith, p.behind, c.requires) }
