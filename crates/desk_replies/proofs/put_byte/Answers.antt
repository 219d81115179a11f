-- One byte set is one byte laid, and the position behind it is the next.
use Rattle.ground.proofs.Put.{put_one}
use Rattle.desk_replies.proofs.put_byte.Goals as goal

pub returns : goal.returns
returns c = put_one c.args.out.now c.args.at c.args.b
