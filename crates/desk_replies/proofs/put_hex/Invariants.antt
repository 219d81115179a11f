use lib.ListN.{drop}
use Rattle.desk_replies.specs.Replies.{hex_of}
use Rattle.ground.proofs.Put.{Rest}
use Rattle.desk_replies.proofs.put_hex.Given as goal

abbrev pub invariant-loop-b : goal.invariant-loop-b
invariant-loop-b l = Rest l.initial.out l.from (hex_of l.bytes) l.out l.at (hex_of (drop l.b-index l.bytes))
