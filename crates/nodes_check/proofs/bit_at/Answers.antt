-- Shifted down and cut to one bit.
use Rattle.nodes_check.proofs.Bits.{bit_read}
use Rattle.nodes_check.proofs.bit_at.Goals as goal

pub returns : goal.returns
returns c = bit_read _ _
