-- The bit by itself, laid over the word.
use Rattle.nodes_check.proofs.Bits.{bit_written}
use Rattle.nodes_check.proofs.bit_put.Goals as goal

pub returns : goal.returns
returns c = bit_written _ _ c.requires
