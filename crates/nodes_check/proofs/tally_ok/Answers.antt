-- One for its own tag and what its chain says, against its word.
use mathlib.Core.Path.{◌∙◌}
use mathlib.Core.Bool.{not}
use native.Mathlib.Omega.{arith}
use lib.Dec.{eqb}
use Rattle.nodes_check.proofs.Chains.{byte_small, tally_told}
use Rattle.nodes_check.proofs.tally_ok.Goals as goal

pub overflow_add-result : goal.overflow_add-result
overflow_add-result c =
    omega (arith, c.from-own.ensures, byte_small (not (eqb c.tag_at.result 0)), c.requires.bounded)

pub returns : goal.returns
returns c =
    rw c.from-own.ensures (tally_told _ _ c.tag_at.ensures (c.from.ensures ∙ c.tally_at.ensures) c.requires.chain)
