-- A parent beyond the table is no parent; below any other it is looked at.
use native.Mathlib.Omega.{arith}
use Rattle.nodes_check.proofs.Answers.{says_lt}
use Rattle.nodes_check.proofs.Spots.{ok_says}
use Rattle.nodes_check.proofs.node_ok.Goals as goal

pub returns-else-q-node_count : goal.returns-else-q-node_count
returns-else-q-node_count c = says_lt _ _ (λ h. absurd (omega arith)) (λ g. omega (arith, g.above))

pub returns-then-q-node_count : goal.returns-then-q-node_count
returns-then-q-node_count c = ok_says c.parent_at-q.ensures.0 (omega arith) c.under_ok.ensures
