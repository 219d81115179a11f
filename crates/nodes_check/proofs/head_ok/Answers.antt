-- No child, one beyond the table, or one that is looked at.
use native.Mathlib.Omega.{arith}
use Rattle.nodes_check.proofs.Answers.{says_eq, says_lt}
use Rattle.nodes_check.proofs.Spots.{head_none, head_out}
use Rattle.nodes_check.proofs.head_ok.Goals as goal

pub returns-then-c-eq0 : goal.returns-then-c-eq0
returns-then-c-eq0 c = says_eq _ 0 (λ e. head_none c.child_at-c.ensures.0 e) (λ _. c.if-c-eq0.true)

pub returns-else-c-node_count : goal.returns-else-c-node_count
returns-else-c-node_count c =
    says_lt _ _ (λ h. absurd (omega arith)) (λ g. absurd (head_out c.child_at-c.ensures.0 c.if-c-eq0.false (omega arith) g))
