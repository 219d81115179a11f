-- No sibling, one beyond the table, or one that is looked at.
use native.Mathlib.Omega.{arith}
use Rattle.nodes_check.proofs.Answers.{says_eq, says_lt}
use Rattle.nodes_check.proofs.Spots.{sib_none, sib_out}
use Rattle.nodes_check.proofs.sib_ok.Goals as goal

pub returns-then-s-eq0 : goal.returns-then-s-eq0
returns-then-s-eq0 c = says_eq _ 0 (λ e. sib_none c.next_at-s.ensures.0 e) (λ _. c.if-s-eq0.true)

pub returns-else-s-node_count : goal.returns-else-s-node_count
returns-else-s-node_count c =
    says_lt _ _ (λ h. absurd (omega arith)) (λ g. absurd (sib_out c.next_at-s.ensures.0 c.if-s-eq0.false (omega arith) g))
