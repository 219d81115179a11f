-- A child without a label is not used; of any other the parent decides.
use Rattle.nodes_check.proofs.Answers.{says_ne}
use Rattle.nodes_check.proofs.Spots.{head_free, head_says_lem}
use Rattle.nodes_check.proofs.head_under.Goals as goal

pub returns-else-label_at-ne0 : goal.returns-else-label_at-ne0
returns-else-label_at-ne0 c =
    says_ne _ 0 (λ n. absurd (n c.if-label_at-ne0.false)) (λ g e. head_free c.requires.1 c.requires.2 c.label_at.ensures e g)

pub returns-then-label_at-ne0 : goal.returns-then-label_at-ne0
returns-then-label_at-ne0 c =
    head_says_lem c.requires.1 c.requires.2 c.requires.0 c.label_at.ensures c.if-label_at-ne0.true c.parent_at.ensures.0
