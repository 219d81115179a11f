-- One with another parent is no sibling; of any other the label decides.
use Rattle.nodes_check.proofs.Answers.{says_eq}
use Rattle.nodes_check.proofs.Spots.{sib_other, sib_says}
use Rattle.nodes_check.proofs.sib_under.Goals as goal

pub returns-else-parent_at : goal.returns-else-parent_at
returns-else-parent_at c =
    says_eq _ _ (λ e. absurd (c.if-parent_at.false e))
    (λ g. absurd (sib_other c.requires.2 c.requires.3 c.parent_at.ensures.0 c.parent_at-2.ensures.0 c.if-parent_at.false g))

pub returns-then-parent_at : goal.returns-then-parent_at
returns-then-parent_at c =
    sib_says c.requires.2 c.requires.3 c.requires.0 c.parent_at.ensures.0
    c.parent_at-2.ensures.0 c.if-parent_at.true c.label_at.ensures c.label_at-then-parent_at.ensures
