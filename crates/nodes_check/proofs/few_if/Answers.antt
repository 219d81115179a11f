-- A free node asks nothing, nor does one whose first child has its label; of any other the climb answers.
use Rattle.nodes_check.proofs.Paths.{child_inside, last_free, last_goes_on, last_says}
use Rattle.nodes_check.proofs.few_if.Goals as goal

pub returns-then-l-eq0 : goal.returns-then-l-eq0
returns-then-l-eq0 c = last_free c.label_at-l.ensures c.if-l-eq0.true

pub label_at-requires : goal.label_at-requires
label_at-requires c =
    child_inside c.label_at-l.ensures c.child_at.ensures.0 c.requires.links c.requires.node

pub returns-then-label_at-l : goal.returns-then-label_at-l
returns-then-label_at-l c =
    last_goes_on c.label_at-l.ensures c.child_at.ensures.0 c.label_at.ensures
    c.if-label_at-l.true

pub returns : goal.returns
returns c =
    last_says
    c.label_at-l.ensures
    c.child_at.ensures.0
    c.label_at.ensures
    c.if-l-eq0.false
    c.if-label_at-l.false
    c.few_ok.ensures
