-- The root, a free node and a used one, each by its own law.
use mathlib.Core.Bool.{not}
use mathlib.Core.Path.{ap}
use mathlib.Core.Path.{◌∙◌}
use Rattle.ground.specs.Inner.{holds, fails}
use Rattle.nodes_check.proofs.Answers.{refutes, shows}
use Rattle.nodes_check.proofs.Spots.{spot_root, spot_free, spot_ok, spot_sib, spot_used, spot_says}
use Rattle.nodes_check.proofs.spot_ok.Goals as goal

pub returns-then-not-head_ok : goal.returns-then-not-head_ok
returns-then-not-head_ok c = fails (λ s. refutes c.head_ok.ensures (ap not c.if-not-head_ok.true) s.head)

pub returns-then-i-eq0 : goal.returns-then-i-eq0
returns-then-i-eq0 c = holds (spot_root (shows c.head_ok.ensures (ap not c.if-not-head_ok.false)) c.if-i-eq0.true)

pub returns-then-label_at-eq0 : goal.returns-then-label_at-eq0
returns-then-label_at-eq0 c =
    spot_free c.if-i-eq0.false c.label_at.ensures (shows c.head_ok.ensures (ap not c.if-not-head_ok.false))
    c.if-label_at-eq0.true c.free_at.ensures

pub returns-then-not-node_ok : goal.returns-then-not-node_ok
returns-then-not-node_ok c =
    fails (λ s. refutes c.node_ok.ensures (ap not c.if-not-node_ok.true)
    (spot_ok c.if-i-eq0.false c.label_at.ensures c.if-label_at-eq0.false s))

pub returns-then-not-sib_ok : goal.returns-then-not-sib_ok
returns-then-not-sib_ok c =
    fails (λ s. refutes c.sib_ok.ensures (ap not c.if-not-sib_ok.true)
    (spot_sib c.if-i-eq0.false c.label_at.ensures c.if-label_at-eq0.false s))

pub returns-then-child_at-ne0 : goal.returns-then-child_at-ne0
returns-then-child_at-ne0 c =
    holds (spot_used c.if-i-eq0.false c.label_at.ensures c.if-label_at-eq0.false
    (shows c.head_ok.ensures (ap not c.if-not-head_ok.false))
    (shows c.node_ok.ensures (ap not c.if-not-node_ok.false))
    (shows c.sib_ok.ensures (ap not c.if-not-sib_ok.false))
    (λ z. absurd (c.if-child_at-ne0.true (c.child_at.ensures.0 ∙ z))))

pub returns : goal.returns
returns c =
    spot_says c.if-i-eq0.false c.label_at.ensures c.if-label_at-eq0.false
    (shows c.head_ok.ensures (ap not c.if-not-head_ok.false))
    (shows c.node_ok.ensures (ap not c.if-not-node_ok.false))
    (shows c.sib_ok.ensures (ap not c.if-not-sib_ok.false))
    c.child_at.ensures.0 c.if-child_at-ne0.false c.tag_at.ensures
