-- What is told of the nodes looked at is told of all, once the root is.
use mathlib.Core.Path.{refl, sym, ◌∙◌}
use native.Mathlib.Omega.{arith}
use Rattle.index_insert.proofs.Surveying.{survey_start, survey_borne, survey_free, survey_used, root_borne, root_unborne, survey_free_nodes}
use Rattle.index_insert.proofs.survey_nodes.Goals as goal

pub loop-i-init : goal.loop-i-init
loop-i-init c = survey_start c.requires c.node_count-n.ensures

pub returns-then-tag_at-tag : goal.returns-then-tag_at-tag
returns-then-tag_at-tag c =
    survey_borne c.requires c.loop-i.invariant (omega arith) refl (sym c.tag_at.ensures ∙ c.if-tag_at-tag.true)

pub loop-i-preserved-then-label_at-eq0 : goal.loop-i-preserved-then-label_at-eq0
loop-i-preserved-then-label_at-eq0 c =
    survey_free c.requires c.loop-i.invariant (omega arith) refl
    (λ e. c.if-tag_at-tag.false (c.tag_at.ensures ∙ e)) (sym c.label_at.ensures ∙ c.if-label_at-eq0.true)

pub loop-i-preserved : goal.loop-i-preserved
loop-i-preserved c =
    survey_used c.requires c.loop-i.invariant (omega arith) refl
    (λ e. c.if-tag_at-tag.false (c.tag_at.ensures ∙ e)) (λ z. c.if-label_at-eq0.false (c.label_at.ensures ∙ z))

pub returns-then-tag_at-tag-2 : goal.returns-then-tag_at-tag-2
returns-then-tag_at-tag-2 c =
    root_borne c.requires c.loop-i.invariant (omega arith) (sym c.tag_at-2.ensures ∙ c.if-tag_at-tag-2.true)

pub returns : goal.returns
returns c = (
  root_unborne c.requires c.loop-i.invariant (omega arith) (λ e. c.if-tag_at-tag-2.false (c.tag_at-2.ensures ∙ e)),
  survey_free_nodes c.requires c.loop-i.invariant (omega arith),
)
