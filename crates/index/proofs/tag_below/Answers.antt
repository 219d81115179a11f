-- A deepest node less deep than the row leaves no node for it; one as deep is the only node of the row.
use mathlib.Core.Path.{sym, ◌∙◌}
use native.Mathlib.Omega.{arith}
use Rattle.index.proofs.Tags.{tag_missing, tag_found}
use Rattle.index.proofs.tag_below.Goals as goal

pub returns-then-depth_at-row : goal.returns-then-depth_at-row
returns-then-depth_at-row c =
    sym (tag_missing c.requires.sound.shape c.requires.deepest (omega (arith, c.depth_at.ensures.0)))

pub returns-then-tag-eq0 : goal.returns-then-tag-eq0
returns-then-tag-eq0 c =
    sym (tag_found c.requires.sound.shape c.requires.deepest (omega (arith, c.depth_at.ensures.0)))
    ∙ sym c.tag_at-tag.ensures ∙ c.if-tag-eq0.true

pub returns : goal.returns
returns c = (
  c.tag_at-tag.ensures ∙ tag_found c.requires.sound.shape c.requires.deepest (omega (arith, c.depth_at.ensures.0)),
  omega (arith, c.if-tag-eq0.false),
)
