-- Each test decides its case of the paper's list, once those before it are passed.
use Rattle.std.proofs.Common.{◌∙◌, ap, arith}
use Rattle.ground.specs.Calls.{refused}
use Rattle.kits.proofs.Lists.{line_falls, line_beyond, line_none, line_over, line_good}
use Rattle.kits.proofs.check_line.Goals as goal
use Rattle.kits.proofs.check_line.Goals.{then-quantity-eq0-via-then-quantity-eq0, then-quantity-eq0-via-else-quantity-eq0+then-quantity-gt-MOST_QUANTITY}

pub returns-then-place-prev : goal.returns-then-place-prev
returns-then-place-prev c = ap (refused 4) c.line_value-value.ensures ∙ line_falls _ _ _ _ _ c.if-place-prev.true

pub returns-then-parts-place : goal.returns-then-parts-place
returns-then-parts-place c =
    ap (refused 5) c.line_value-value.ensures ∙ line_beyond _ _ _ _ _ c.if-place-prev.false c.if-parts-place.true

pub returns-then-quantity-eq0 : goal.returns-then-quantity-eq0
returns-then-quantity-eq0 c =
    ap (refused 6) c.line_value-value.ensures
    ∙ elim c.then-quantity-eq0.branch [
      | then-quantity-eq0-via-then-quantity-eq0 w ↦
          line_none _ _ _ _ _ c.if-place-prev.false c.if-parts-place.false w.if-quantity-eq0.true
      | then-quantity-eq0-via-else-quantity-eq0+then-quantity-gt-MOST_QUANTITY w ↦
          line_over _ _ _ _ _ c.if-place-prev.false c.if-parts-place.false w.if-quantity-gt-MOST_QUANTITY.true
    ]

pub returns : goal.returns
returns c =
    line_good _ _ _ _ _ c.if-place-prev.false c.if-parts-place.false (omega arith) c.if-quantity-gt-MOST_QUANTITY.false
