-- Missing, cut short or not passing, a line is at fault; any other ends behind its quantity.
use mathlib.Core.Path.{sym, ◌∙◌}
use native.Mathlib.Omega.{arith}
use Rattle.card_judge.proofs.Lines.{end_cut, end_bad, end_good}
use Rattle.card_judge.proofs.line_end.Goals as goal
use Rattle.card_judge.proofs.line_end.Goals.{then-s-at-2-via-then-s-at-2, then-s-at-2-via-else-s-at-2+then-not-line_passes}

pub returns-then-s-at : goal.returns-then-s-at
returns-then-s-at c =
    end_cut c.args.s.now c.args.prev c.args.units c.args.at c.requires.inside (omega (arith, c.if-s-at.true))

pub returns-then-s-at-2 : goal.returns-then-s-at-2
returns-then-s-at-2 c =
    elim c.then-s-at-2.branch [
      | then-s-at-2-via-then-s-at-2 w ↦
          end_cut c.args.s.now c.args.prev c.args.units c.args.at c.requires.inside (omega (arith, w.if-s-at-2.true, c.item_size-size.ensures.0))
      | then-s-at-2-via-else-s-at-2+then-not-line_passes w ↦
          end_bad c.args.s.now c.args.prev c.args.units c.args.at (sym w.line_passes.ensures ∙ w.if-not-line_passes.true)
    ]

pub returns : goal.returns
returns c =
    end_good c.args.s.now c.args.prev c.args.units c.args.at _ (omega (arith, c.item_size-size.ensures.0)) c.requires.inside
    (omega (arith, c.if-s-at-2.false)) (sym c.line_passes.ensures ∙ c.if-not-line_passes.false)
