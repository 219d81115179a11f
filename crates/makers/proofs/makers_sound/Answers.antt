-- The slots of the parts are zero or good, and all bytes behind them are zero: nothing else has to be looked at.
use mathlib.Core.Path.{sym, ◌∙◌}
use borrow.Author.Rules.{part_to_end}
use Rattle.makers.proofs.Slots.{first_bad, rest_decides}
use Rattle.makers.proofs.makers_sound.Goals as goal

pub returns-then-first_good : goal.returns-then-first_good
returns-then-first_good c =
    rw part_to_end at c.zeros.ensures
    ∙ rest_decides c.args.makers.now c.args.parts c.requires.sized c.requires.within (sym c.if-first_good.ensures)

pub returns-else-first_good : goal.returns-else-first_good
returns-else-first_good c =
    c.if-first_good.false
    ∙ sym (first_bad c.args.makers.now c.args.parts c.requires.sized c.requires.within (sym c.if-first_good.ensures))
