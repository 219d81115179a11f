-- Length and number stand in the sheet as they stand in a slot, so they are laid over it as one stretch.
use mathlib.Core.Path.{ap, ◌∙◌}
use Prim.Native.Nat.{◌*◌}
use Rattle.ground.specs.Laid.{laid}
use Rattle.register.specs.Register.{slot_bytes}
use Rattle.sheet_read.proofs.Slots.{number_lent}
use Rattle.sheet_read.proofs.enter_number.Goals as goal

pub returns-clause-entered : goal.returns-clause-entered
returns-clause-entered c =
    c.copy_in.ensures ∙ ap (laid c.args.reg.now (c.args.k * slot_bytes)) (number_lent c.requires c.item_size.result c.item_size.ensures.0)
