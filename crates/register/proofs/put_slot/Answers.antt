-- The slot was all zero, so behind the length byte and the number its zeros stand already.
use mathlib.Core.Path.{◌∙◌}
use Rattle.register.proofs.Entered.{slot_written}
use Rattle.register.proofs.put_slot.Goals as goal

pub returns : goal.returns
returns c =
    c.copy_in.ensures ∙ slot_written c.args.reg.now c.args.num.now c.args.k c.requires.there c.requires.fits c.requires.zero
