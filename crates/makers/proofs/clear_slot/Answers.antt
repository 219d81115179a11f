-- The slot is lent, comes back all zeros, and the rest of the table is as it was.
use Rattle.makers.proofs.Slots.{slot_cleared}
use Rattle.makers.proofs.clear_slot.Goals as goal

pub returns : goal.returns
returns c =
    slot_cleared c.args.makers.now c.args.k c.requires _ c.clear.ensures
