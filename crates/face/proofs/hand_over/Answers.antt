-- The number and the value are those that the answer means in the paper; a value below 2^32 is no other in 32 bits.
use Rattle.face.proofs.hand_over.Goals as goal

pub returns : goal.returns
returns c =
    record { number_is = c.reply_of-told.ensures.number; value_is = c.reply_of-told.ensures.value }
