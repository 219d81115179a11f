-- Registering, and the register afterwards, as the call promises it; a place is small.
use Rattle.demands.proofs.Values.{registering_small}
use Rattle.face.proofs.Face.{reply_small, crossed}
use Rattle.face.proofs.padrisk_register_number.Goals as goal

pub hand_over-requires : goal.hand_over-requires
hand_over-requires c =
    let a = c.args in
    reply_small _ c.register_number.ensures.answers
    (registering_small a.num.now a.reg.now)

pub returns : goal.returns
returns c =
    crossed c.register_number.ensures c.hand_over.ensures
