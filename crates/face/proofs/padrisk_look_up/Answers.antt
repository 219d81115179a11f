-- The answer of looking up, as the call promises it; a place is small.
use Rattle.demands.proofs.Values.{looking_small}
use Rattle.face.proofs.Face.{reply_small, handed_answer}
use Rattle.face.proofs.padrisk_look_up.Goals as goal

pub hand_over-requires : goal.hand_over-requires
hand_over-requires c =
    let a = c.args in
    reply_small _ c.look_up.ensures
    (looking_small a.num.now a.reg.now)

pub returns : goal.returns
returns c =
    handed_answer c.hand_over.ensures c.look_up.ensures
