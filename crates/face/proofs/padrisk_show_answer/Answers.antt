-- The answer of showing, as the call promises it; its value is 0.
use Rattle.demands.proofs.Values.{showing_small}
use Rattle.face.proofs.Face.{reply_small, handed_answer}
use Rattle.face.proofs.padrisk_show_answer.Goals as goal

pub hand_over-requires : goal.hand_over-requires
hand_over-requires c =
    let a = c.args in
    reply_small _ c.show_answer.ensures
    (showing_small a.place a.reg.now)

pub returns : goal.returns
returns c =
    handed_answer c.hand_over.ensures c.show_answer.ensures
