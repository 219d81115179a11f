-- Writing a card, and the output afterwards, as the call promises them; no card is long.
use native.Mathlib.Omega.{arith}
use Rattle.demands.proofs.Values.{writing_card_small}
use Rattle.face.proofs.Face.{reply_small, crossed}
use Rattle.face.proofs.padrisk_write_card.Goals as goal

pub hand_over-requires : goal.hand_over-requires
hand_over-requires c =
    let a = c.args in
    reply_small _ c.write_card.ensures.answers
    (writing_card_small a.reg.now a.nodes.now (λ i. omega (arith, c.type_inv.nodes i)) a.list.now a.out.now)

pub returns : goal.returns
returns c =
    crossed c.write_card.ensures c.hand_over.ensures
