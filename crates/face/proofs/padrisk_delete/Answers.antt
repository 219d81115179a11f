-- Deletion, and the nodes afterwards, as the call promises them; words of 16 bits keep its value small.
use native.Mathlib.Omega.{arith}
use Rattle.demands.proofs.Values.{deleting_small}
use Rattle.face.proofs.Face.{reply_small, crossed}
use Rattle.face.proofs.padrisk_delete.Goals as goal

pub hand_over-requires : goal.hand_over-requires
hand_over-requires c =
    let a = c.args in
    reply_small _ c.delete.ensures.answers
    (deleting_small a.reg.now a.nodes.now (λ i. omega (arith, c.slice_known-1.given i)) a.list.now)

pub returns : goal.returns
returns c =
    crossed c.delete.ensures c.hand_over.ensures
