-- The answer of finding, as the call promises it; words of 16 bits keep its value small.
use native.Mathlib.Omega.{arith}
use Rattle.demands.proofs.Values.{finding_small}
use Rattle.face.proofs.Face.{reply_small, handed_answer}
use Rattle.face.proofs.padrisk_find.Goals as goal

pub hand_over-requires : goal.hand_over-requires
hand_over-requires c =
    let a = c.args in
    reply_small _ c.find.ensures
    (finding_small a.reg.now a.nodes.now (λ i. omega (arith, c.type_inv.nodes i)) a.list.now)

pub returns : goal.returns
returns c =
    handed_answer c.hand_over.ensures c.find.ensures
