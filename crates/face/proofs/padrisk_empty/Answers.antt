-- Emptying, and both tables afterwards, as the call promises them; its value is small.
use native.Mathlib.Omega.{arith}
use Rattle.demands.proofs.Values.{emptying_small}
use Rattle.face.proofs.Face.{reply_small, crossed}
use Rattle.face.proofs.padrisk_empty.Goals as goal

pub hand_over-requires : goal.hand_over-requires
hand_over-requires c =
    let a = c.args in
    reply_small _ c.empty.ensures.answers
    (emptying_small a.reg.now a.nodes.now (λ i. omega (arith, c.slice_known-2-1.given i)))

pub returns : goal.returns
returns c =
    crossed c.empty.ensures c.hand_over.ensures
