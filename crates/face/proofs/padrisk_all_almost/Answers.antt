-- The kits almost filled, and both outputs afterwards, as the call promises them; no table has many.
use native.Mathlib.Omega.{arith}
use Rattle.ground.specs.Calls.{both}
use Rattle.demands.proofs.Values.{almost_small}
use Rattle.face.proofs.Face.{reply_small, crossed}
use Rattle.face.proofs.padrisk_all_almost.Goals as goal

pub hand_over-requires : goal.hand_over-requires
hand_over-requires c =
    let a = c.args in
    reply_small _ c.all_almost.ensures.answers
    (almost_small a.reg.now a.nodes.now (λ i. omega (arith, c.type_inv.nodes i)) a.d a.bin.now
    (both a.tags.now a.shorts.now))

pub returns : goal.returns
returns c =
    crossed c.all_almost.ensures c.hand_over.ensures
