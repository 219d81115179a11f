-- Writing, and the output afterwards, as the call promises them; no sheet of sound tables is long.
use native.Mathlib.Omega.{arith}
use Rattle.demands.proofs.Values.{writing_small}
use Rattle.face.proofs.Face.{reply_small, crossed}
use Rattle.face.proofs.padrisk_write_sheet.Goals as goal

pub hand_over-requires : goal.hand_over-requires
hand_over-requires c =
    let a = c.args in
    reply_small _ c.write_sheet.ensures.answers
    (writing_small a.reg.now a.nodes.now (λ i. omega (arith, c.type_inv.nodes i)) a.out.now)

pub returns : goal.returns
returns c =
    crossed c.write_sheet.ensures c.hand_over.ensures
