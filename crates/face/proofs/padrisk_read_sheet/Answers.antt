-- Reading, and both tables afterwards, as the call promises them; a sheet of bytes keeps its value small.
use native.Mathlib.Omega.{arith}
use Rattle.ground.specs.Tables.{tables}
use Rattle.demands.proofs.Values.{reading_small}
use Rattle.face.proofs.Face.{reply_small, crossed}
use Rattle.face.proofs.padrisk_read_sheet.Goals as goal

pub hand_over-requires : goal.hand_over-requires
hand_over-requires c =
    let a = c.args in
    reply_small _ c.read_sheet.ensures.answers
    (reading_small a.sheet.now (tables a.reg.now a.nodes.now) (λ i. omega (arith, c.type_inv.sheet i)))

pub returns : goal.returns
returns c =
    crossed c.read_sheet.ensures c.hand_over.ensures
