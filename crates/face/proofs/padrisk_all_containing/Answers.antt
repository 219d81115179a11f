-- The kits containing the list, and the output afterwards, as the call promises them; no table has many.
use native.Mathlib.Omega.{arith}
use Rattle.questions.specs.Questions.{is_containing}
use Rattle.demands.proofs.Values.{all_small}
use Rattle.face.proofs.Face.{reply_small, crossed}
use Rattle.face.proofs.padrisk_all_containing.Goals as goal

pub hand_over-requires : goal.hand_over-requires
hand_over-requires c =
    let a = c.args in
    reply_small _ c.all.ensures.answers
    (all_small a.reg.now a.nodes.now (λ i. omega (arith, c.type_inv.nodes i)) is_containing a.list.now a.out.now)

pub returns : goal.returns
returns c =
    crossed c.all.ensures c.hand_over.ensures
