-- The first kit containing the list, as the call promises it; words of 16 bits keep its tag small.
use native.Mathlib.Omega.{arith}
use Rattle.questions.specs.Questions.{is_containing}
use Rattle.demands.proofs.Values.{any_small}
use Rattle.face.proofs.Face.{reply_small, handed_answer}
use Rattle.face.proofs.padrisk_any_containing.Goals as goal

pub hand_over-requires : goal.hand_over-requires
hand_over-requires c =
    let a = c.args in
    reply_small _ c.any.ensures
    (any_small a.reg.now a.nodes.now (λ i. omega (arith, c.type_inv.nodes i)) is_containing a.list.now)

pub returns : goal.returns
returns c =
    handed_answer c.hand_over.ensures c.any.ensures
