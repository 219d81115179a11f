-- A step on the bookmark that is lent, as the call promises it on the bookmark by value; a tag is small.
use native.Mathlib.Omega.{arith}
use Rattle.ground.specs.Tables.{tables}
use Rattle.catalogue.specs.Calls.{turning}
use Rattle.demands.proofs.Values.{turning_small}
use Rattle.face.specs.Face.{lent_mark}
use Rattle.face.proofs.Face.{reply_small, crossed_mark}
use Rattle.face.proofs.turn.Goals as goal

pub hand_page-requires : goal.hand_page-requires
hand_page-requires g c =
    let a = c.args in
    reply_small _ c.next_page-page.ensures.answers
    (turning_small a.reg.now a.nodes.now (λ i. omega (arith, c.type_inv.nodes i)) g.Q.Question.asks a.list.now
    c.mark_of-mark.result)

pub returns : goal.returns
returns g c =
    let a = c.args in
    crossed_mark (turning g.Q.Question.asks a.list.now (tables a.reg.now a.nodes.now)) (lent_mark a.begun.now a.len.now a.places.now) _ _ _
    c.mark_of-mark.ensures c.hand_page.ensures.fact_2
    c.next_page-page.ensures c.hand_page.ensures.fact_1
