-- 0 is set to a Bool as a number; any other number stays.
use borrow.Author.Tests.{eq-eqb, ne_eqb}
use Rattle.face.proofs.Face.{bool_number}
use Rattle.face.proofs.begun_as.Goals as goal

pub returns-then-begun-eq0 : goal.returns-then-begun-eq0
returns-then-begun-eq0 c =
    simp (eq-eqb _ _ c.if-begun-eq0.true) (bool_number c.args.goes)

pub returns : goal.returns
returns c = simp (ne_eqb _ _ c.if-begun-eq0.false)
