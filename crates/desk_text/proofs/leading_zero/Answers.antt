-- A field of one byte is all of it, even as 0; of a longer one the first byte decides.
use borrow.Author.Tests.{eq-eqb, ne_eqb}
use Rattle.desk_text.specs.Amounts.{leading_zero}
use Rattle.desk_text.proofs.leading_zero.Goals as goal

pub returns-then-f-eq1 : goal.returns-then-f-eq1
unfolding leading_zero
returns-then-f-eq1 c = rw (eq-eqb _ 1 c.if-f-eq1.true)

pub returns : goal.returns
unfolding leading_zero
returns c = rw (ne_eqb _ 1 c.if-f-eq1.false)
