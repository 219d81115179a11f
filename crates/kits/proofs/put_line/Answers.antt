-- put_line: the place fills the part behind the units
use Rattle.std.proofs.Common.{arith}
use Rattle.kits.proofs.Rows.{laid_along}
use Rattle.kits.proofs.put_line.Goals as goal

pub returns : goal.returns
returns c =
    (laid_along _ _ _ _ _ _ (omega arith) (omega arith) (c.fill.ensures.after (λ y e. e)), omega arith)
