-- The answer is taken apart as any other; the bookmark's row and length are set down as they are, its first number by what stood there.
use mathlib.Core.Path.{ap}
use Rattle.face.specs.Face.{lent_mark}
use Rattle.face.proofs.hand_page.Goals as goal

pub returns : goal.returns
returns c =
    let row = c.args.page.mark.row in
    record {
      fact_1 = c.hand_over.ensures;
      fact_2 = ap (λ n. lent_mark n row.len row.places) c.begun_as.ensures;
    }
