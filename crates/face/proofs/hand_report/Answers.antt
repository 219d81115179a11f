-- Each number of the report is no other in 32 bits.
use mathlib.Core.Path.{refl}
use Rattle.face.proofs.hand_report.Goals as goal

pub returns : goal.returns
returns c =
    record {
      fact_1 = c.reply_of.ensures.number;
      fact_2 = refl;
    }
