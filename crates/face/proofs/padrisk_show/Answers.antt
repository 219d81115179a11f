-- The stretch lies within the register, so it has as many bytes as it is promised.
use Rattle.face.proofs.Face.{stretch_long}
use Rattle.face.proofs.padrisk_show.Goals as goal

pub returns : goal.returns
returns c =
    record {
      fact_1 = c.stretch_from.ensures;
      fact_2 = stretch_long c.args.place c.args.reg.now _ c.show_stretch.ensures.holds;
    }
