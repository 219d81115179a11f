-- Sound tables are ready to be written; room alone can refuse.
use mathlib.Core.Path.{refl, sym}
use Rattle.ground.specs.Calls.{done}
use Rattle.tables.proofs.Lent.{lent_sound, sound_passes}
use Rattle.catalogue.proofs.Answers.{write_done}
use Rattle.catalogue.proofs.sound.write_sheet.Goals as goal

pub write_sheet-requires : goal.write_sheet-requires
write_sheet-requires c =
    record {
      fact_1 = c.requires.ready;
      fact_2 = lent_sound _ _ c.requires;
    }

pub returns : goal.returns
returns c =
    let a = c.args in
    write_done a.reg.now a.nodes.now a.out.now _ (done 0) _ (sym (sound_passes _ _ c.requires)) refl
    c.write_sheet.ensures
