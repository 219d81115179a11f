-- The answer of showing a label, as the call promises it; it has no value.
use Rattle.makers.specs.Calls.{beside, plan_of_maker, show_label}
use Rattle.face.proofs.Face.{handed_answer, maker_small}
use Rattle.face.proofs.padrisk_label_answer.Goals as goal

pub hand_over-requires : goal.hand_over-requires
unfolding plan_of_maker
hand_over-requires c =
    let a = c.args in
    maker_small (show_label a.place) (beside a.reg.now a.makers.now) c.label_answer.ensures

pub returns : goal.returns
returns c =
    handed_answer c.hand_over.ensures c.label_answer.ensures
