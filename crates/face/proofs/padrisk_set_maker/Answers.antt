-- Setting, and the maker's table afterwards, as the call promises it; it has no value.
use Rattle.makers.specs.Calls.{beside, plan_of_maker, set_maker}
use Rattle.face.proofs.Face.{crossed, maker_small}
use Rattle.face.proofs.padrisk_set_maker.Goals as goal

pub hand_over-requires : goal.hand_over-requires
unfolding plan_of_maker
hand_over-requires c =
    let a = c.args in
    maker_small (set_maker a.place a.num.now) (beside a.reg.now a.makers.now) c.set_maker.ensures.answers

pub returns : goal.returns
returns c =
    crossed c.set_maker.ensures c.hand_over.ensures
