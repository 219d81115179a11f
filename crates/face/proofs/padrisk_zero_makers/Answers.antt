-- Zeroing, and the maker's table afterwards, as the call promises it; it has no value.
use Rattle.makers.specs.Calls.{beside, plan_of_maker, zero_makers}
use Rattle.face.proofs.Face.{crossed, maker_small}
use Rattle.face.proofs.padrisk_zero_makers.Goals as goal

pub hand_over-requires : goal.hand_over-requires
unfolding plan_of_maker
hand_over-requires c =
    let a = c.args in
    maker_small zero_makers (beside a.reg.now a.makers.now) c.zero_makers.ensures.answers

pub returns : goal.returns
returns c =
    crossed c.zero_makers.ensures c.hand_over.ensures
