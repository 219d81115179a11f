-- With room for all kits they are set down at once; otherwise counted where nothing is lent, and then
-- refused or set down.
use mathlib.Core.Path.{refl}
use native.Mathlib.Omega.{arith}
use Rattle.nodes.specs.Nodes.{tag}
use Rattle.questions.proofs.Found.{no_more_than_kits}
use Rattle.questions.proofs.Answered.{none_lent}
use Rattle.shortfalls.specs.Inner.{almost}
use Rattle.shortfalls.proofs.Answered.{tags_are, shorts_are, all_refused, all_done}
use Rattle.shortfalls.proofs.all_almost.Goals as goal

pub returns-then-kit_count-room : goal.returns-then-kit_count-room
returns-then-kit_count-room c =
    let a = c.args in
    let S = c.requires.fact_1.shape in
    let ts = tags_are a.d a.bin.now S c.requires.fact_2.0 c.set_quantities.ensures in
    let ss = shorts_are a.d a.bin.now S c.requires.fact_2.0 c.set_quantities.ensures in
    all_done ts ss a.tags.now a.shorts.now c.min-room.ensures c.set_almost.ensures refl refl
    (omega (
      arith,
      no_more_than_kits S (almost c.set_quantities.new.amounts a.d) (tag a.nodes.now) c.set_almost.ensures.one
          c.kit_count.ensures,
      c.if-kit_count-room.true,
    )) c.set_almost.ensures

pub returns-then-room-need : goal.returns-then-room-need
returns-then-room-need c =
    let a = c.args in
    let S = c.requires.fact_1.shape in
    let ts = tags_are a.d a.bin.now S c.requires.fact_2.0 c.set_quantities.ensures in
    let ss = shorts_are a.d a.bin.now S c.requires.fact_2.0 c.set_quantities.ensures in
    all_refused ts ss a.tags.now a.shorts.now c.min-room.ensures c.set_almost-need.ensures
    (none_lent c.set_almost-need.ensures.one) (none_lent c.set_almost-need.ensures.two)
    c.if-room-need.true

pub returns : goal.returns
returns c =
    let a = c.args in
    let S = c.requires.fact_1.shape in
    let ts = tags_are a.d a.bin.now S c.requires.fact_2.0 c.set_quantities.ensures in
    let ss = shorts_are a.d a.bin.now S c.requires.fact_2.0 c.set_quantities.ensures in
    all_done ts ss a.tags.now a.shorts.now c.min-room.ensures c.set_almost-need.ensures
    (none_lent c.set_almost-need.ensures.one) (none_lent c.set_almost-need.ensures.two)
    c.if-room-need.false c.set_almost-2.ensures
