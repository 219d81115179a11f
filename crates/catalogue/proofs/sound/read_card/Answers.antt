-- What the card is refused for comes first; the row and the tag of one that passes are good, and insertion promises the rest.
use mathlib.Core.Path.{refl}
use native.Mathlib.Omega.{arith}
use Rattle.std.proofs.lemmas.Result.{err_from_is_err_and}
use Rattle.ground.specs.Tables.{tables}
use Rattle.answers.proofs.Answers.{refuses}
use Rattle.tables.proofs.Lent.{lent_sound}
use Rattle.catalogue.specs.Calls.{list_said}
use Rattle.catalogue.proofs.Answers.{row_units, row_short_lem, row_good}
use Rattle.catalogue.proofs.Cards.{read_card_refused, said_list_good, said_list_short, said_some_tag, read_card_done}
use Rattle.catalogue.proofs.sound.read_card.Goals as goal

pub read_card-requires : goal.read_card-requires
read_card-requires c =
    c.requires.ready

pub returns-in_err-kit : goal.returns-in_err-kit
returns-in_err-kit c =
    let a = c.args in
    let p = err_from_is_err_and c.from_residual.result c.from_residual.ensures.1 in
    rw (p.1, p.2) (read_card_refused a.reg.now a.nodes.now a.s.now c.requires _ c.in_err-kit.ensures.answers (refuses c.in_err-kit.field-0.0))

pub insert-requires : goal.insert-requires
insert-requires c =
    let a = c.args in
    let kit = c.in_ok-kit.ensures in
    let l = list_said a.s.now (tables a.reg.now a.nodes.now) in
    let few = said_list_short a.reg.now a.nodes.now a.s.now c.requires _ kit.answers refl in
    let good = said_list_good a.reg.now a.nodes.now a.s.now c.requires _ kit.answers refl in
    let some = said_some_tag a.reg.now a.nodes.now a.s.now c.requires _ kit.answers refl in
    record {
      fact_1 = lent_sound _ _ c.requires;
      fact_2 = row_short_lem _ l kit.rowed few;
      fact_3 = row_good _ l kit.rowed good few;
      fact_4 = omega (arith, some, kit.tagged);
    }

pub returns : goal.returns
returns c =
    let a = c.args in
    let kit = c.in_ok-kit.ensures in
    read_card_done a.reg.now a.nodes.now a.s.now c.requires _ kit.answers refl _ _ _ _
    (row_units _ (list_said a.s.now (tables a.reg.now a.nodes.now)) kit.rowed) kit.tagged c.insert.ensures
