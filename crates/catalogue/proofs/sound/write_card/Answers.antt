-- What finding refuses is refused; a list that is found is good and has few units, and room alone can refuse its card.
use mathlib.Core.Path.{refl}
use native.Mathlib.Omega.{arith}
use Rattle.ground.specs.Tables.{tables}
use Rattle.answers.proofs.Answers.{refuses, handed_reply}
use Rattle.catalogue.proofs.Kept.{Found, found_short, found_small}
use Rattle.catalogue.proofs.Cards.{write_card_refused, list_found, write_card_done}
use Rattle.catalogue.proofs.sound.write_card.Goals as goal
use Rattle.catalogue.proofs.sound.write_card.Goals.{In_ok-tag}

pub find-requires : goal.find-requires
find-requires c = c.requires

pub returns-in_err-tag : goal.returns-in_err-tag
returns-in_err-tag c =
    let a = c.args in
    rw (handed_reply _ _ c.from_residual.ensures.1)
    (write_card_refused a.reg.now a.nodes.now a.list.now a.out.now _ c.in_err-tag.ensures (refuses c.in_err-tag.field-0.0))

-- the list is found with the tag that finding answers
is_found : (c : In_ok-tag) → Found c.args.list.now (tables c.args.reg.now c.args.nodes.now) c.in_ok-tag.field-0
is_found c =
    let a = c.args in
    list_found a.reg.now a.nodes.now a.list.now a.out.now _ c.in_ok-tag.ensures refl _ refl

pub overflow_cast-tag : goal.overflow_cast-tag
overflow_cast-tag c =
    omega (arith, found_small c.requires (is_found (goal.at.overflow_cast-tag c).In_ok-tag) (λ i. omega (arith, c.type_inv.nodes i)))

pub write_card-requires : goal.write_card-requires
write_card-requires c =
    let f = is_found (goal.at.write_card-requires c).In_ok-tag in
    record {
      fact_1 = c.requires.ready;
      fact_2 = f.good;
      fact_3 = found_short c.requires f;
    }

pub returns : goal.returns
returns c =
    let a = c.args in
    write_card_done a.reg.now a.nodes.now a.list.now a.out.now _ c.in_ok-tag.ensures refl _ refl _ _ c.write_card.ensures
