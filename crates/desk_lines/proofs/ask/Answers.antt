-- `b` and `s` change the places alone, and what they set down lies inside; every other letter has its call.
use native.Mathlib.Omega.{arith}
use Rattle.ground.specs.Tables.{tables}
use Rattle.answers.specs.Answers.{reply}
use Rattle.questions.specs.Questions.{is_within, is_containing}
use mathlib.Core.Path.{ap}
use Rattle.desk_text.specs.Letters.{byte_of}
use Rattle.desk_text.specs.declared.Letter.TheVariants as v
use Rattle.desk_text.proofs.Letters.{byte_apart}
use Rattle.desk_lines.proofs.Answering.{listed_inside}
use Rattle.desk_lines.proofs.Outputs.{asked_all_within, asked_all_containing, asked_call}
use Rattle.desk_lines.proofs.ask.Goals as goal

pub put_listed-requires : goal.put_listed-requires
put_listed-requires c =
    let a = c.args in
    record {
      room = omega (arith, c.all-within.auto.out);
      inside = listed_inside is_within a.list.now
          (tables a.reg.now a.nodes.now) a.places.now _ _ c.all-within.ensures;
    }

pub returns-in-AllWithin : goal.returns-in-AllWithin
returns-in-AllWithin c =
    let a = c.args in
    let it = asked_all_within (byte_of a.letter) a.tag a.places.now (tables a.reg.now a.nodes.now) a.list.now
    (reply c.all-within.result) _ c.put_listed.ensures (ap byte_of c.in-AllWithin.is) c.all-within.ensures in
    record { answers = it.0; places = it.1 }

pub put_listed-requires-in-AllContaining : goal.put_listed-requires-in-AllContaining
put_listed-requires-in-AllContaining c =
    let a = c.args in
    record {
      room = omega (arith, c.all-containing.auto.out);
      inside = listed_inside is_containing a.list.now
          (tables a.reg.now a.nodes.now) a.places.now _ _ c.all-containing.ensures;
    }

pub returns-in-AllContaining : goal.returns-in-AllContaining
returns-in-AllContaining c =
    let a = c.args in
    let it = asked_all_containing (byte_of a.letter) a.tag a.places.now (tables a.reg.now a.nodes.now) a.list.now
    (reply c.all-containing.result) _
    c.put_listed-in-AllContaining.ensures (ap byte_of c.in-AllContaining.is) c.all-containing.ensures in
    record { answers = it.0; places = it.1 }

pub returns-in_default : goal.returns-in_default
returns-in_default c =
    let a = c.args in
    let n = c.in_default in
    let it = asked_call (byte_of a.letter) a.tag a.places.now (tables a.reg.now a.nodes.now) a.list.now
    (reply c.call-a.result) _
    (byte_apart a.letter v.AllWithin n.not-AllWithin) (byte_apart a.letter v.AllContaining n.not-AllContaining) c.call-a.ensures c.put_answer.ensures in
    record { answers = it.0; places = it.1 }
