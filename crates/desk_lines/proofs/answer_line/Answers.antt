-- A line taken apart has just the fields that its letter wants.
use mathlib.Core.Path.{ap, subst}
use native.Mathlib.Omega.{arith}
use Rattle.ground.specs.Tables.{tables}
use Rattle.desk_text.specs.Inner.{StandsFrom, ParsedAs}
use Rattle.desk_text.specs.Lines.{parsed}
use Rattle.desk_text.specs.Letters.{byte_of}
use Rattle.desk_text.specs.declared.Letter.TheVariants as v
use Rattle.desk_text.proofs.Letters.{byte_apart}
use Rattle.desk_lines.proofs.Good.{one_number, list_pairs}
use Rattle.desk_lines.proofs.Outputs.{other_served, register_served, write_served, ask_served}
use Rattle.desk_lines.proofs.answer_line.Goals as goal
use Rattle.desk_lines.proofs.answer_line.Goals.{In-Some}

-- the letter, the tag and the position that the line was taken apart into
taken_apart : (c : In-Some) →
    StandsFrom c.args.line.now (parsed c.args.line.now) (byte_of c.in-Some.field-0.letter) c.in-Some.field-0.tag c.in-Some.field-0.from
taken_apart c =
    subst (ParsedAs c.args.line.now (parsed c.args.line.now)) c.in-Some.is c.parse.ensures

pub returns-in_default : goal.returns-in_default
returns-in_default c =
    let a = c.args in
    let e = subst (ParsedAs a.line.now (parsed a.line.now)) c.in_default.is c.parse.ensures in
    let it = other_served _ a.places.now a.sheet.now (tables a.reg.now a.nodes.now) e c.put_other.ensures in
    record { answers = it.0; outputs = it.1 }

pub register_line-requires : goal.register_line-requires
register_line-requires c =
    record {
      one_number = one_number _ _ _ _ (taken_apart (goal.at.register_line-requires c).In-Some) (ap byte_of c.in-Registers.is);
      ready = c.requires.sound.ready;
      room = omega (arith, c.requires.room.written);
    }

pub returns-in-Registers : goal.returns-in-Registers
returns-in-Registers c =
    let a = c.args in
    let it = register_served _ a.places.now a.sheet.now (tables a.reg.now a.nodes.now) _ _ _ (taken_apart (goal.at.returns-in-Registers c).In-Some).is _
    (ap byte_of c.in-Registers.is) c.register_line.ensures in
    record { answers = it.0; outputs = it.1 }

pub returns-in-Writes : goal.returns-in-Writes
returns-in-Writes c =
    let a = c.args in
    let it = write_served _ a.places.now a.sheet.now (tables a.reg.now a.nodes.now) _ _ _ (taken_apart (goal.at.returns-in-Writes c).In-Some).is
    _ (ap byte_of c.in-Writes.is) c.write_line.ensures.says c.write_line.ensures.sheet in
    record { answers = it.0; outputs = it.1 }

pub ask_line-requires : goal.ask_line-requires
ask_line-requires c =
    record {
      pairs = list_pairs _ _ _ _ (taken_apart (goal.at.ask_line-requires c).In-Some) (byte_apart _ v.Registers c.in_default-letter.not-Registers);
      sound = c.requires.sound;
      room = c.requires.room.listing;
    }

pub returns-in_default-letter : goal.returns-in_default-letter
returns-in_default-letter c =
    let a = c.args in
    let n = c.in_default-letter in
    let it = ask_served _ a.places.now a.sheet.now (tables a.reg.now a.nodes.now) _ _ _ (taken_apart (goal.at.returns-in_default-letter c).In-Some).is _ _
    (byte_apart _ v.Registers n.not-Registers) (byte_apart _ v.Writes n.not-Writes) (c.ask_line.ensures.answers, c.ask_line.ensures.places) in
    record { answers = it.0; outputs = it.1 }
