-- P, K and W each have their own rule; behind every other letter the pairs decide.
use Rattle.desk_text.specs.declared.Letter.TheVariants as v
use Rattle.desk_text.specs.Lines.{fields_from}
use Rattle.desk_text.proofs.Lines.{parsed_same, parsed_if, behind_registers, behind_inserts, behind_writes, behind_list}
use Rattle.desk_text.proofs.parse_behind.Goals as goal

pub returns-in-Registers : goal.returns-in-Registers
returns-in-Registers c =
    rw c.in-Registers.is
    (parsed_if _ _ _ v.Registers _ _ (behind_registers _ _ c.count_fields.ensures) c.requires (rw c.in-Registers.is at c.line_if.ensures))

pub returns-in-Inserts : goal.returns-in-Inserts
returns-in-Inserts c =
    rw c.in-Inserts.is (parsed_same _ _ (behind_inserts (fields_from c.args.line.now c.args.from)) (rw c.in-Inserts.is at c.parse_amount.ensures))

pub returns-in-Writes : goal.returns-in-Writes
returns-in-Writes c =
    rw c.in-Writes.is
    (parsed_if _ _ _ v.Writes _ _ (behind_writes _ _ c.count_fields-in-Writes.ensures) c.requires (rw c.in-Writes.is at c.line_if-in-Writes.ensures))

pub returns-in_default : goal.returns-in_default
returns-in_default c =
    let d = c.in_default in
    parsed_if _ _ _ c.args.letter _ _
    (behind_list _ _ c.good_pairs.ensures c.args.letter d.not-Registers d.not-Inserts d.not-Writes) c.requires c.line_if-in_default.ensures
