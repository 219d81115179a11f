-- What the tables are refused for comes first; sound ones are lent on.
use Rattle.answers.proofs.Answers.{refuses, handed_reply}
use Rattle.tables.proofs.Lent.{passed_sound}
use Rattle.catalogue.proofs.Cards.{read_card_lent}
use Rattle.catalogue.proofs.read_card.Goals as goal

pub returns-in_err-check_tables : goal.returns-in_err-check_tables
returns-in_err-check_tables c =
    let a = c.args in
    let is = c.in_err-check_tables.ensures in
    let e = refuses c.in_err-check_tables.field-0.0 in
    rw (handed_reply _ _ c.from_residual.ensures.1)
    (read_card_lent a.reg.now a.nodes.now a.s.now _ is e)

pub read_card-requires : goal.read_card-requires
read_card-requires c = passed_sound _ _ c.in_ok-check_tables.ensures
