-- What the tables are refused for comes first; sound ones are lent on.
use Rattle.answers.proofs.Answers.{refuses, handed_reply}
use Rattle.tables.proofs.Lent.{passed_sound}
use Rattle.catalogue.proofs.Answers.{insert_refused}
use Rattle.catalogue.proofs.insert.Goals as goal

pub returns-in_err-check_tables : goal.returns-in_err-check_tables
returns-in_err-check_tables c =
    let a = c.args in
    let is = c.in_err-check_tables.ensures in
    let e = refuses c.in_err-check_tables.field-0.0 in
    rw (handed_reply _ _ c.from_residual.ensures.1)
    (insert_refused a.reg.now a.nodes.now a.list.now a.tag _ is e)

pub insert-requires : goal.insert-requires
insert-requires c = passed_sound _ _ c.in_ok-check_tables.ensures
