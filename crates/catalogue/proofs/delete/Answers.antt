-- What the tables are refused for comes first; sound ones are lent on.
use Rattle.answers.proofs.Answers.{refuses, handed_reply}
use Rattle.tables.proofs.Lent.{passed_sound, list_refused}
use Rattle.catalogue.proofs.Answers.{delete_refused}
use Rattle.catalogue.proofs.delete.Goals as goal

pub returns-in_err-check_tables : goal.returns-in_err-check_tables
returns-in_err-check_tables c =
    let a = c.args in
    let is = c.in_err-check_tables.ensures in
    let e = refuses c.in_err-check_tables.field-0.0 in
    rw (handed_reply _ _ c.from_residual.ensures.1)
    (delete_refused a.reg.now a.nodes.now a.list.now _ (list_refused _ _ _ _ is e) e)

pub delete-requires : goal.delete-requires
delete-requires c = passed_sound _ _ c.in_ok-check_tables.ensures
