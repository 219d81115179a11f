-- What the tables are refused for comes first; sound ones are lent on.
use Rattle.answers.proofs.Answers.{refuses}
use Rattle.tables.proofs.Lent.{passed_sound, list_refused}
use Rattle.catalogue.proofs.Answers.{page_refused}
use Rattle.catalogue.proofs.next_page.Goals as goal

pub returns-in-Err : goal.returns-in-Err
returns-in-Err g c =
    let a = c.args in
    let e = refuses c.in-Err.refusal in
    page_refused a.reg.now a.nodes.now a.list.now _ (list_refused _ _ _ _ c.in-Err.ensures e) g.Q.Question.asks a.mark e

pub next_page-requires : goal.next_page-requires
next_page-requires g c = passed_sound _ _ c.in_default.ensures
