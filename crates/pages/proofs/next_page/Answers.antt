-- The node that the walk finds behind the row shown gives the page.
use Rattle.pages.proofs.Turned.{found_live, page_turned}
use Rattle.pages.proofs.next_page.Goals as goal

pub page_at-requires-clause-live : goal.page_at-requires-clause-live
page_at-requires-clause-live g c =
    found_live c.requires.shape _ (g.Q.Question.test c.args.list.now) c.next-at.ensures

pub returns : goal.returns
returns g c =
    let q = g.Q.Question in
    let list = c.args.list.now in
    page_turned c.requires.shape c.args.mark list q.asks (q.test list)
    (g.met.Q.Question.tests.alike c.args.nodes.now list c.requires.shape c.requires.good) (rw c.shown.ensures at c.next-at.ensures) c.page_at.ensures
