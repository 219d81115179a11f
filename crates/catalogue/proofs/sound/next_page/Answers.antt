-- Refused with the list, then with the bookmark; otherwise the promise of the page, behind these refusals.
use mathlib.Core.Path.{◌≡◌, refl, ap, sym, ◌∙◌}
use Rattle.ground.specs.Tables.{tables}
use Rattle.answers.proofs.Answers.{refuses}
use Rattle.tables.specs.Lent.{part_count}
use Rattle.tables.proofs.Lent.{lent_sound, lines_asked, lines_passed}
use Rattle.pages.specs.Pages.{good_bookmark}
use Rattle.pages.proofs.Bookmarks.{shown_short}
use Rattle.catalogue.proofs.Answers.{page_refused, page_bad_bookmark, page_done}
use Rattle.catalogue.proofs.sound.next_page.Goals as goal
use Rattle.catalogue.proofs.sound.next_page.Goals.{After-good_bookmark}

pub returns-in-Err : goal.returns-in-Err
returns-in-Err g c =
    let a = c.args in
    let asked = lines_asked _ _ _ c.requires _ c.in-Err.ensures in
    page_refused a.reg.now a.nodes.now a.list.now _ asked g.Q.Question.asks a.mark (refuses c.in-Err.refusal)

pub count_parts-parts-requires : goal.count_parts-parts-requires
count_parts-parts-requires g c = c.requires.ready

-- the bookmark is asked with the parts that are registered
marked : (g : _) (c : After-good_bookmark g) →
    good_bookmark (part_count (tables c.args.reg.now c.args.nodes.now)) c.args.mark ≡ c.good_bookmark.result
marked g c =
    sym (c.good_bookmark.ensures ∙ ap (λ n. good_bookmark n c.args.mark) c.count_parts-parts.ensures.fact_1)

pub returns-then-not-good_bookmark : goal.returns-then-not-good_bookmark
returns-then-not-good_bookmark g c =
    let a = c.args in
    let asked = lines_asked _ _ _ c.requires _ c.in_default.ensures in
    page_bad_bookmark a.reg.now a.nodes.now a.list.now _ asked g.Q.Question.asks a.mark refl
    (marked g (goal.at.returns-then-not-good_bookmark g c).After-good_bookmark ∙ c.if-not-good_bookmark.true)

pub next_page-requires : goal.next_page-requires
next_page-requires g c = record {
  shape = (lent_sound _ _ c.requires).shape;
  good = lines_passed _ _ _ c.requires c.in_default.ensures;
  short = shown_short _ c.args.mark (marked g (goal.at.next_page-requires g c).After-good_bookmark ∙ c.if-not-good_bookmark.false);
}

pub returns : goal.returns
returns g c =
    let a = c.args in
    let asked = lines_asked _ _ _ c.requires _ c.in_default.ensures in
    page_done a.reg.now a.nodes.now a.list.now _ asked g.Q.Question.asks a.mark refl _ _
    (marked g (goal.at.returns g c).After-good_bookmark ∙ c.if-not-good_bookmark.false) c.next_page.ensures
