-- Behind the list room alone can refuse, as the walk promises.
use mathlib.Core.Path.{refl}
use Rattle.answers.proofs.Answers.{refuses, handed_reply}
use Rattle.tables.proofs.Lent.{lent_sound, lines_asked, lines_passed}
use Rattle.catalogue.proofs.Answers.{all_refused, all_done}
use Rattle.catalogue.proofs.sound.all.Goals as goal

pub returns-in_err-check_lines : goal.returns-in_err-check_lines
returns-in_err-check_lines g c =
    let a = c.args in
    let asked = lines_asked _ _ _ c.requires _ c.in_err-check_lines.ensures in
    rw (handed_reply _ _ c.from_residual.ensures.1)
    (all_refused a.reg.now a.nodes.now a.list.now _ asked g.Q.Question.asks a.out.now (refuses c.in_err-check_lines.field-0.0))

pub all-requires : goal.all-requires
all-requires g c = record {
  sound = lent_sound _ _ c.requires;
  good = lines_passed _ _ _ c.requires c.in_ok-check_lines.ensures;
}

pub returns : goal.returns
returns g c =
    let a = c.args in
    let asked = lines_asked _ _ _ c.requires _ c.in_ok-check_lines.ensures in
    all_done a.reg.now a.nodes.now a.list.now _ asked g.Q.Question.asks a.out.now _ _ refl c.all.ensures
