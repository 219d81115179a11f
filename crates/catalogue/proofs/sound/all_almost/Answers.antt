-- Refused with the list, then with d; otherwise the promise of the walk, behind these refusals.
use mathlib.Core.Path.{refl}
use Rattle.ground.specs.Calls.{both}
use Rattle.answers.proofs.Answers.{refuses, handed_reply}
use Rattle.tables.proofs.Lent.{lent_sound, lines_asked, lines_passed}
use Rattle.catalogue.proofs.Answers.{almost_refused, almost_too_far, almost_done}
use Rattle.catalogue.proofs.sound.all_almost.Goals as goal

pub returns-in_err-check_lines : goal.returns-in_err-check_lines
returns-in_err-check_lines c =
    let a = c.args in
    let asked = lines_asked _ _ _ c.requires _ c.in_err-check_lines.ensures in
    rw (handed_reply _ _ c.from_residual.ensures.1)
    (almost_refused a.reg.now a.nodes.now a.bin.now _ asked a.d (both a.tags.now a.shorts.now) (refuses c.in_err-check_lines.field-0.0))

pub returns-then-d-gt-MOST_SHORT : goal.returns-then-d-gt-MOST_SHORT
returns-then-d-gt-MOST_SHORT c =
    let a = c.args in
    let asked = lines_asked _ _ _ c.requires _ c.in_ok-check_lines.ensures in
    almost_too_far a.reg.now a.nodes.now a.bin.now _ asked a.d (both a.tags.now a.shorts.now) refl c.if-d-gt-MOST_SHORT.true

pub all_almost-requires : goal.all_almost-requires
all_almost-requires c = record {
  fact_1 = lent_sound _ _ c.requires;
  fact_2 = (lines_passed _ _ _ c.requires c.in_ok-check_lines.ensures, c.if-d-gt-MOST_SHORT.false);
}

pub returns : goal.returns
returns c =
    let a = c.args in
    let asked = lines_asked _ _ _ c.requires _ c.in_ok-check_lines.ensures in
    almost_done a.reg.now a.nodes.now a.bin.now _ asked a.d (both a.tags.now a.shorts.now) _ _ refl
    c.if-d-gt-MOST_SHORT.false c.all_almost.ensures
