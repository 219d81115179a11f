-- A fault in the head is the first there is; a head that is read leaves what follows to the lines.
use mathlib.Core.Path.{sym, ◌∙◌, ap}
use Rattle.std.proofs.lemmas.Result.{err_from_is_err_and}
use Rattle.card_judge.specs.Inner.{card_judged}
use Rattle.card_judge.proofs.Walk.{judged_fault}
use Rattle.card_judge.proofs.judge_card.Goals as goal

pub returns-in_err-read_head : goal.returns-in_err-read_head
returns-in_err-read_head c =
    let p = err_from_is_err_and c.from_residual.result c.from_residual.ensures.1 in
    rw (p.1, p.2) (judged_fault c.args.s.now _ c.in_err-read_head.ensures)

pub returns : goal.returns
returns c = c.judge_lines.ensures ∙ ap card_judged (sym c.in_ok-read_head.ensures.goes)
