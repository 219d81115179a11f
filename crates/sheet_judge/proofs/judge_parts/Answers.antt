-- A fault among the numbers is the first there is.
use Rattle.std.proofs.lemmas.Result.{err_from_is_err_and}
use Rattle.sheet_judge.proofs.Walk.{numbers_fault}
use Rattle.sheet_judge.proofs.judge_parts.Goals as goal

pub returns-in_err-at : goal.returns-in_err-at
returns-in_err-at c =
    let p = err_from_is_err_and c.from_residual.result c.from_residual.ensures.1 in
    rw (p.1, p.2) (numbers_fault c.args.s.now c.args.n _ c.in_err-at.ensures)
