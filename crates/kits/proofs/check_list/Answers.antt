-- The check of the lines that are left is the check of the list: a line that passes asks no more, and one that does not is the answer.
use Rattle.std.proofs.Common.{◌≡◌, sym, ◌∙◌, refl, ap, arith}
use Rattle.std.proofs.lemmas.Result.{err_from_is_err_and}
use Rattle.std.specs.Iterator.Adapters.{enumerate_source, enumerate_count}
use Rattle.ground.specs.Calls.{done, refused}
use Rattle.answers.specs.Answers.{refusal}
use Rattle.kits.proofs.Lists.{check_on, check_stop, check_short, check_odd, check_even}
use Rattle.answers.proofs.Answers.{refuses}
use Rattle.kits.proofs.check_list.Goals as goal

pub returns-then-count-ne0 : goal.returns-then-count-ne0
returns-then-count-ne0 c =
    ap (refused 4) c.line_value.ensures ∙ sym (check_odd c.args.parts c.args.list.now c.if-count-ne0.true)

pub loop-i-init : goal.loop-i-init
loop-i-init c =
    let all : enumerate_source c.into_iter-i-iterator.result ≡ c.chunks_exact.result = cc in
    let none : enumerate_count c.into_iter-i-iterator.result ≡ 0 = cc in
    let e = c.chunks_exact.ensures in
    rw (all, none, e.rest) (e.size, sym (check_even _ _ c.if-count-ne0.false))

pub returns-in_err-check_line : goal.returns-in_err-check_line
returns-in_err-check_line c =
    let s = c.in-Some.ensures.steps in
    let i = c.loop-i.invariant in
    let p = err_from_is_err_and c.from_residual.result c.from_residual.ensures.1 in
    let e = c.in_err-check_line.field-0.0 in
    rw (p.1, p.2) (check_stop _ _ _ _ i.0 s.0.1 _ _ _ (refusal e) (rw s.1 at c.in_err-check_line.ensures) (refuses e) ∙ i.1)

pub loop-i-preserved : goal.loop-i-preserved
loop-i-preserved c =
    let s = c.in-Some.ensures.steps in
    let i = c.loop-i.invariant in (
      s.0.0 ∙ i.0,
      rw s.2 (sym (check_on _ _ _ _ i.0 s.0.1 _ _ _ (done 0) (rw s.1 at c.in_ok-check_line.ensures) refl) ∙ i.1),
    )

pub returns : goal.returns
returns c =
    let s = c.in-None.ensures.steps in
    sym (check_short _ _ _ _ (omega arith)) ∙ c.loop-i.invariant.1
