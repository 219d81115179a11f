-- As `put_tag` of the questions, in both outputs.
use Rattle.shortfalls.proofs.Written.{both_skipped, both_put}
use Rattle.shortfalls.proofs.put_both.Goals as goal

pub returns-then-t-eq0 : goal.returns-then-t-eq0
returns-then-t-eq0 c =
    both_skipped c.args.tags.now c.args.shorts.now c.args.n c.args.t c.args.s
    c.if-t-eq0.true

pub returns : goal.returns
returns c =
    let a = c.args in
    both_put a.tags.now a.shorts.now a.n a.t a.s c.if-t-eq0.false c.put_word.ensures
    c.put_word-2.ensures
