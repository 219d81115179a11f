-- A tag that is 0 leaves the output; another is set down, and the next stands one place behind it.
use Rattle.questions.proofs.Written.{no_word, put_word}
use Rattle.ground.proofs.Put.{put_none}
use Rattle.questions.proofs.put_tag.Goals as goal

pub returns-then-t-eq0 : goal.returns-then-t-eq0
returns-then-t-eq0 c =
    let a = c.args in
    put_none a.out.now a.n (no_word a.t a.t c.if-t-eq0.true)

pub returns : goal.returns
returns c =
    let a = c.args in
    put_word a.out.now a.n a.t a.t c.if-t-eq0.false c.put_word.ensures
