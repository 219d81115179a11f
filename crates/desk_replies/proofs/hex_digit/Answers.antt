-- Below 10 the digits go up from 0; from 10 on the letters go up from A.
use borrow.Author.Tests.{lt-ltb, le-ltb}
use Rattle.desk_replies.specs.Replies.{hex_digit}
use Rattle.desk_replies.proofs.hex_digit.Goals as goal

pub returns-then-d-lt10 : goal.returns-then-d-lt10
unfolding hex_digit
returns-then-d-lt10 c = rw (lt-ltb _ _ c.if-d-lt10.true)

pub returns : goal.returns
unfolding hex_digit
returns c = rw (le-ltb _ _ c.if-d-lt10.false)
