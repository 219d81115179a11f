-- put_line_at: the words from i on stand a line higher, and nothing else has changed
use mathlib.Core.Path.{◌≡◌, refl, ap, ◌∙◌}
use native.Mathlib.Omega.{arith}
use lib.ListN.{length-set}
use Rattle.card.proofs.Moved.{moved, moved_none, moved_more, line_put}
use Rattle.card.proofs.put_line_at.Goals as goal

pub loop-i-init : goal.loop-i-init
loop-i-init c =
    (c.requires.inside, c.requires.room, refl, moved_none c.args.list.now c.args.words (omega arith))

pub loop-i-preserved : goal.loop-i-preserved
loop-i-preserved c = (
  omega arith,
  c.requires.room,
  rw length-set (omega arith),
  moved_more c.args.list.now c.args.words c.loop-i.list c.loop-i.i (omega arith) (omega arith)
      (omega arith) c.loop-i.invariant.3,
)

pub returns-clause-put : goal.returns-clause-put
returns-clause-put c =
    let e : c.loop-i.i ≡ c.args.at = omega arith in
    let l = c.args.list.now in
    let words = c.args.words in
    line_put l words c.loop-i.list c.args.at c.args.place c.args.quantity (omega arith) (omega arith)
    (c.loop-i.invariant.3 ∙ ap (moved l words) e)
