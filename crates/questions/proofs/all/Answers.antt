-- With room for all kits they are set down at once. Otherwise the first walk is lent nothing and so only counts; with room for
-- so many the second sets down those very tags.
use mathlib.Core.Path.{refl}
use native.Mathlib.Omega.{arith}
use Rattle.nodes.specs.Nodes.{tag}
use Rattle.questions.proofs.Found.{no_more_than_kits}
use Rattle.questions.proofs.Answered.{question_tags, none_lent, all_refused, all_done}
use Rattle.questions.proofs.all.Goals as goal

pub returns-then-most-out : goal.returns-then-most-out
returns-then-most-out g c =
    let S = c.requires.sound.shape in
    let list = c.args.list.now in
    let few = no_more_than_kits S (g.Q.Question.test list) (tag c.args.nodes.now) c.set.ensures c.kit_count-most.ensures in
    all_done (question_tags g.met.Q.Question.tests S list c.requires.good) c.set.ensures refl
    (omega (arith, few, c.if-most-out.true)) c.set.ensures

pub returns-then-out-need : goal.returns-then-out-need
returns-then-out-need g c =
    all_refused (question_tags g.met.Q.Question.tests c.requires.sound.shape c.args.list.now c.requires.good)
    c.set-need.ensures (none_lent c.set-need.ensures) c.if-out-need.true

pub returns : goal.returns
returns g c =
    all_done (question_tags g.met.Q.Question.tests c.requires.sound.shape c.args.list.now c.requires.good)
    c.set-need.ensures (none_lent c.set-need.ensures) c.if-out-need.false c.set-2.ensures
