-- The node found first below the root has the first tag of all.
use mathlib.Core.Path.{refl}
use Rattle.nodes.proofs.Walk.{root_child}
use Rattle.questions.proofs.Found.{first_inside}
use Rattle.questions.proofs.Answered.{question_tags, any_below}
use Rattle.questions.proofs.any.Goals as goal

pub tag_found-requires : goal.tag_found-requires
tag_found-requires g c =
    let S = c.requires.sound.shape in
    first_inside S (g.Q.Question.test c.args.list.now) (root_child S) c.first.ensures

pub returns : goal.returns
returns g c =
    let q = g.Q.Question in
    let list = c.args.list.now in
    let S = c.requires.sound.shape in
    any_below q.asks list c.args.nodes.now (q.test list) S
    (question_tags g.met.Q.Question.tests S list c.requires.good) refl c.first.ensures c.tag_found.ensures
