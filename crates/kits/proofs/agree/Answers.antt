-- agree: the front of equal pairs
use Rattle.std.proofs.Common.{◌∙◌, eqb, rules}
use Rattle.std.proofs.lemmas.Iterator.{YieldsList-from_slice, YieldsList-from_zip}
use Rattle.std.proofs.lemmas.Iterator.Consumers.{YieldsList-at, count_from_yields_List}
use Rattle.std.proofs.lemmas.Iterator.Search.{YieldsList-from_take_while}
use Rattle.std.proofs.lemmas.List.Folds.{length-prefix_len}
use Rattle.std.specs.List.{zip}
use borrow.Author.Tests.{tests}
use Rattle.kits.specs.Kits.{units_in}
use Rattle.kits.proofs.Rows.{agreed_is}
use Rattle.kits.proofs.agree.Goals as goal

pub returns : goal.returns
returns c =
    let a = units_in c.args.a in
    let b = units_in c.args.b in
    let pairs = YieldsList-from_zip (YieldsList-from_slice {s = c.zip.result.a} a cc) (YieldsList-from_slice {s = c.zip.result.b} b cc) in
    count_from_yields_List c.take_while.result _ c.count.ensures.ran
    (YieldsList-from_take_while _ (λ x. eqb x.0 x.1) (YieldsList-at c.take_while.ensures.source pairs)
    c.take_while.ensures.closure c.take_while.ensures.done (λ x b q k. search (rules, tests)))
    ∙ length-prefix_len (λ x. eqb x.0 x.1) (zip a b) ∙ agreed_is a b
