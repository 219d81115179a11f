-- `all` looks at each of the first m slots.
use mathlib.Core.Path.{refl, ap, ◌∙◌}
use native.Mathlib.Omega.{arith}
use borrow.Author.Rules.{rules}
use borrow.Author.Tests.{tests}
use Rattle.std.proofs.lemmas.Iterator.{YieldsList-from_range}
use Rattle.std.proofs.lemmas.Iterator.Search.{all_from_yields_List}
use Rattle.ground.specs.Lists.{allb}
use Rattle.ground.proofs.Methods.{all_is, range_is}
use Rattle.makers.specs.Makers.{zero_or_good}
use Rattle.makers.proofs.first_good.Goals as goal

pub returns : goal.returns
returns c =
    let p = zero_or_good c.args.makers.now in
    all_from_yields_List p _ _ _ c.all.ensures.ran (YieldsList-from_range 0 c.args.m c.args.m refl (omega arith)) (λ x b q k. search (rules, tests))
    ∙ all_is p _
    ∙ ap (allb p) (range_is 0 c.args.m)
