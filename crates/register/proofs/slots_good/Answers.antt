-- `all` looks at each of the first m slots.
use mathlib.Core.Path.{refl, ap, ◌∙◌}
use native.Mathlib.Omega.{arith}
use borrow.Author.Rules.{rules}
use borrow.Author.Tests.{tests}
use Rattle.std.proofs.lemmas.Iterator.{YieldsList-from_range}
use Rattle.std.proofs.lemmas.Iterator.Search.{all_from_yields_List}
use Rattle.ground.specs.Lists.{allb}
use Rattle.ground.proofs.Methods.{all_is, range_is}
use Rattle.register.specs.Inner.{good_at}
use Rattle.register.proofs.Slots.{slot_part}
use Rattle.register.proofs.slots_good.Goals as goal

pub returns : goal.returns
unfolding good_at
returns c =
    let p = good_at c.args.reg.now in
    all_from_yields_List p _ _ _ c.all.ensures.ran (YieldsList-from_range 0 c.args.m c.args.m refl (omega arith))
    (λ x b q k. search (rules, tests, slot_part))
    ∙ all_is p _
    ∙ ap (allb p) (range_is 0 c.args.m)
