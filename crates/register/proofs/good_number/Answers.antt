-- Where the length is allowed, the bytes decide.
use mathlib.Core.Path.{sym, ◌∙◌}
use borrow.Author.Rules.{rules}
use borrow.Author.Tests.{tests}
use Rattle.std.proofs.lemmas.Iterator.{YieldsList-from_slice}
use Rattle.std.proofs.lemmas.Iterator.Search.{all_from_yields_List}
use Rattle.ground.proofs.Methods.{all_is}
use Rattle.register.specs.Number.{good_byte}
use Rattle.register.proofs.Slots.{number_bytes}
use Rattle.register.proofs.good_number.Goals as goal

pub returns-then-contains : goal.returns-then-contains
returns-then-contains c =
    all_from_yields_List good_byte _ _ _ c.all.ensures.ran (YieldsList-from_slice c.args.n.now cc) (λ x b q k. search (rules, tests))
    ∙ all_is good_byte c.args.n.now
    ∙ sym (number_bytes c.args.n.now (search (rules, tests)) (search (rules, tests)))
