-- Every node is asked, up to the first that is refused.
use Rattle.std.proofs.Common.{refl, rules, arith}
use Rattle.std.proofs.lemmas.Iterator.{cases_from_all, serves_from_Range, YieldsList-from_range}
use borrow.Author.Tests.{tests}
use Rattle.nodes_check.specs.Inner.{Spot}
use Rattle.nodes_check.proofs.Answers.{says_yes, says_no, each_says}
use Rattle.nodes_check.proofs.spots_ok.Goals as goal

pub all-requires : goal.all-requires
all-requires c = record { can = tt; finite = tt; callable = serves_from_Range (λ x q k. search (rules, tests)) (λ x low high. search rules) }

pub returns : goal.returns
returns c =
    let P = Spot c.args.parts c.args.nodes.now in
    each_says c.all.result c.node_count.result c.node_count.ensures
    (cases_from_all _ _ _ P (λ i. P i → ⊥) c.all.ensures.ran (YieldsList-from_range 0 c.node_count.result c.node_count.result refl (omega arith))
    (λ x q k. search (rules, says_yes)) (λ x q k. search (rules, says_no)))
