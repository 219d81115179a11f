-- All words of a node other than the root are 0.
use Rattle.std.proofs.Common.{◌≡◌, ◌∙◌, ◌+◌, ◌-◌, ◌*◌, sym, eqb, take, drop, rules, arith}
use Rattle.std.proofs.lemmas.Bool.Decides.{nat_tests}
use Rattle.std.proofs.lemmas.Iterator.{YieldsList-from_slice}
use Rattle.std.proofs.lemmas.Iterator.Search.{all_from_yields_List}
use borrow.Author.Tests.{tests}
use Rattle.nodes.specs.Nodes.{is_free}
use Rattle.nodes.proofs.Fields.{free_is_zeros, words_zero}
use Rattle.nodes.proofs.free_at.Goals as goal

pub returns-then-i-ne0 : goal.returns-then-i-ne0
returns-then-i-ne0 c =
    let N = c.args.nodes.now in
    let i = c.args.i in
    let e : i * 7 + 7 - i * 7 ≡ 7 = omega arith in
    let words = take (i * 7 + 7 - i * 7) (drop (i * 7) N) in
    all_from_yields_List (λ x. eqb x 0) _ _ _ c.all.ensures.ran (YieldsList-from_slice words cc) (λ x b q k. search (rules, tests))
    ∙ rw e (words_zero N i c.requires ∙ sym (free_is_zeros N i c.if-i-ne0.true))

pub returns-else-i-ne0 : goal.returns-else-i-ne0
unfolding is_free
returns-else-i-ne0 c = grind (arith, nat_tests)
