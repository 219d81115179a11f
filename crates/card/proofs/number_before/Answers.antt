-- The order of slices is that of rows, number by number
use mathlib.Core.Path.{refl}
use Rattle.std.proofs.Common.{arith}
use Rattle.std.specs.Ordering.{nat_cmp, is_lt}
use Rattle.std.proofs.lemmas.Cmp.{same_from_slice_cmp_tested}
use Rattle.std.proofs.lemmas.Bool.Decides.{nat_tests}
use Rattle.kits.specs.Kits.{before}
use Rattle.card.proofs.number_before.Goals as goal

pub returns : goal.returns
unfolding before
returns c =
    same_from_slice_cmp_tested nat_cmp is_lt before refl (λ _ _. refl) (λ _ _. refl) (λ x y xs ys o h. grind (arith, nat_tests))
    c.args.a.now c.args.b.now c.lt.result c.lt.ensures
