-- Worked examples by computation: a surplus of one part pays for no other, and a part that is short by three counts three.
use mathlib.Core.Path.{◌≡◌, refl}
use mathlib.Core.List.{[], ◌∷◌}
use Rattle.ground.specs.Lists.{from}
use Rattle.kits.specs.Kits.{count}
use Rattle.kits.specs.Inner.{quantity}
use Rattle.shortfalls.specs.Shortfalls.{sum_over, lacking, shortfall}
use Rattle.shortfalls.specs.Inner.{lines_short}

-- three of part 1 and one of part 2, from two of part 1 and five of part 3
surplus : shortfall (1 ∷ 1 ∷ 3 ∷ 3 ∷ 3 ∷ 3 ∷ 3 ∷ []) (1 ∷ 1 ∷ 1 ∷ 2 ∷ []) ≡ 2
unfolding shortfall lacking sum_over from count
surplus = refl

-- three of part 1 and none of it
three : shortfall (2 ∷ []) (1 ∷ 1 ∷ 1 ∷ []) ≡ 3
unfolding shortfall lacking sum_over from count
three = refl

-- the first, from lists
by_lines : lines_short (1 ∷ 2 ∷ 3 ∷ 5 ∷ []) (1 ∷ 3 ∷ 2 ∷ 1 ∷ []) ≡ 2
unfolding lines_short quantity
by_lines = refl
