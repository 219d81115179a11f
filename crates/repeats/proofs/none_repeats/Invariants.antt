use mathlib.Core.Path.{◌≡◌}
use mathlib.Core.Bool.{true}
use Rattle.ground.specs.Lists.{distinct, eq_list}
use Rattle.repeats.specs.Inner.{entry_of, first_entries, Hashed}
use Rattle.repeats.proofs.none_repeats.Given as goal

-- the numbers passed are entered, and none of them stands twice
abbrev pub invariant-loop-k : goal.invariant-loop-k
invariant-loop-k l =
    Hashed (entry_of l.s l.at) l.lasts l.earlier l.k × (distinct eq_list (first_entries (entry_of l.s l.at) l.k) ≡ true)
