use Rattle.repeats.specs.Inner.{entry_of, EntriesInside, LeadsBack}
use Rattle.repeats.proofs.Repeats.{GoingBack}
use Rattle.repeats.proofs.is_among.Given as goal

abbrev pub invariant-loop-k : goal.invariant-loop-k
invariant-loop-k l = EntriesInside l.s l.at l.e × LeadsBack (entry_of l.s l.at) l.earlier l.e × GoingBack (entry_of l.s l.at) l.num l.e l.k

abbrev pub decreases-loop-k : goal.decreases-loop-k
decreases-loop-k l = l.k
