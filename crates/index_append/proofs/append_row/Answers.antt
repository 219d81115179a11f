-- The row before is that of the last end, and a row's units are lent. The new row's end is the last node.
use Rattle.index_append.proofs.Fork.{agrees_own}
use Rattle.index_append.proofs.Counted.{last_counts, last_counted}
use Rattle.index_append.proofs.append_row.Goals as goal

pub append-used-requires : goal.append-used-requires
append-used-requires c = rw c.units.ensures (agrees_own c.requires.fact_2 c.agree-shared.ensures)

pub move_tallies-requires : goal.move_tallies-requires
move_tallies-requires c =
    last_counts c.args.t c.requires.fact_2 (rw c.units.ensures at c.append-used.ensures.entered)
    (rw c.units.ensures at c.append-used.ensures.last)

pub returns : goal.returns
returns c =
    let it = last_counted c.args.t c.requires.fact_2 (rw c.units.ensures at c.append-used.ensures.entered)
    (rw c.units.ensures at c.append-used.ensures.last) c.move_tallies.ensures in
    record { fact_1 = it.0; fact_2 = it.1 }
