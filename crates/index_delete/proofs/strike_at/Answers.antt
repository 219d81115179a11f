-- Counting out and clearing a tag keep the shape and every depth, so the pruning starts from the same node at the same depth.
use Rattle.index_delete.proofs.Pruning.{counted_asked, cleared_asked, strike_words}
use Rattle.index_delete.proofs.strike_at.Goals as goal

pub prune-requires : goal.prune-requires
prune-requires c =
    cleared_asked (counted_asked c.requires c.move_tallies.ensures) c.put_tag.ensures

pub returns : goal.returns
returns c =
    strike_words c.args.nodes.now _ _ _ c.args.i c.move_tallies.ensures c.put_tag.ensures
    c.prune.ensures
