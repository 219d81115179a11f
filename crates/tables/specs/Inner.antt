-- Inner: no promise of the house rests on what stands here; inner contracts and proofs speak by it.
-- Tables that no check would refuse.
use Rattle.std.specs.Prelude.{◌≡◌, true}
use Rattle.ground.specs.Tables.{Tables}
use Rattle.register.specs.Inner.{Ready}
use Rattle.nodes.specs.Nodes.{nodes_length}
use Rattle.nodes.specs.Inner.{Sound}
use Rattle.tables.specs.Lent.{part_count}

-- both tables have right lengths and are sound, the nodes for the parts that are registered: what a call may ask in place of checking
pub record SoundTables (T : Tables) : Type 0 where
  pub ready : Ready T.register
  pub sized : nodes_length T.nodes ≡ true
  pub sound : Sound (part_count T) T.nodes
