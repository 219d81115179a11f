-- Inner: no promise of the house rests on what stands here; inner contracts and proofs speak by it.
-- What the desk's memory is to the contracts.
use Rattle.std.specs.Prelude.{List, ℕ}
use Rattle.ground.specs.Tables.{Tables, tables}
use Rattle.desk.specs.Inner.{AtHand}
use Rattle.desk.specs.declared.Desk.{Desk}

abbrev pub tables_of : Desk → Tables
tables_of d = tables d.reg d.nodes

abbrev pub DeskAtHand : Desk → List ℕ → Type 0
DeskAtHand d out = AtHand (tables_of d) d.places d.sheet out
