-- Document 01, "Reading leaves the tables as if emptied, then filled in sheet order": the tables of some contents.
use Rattle.std.specs.Prelude.{◌≡◌, true, ◌≤◌}
use Rattle.ground.specs.Laid.{zeroed}
use Rattle.register.specs.Register.{slot_count, register_length, register_of}
use Rattle.nodes.specs.Nodes.{size, nodes_length}
use Rattle.index_insert.specs.Enter.{enter_all}
use Rattle.sheet.specs.Sheet.{Contents, slots_needed, nodes_needed}
use Rattle.ground.specs.Tables.{Tables, tables}

-- [12.17] both tables, emptied and filled with some contents: part by part and kit by kit
unfoldable pub filling : Contents → Tables → Tables
filling c T = tables (register_of (slot_count T.register) c.parts) (enter_all (zeroed T.nodes) c.kits)

-- tables of right lengths that have room for some contents, whatever they hold
pub record Roomy (c : Contents) (T : Tables) : Type 0 where
  pub register_fits : register_length T.register ≡ true
  pub nodes_fit : nodes_length T.nodes ≡ true
  pub slots : slots_needed c ≤ slot_count T.register
  pub nodes : nodes_needed c ≤ size T.nodes
