-- Document 01, "The desk program": its sizes, and the tables that it starts with.
use Rattle.std.specs.Prelude.{ℕ, ◌*◌, replicate}
use Rattle.ground.specs.Tables.{Tables, tables}
use Rattle.register.specs.Register.{slot_bytes}
use Rattle.nodes.specs.Nodes.{words_per_node}

-- [13.1] "It reads standard input with 255 slots, 2,048 nodes, 2,048 output places and 8,192 sheet bytes."
abbrev pub desk_slots : ℕ
desk_slots = 255

abbrev pub desk_nodes : ℕ
desk_nodes = 2048

abbrev pub output_places : ℕ
output_places = 2048

abbrev pub sheet_bytes : ℕ
sheet_bytes = 8192

-- "The register and index start empty": zeros, with room for so many parts and nodes
unfoldable pub empty_desk : ℕ → ℕ → Tables
empty_desk slots nodes = tables (replicate (slots * slot_bytes) 0) (replicate (nodes * words_per_node) 0)

-- [13.1] the tables that the desk starts with
unfoldable pub begun_desk : Tables
begun_desk = empty_desk desk_slots desk_nodes
