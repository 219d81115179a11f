-- Document 01, "Calls and what they answer": what the two tables that are lent to a call, and a lent list, are refused for, in the
-- paper's order.
use Rattle.std.specs.Prelude.{not, List, [], ◌∷◌, ◌++◌, ℕ, length}
use Rattle.ground.specs.Calls.{Case, given}
use Rattle.ground.specs.Tables.{Tables}
use Rattle.register.specs.Register.{parts_of, register_length, register_sound}
use Rattle.kits.specs.Kits.{list_faults}
use Rattle.nodes.specs.Nodes.{nodes_length}
use Rattle.nodes.specs.Sound.{nodes_sound}

-- how many parts are registered
abbrev pub part_count : Tables → ℕ
part_count T = length (parts_of T.register)

-- [8.1, 10.13] "Order: 1 register, 1 nodes, 2 register, 2 nodes (of the tables lent)"
unfoldable pub lengths : Tables → List Case
lengths T = given (not (register_length T.register)) 1 0 ∷ given (not (nodes_length T.nodes)) 1 0 ∷ []

-- [8.2, 7.10] "2 register, 2 nodes" behind these
unfoldable pub lent_both : Tables → List Case
lent_both T = lengths T ++ (given (not (register_sound T.register)) 2 0 ∷ given (not (nodes_sound (part_count T) T.nodes)) 2 0 ∷ [])

-- [4.8] "then 4 for odd length; then line by line 4, 5, 6"
unfoldable pub lent_list : Tables → List ℕ → List Case
lent_list T l = lent_both T ++ list_faults (part_count T) l
