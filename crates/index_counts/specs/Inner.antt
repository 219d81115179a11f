-- Inner: no promise of the house rests on what stands here; inner contracts and proofs speak by it.
-- Document 01, "nodes used are always 1 plus the number of different nonempty beginnings of held kits": what an insertion takes, and what
-- it is refused for, counted by those beginnings, as statements that the laws prove.
use Rattle.std.specs.Prelude.{◌≡◌, ◌↔◌, List, ℕ, ◌+◌, ◌-◌, ◌<◌, length}
use Rattle.ground.specs.Calls.{refused, answer}
use Rattle.nodes.specs.Nodes.{free_nodes}
use Rattle.nodes.specs.Held.{Kit, put_kit, held, all_beginnings}
use Rattle.index_insert.specs.Enter.{lacks}
use Rattle.index.specs.Inner.{inserting_row}

-- what is held, with a kit more
abbrev pub held_with : List ℕ → List ℕ → ℕ → List Kit
held_with N r t = put_kit (record { row = r; tag = t }) (held N)

-- "nodes newly taken": what a row lacks is what it adds to the beginnings. Proof: proofs/Needed, `nodes_needed_lem`
abbrev pub AddsWhatItLacks : List ℕ → List ℕ → ℕ → Type 0
AddsWhatItLacks N r t = length (all_beginnings (held_with N r t)) ≡ length (all_beginnings (held N)) + lacks N 0 r

-- 12, "insertion needs more nodes than are free (value: how many too few)". Proof: proofs/Needed, `no_room_exactly`
abbrev pub NoRoomExactly : List ℕ → List ℕ → ℕ → Type 0
NoRoomExactly N r t =
    (answer (inserting_row r t N) ≡ refused 12 (lacks N 0 r - length (free_nodes N))) ↔
    (length (free_nodes N) + length (all_beginnings (held N)) < length (all_beginnings (held_with N r t)))
