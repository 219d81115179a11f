-- The tables that the desk starts with: all zeros, and sound.
use mathlib.Core.Path.{◌≡◌, sym, ap, subst, ◌∙◌}
use mathlib.Core.List.{List}
use Prim.Native.Nat.{ℕ, ◌*◌}
use native.Mathlib.Omega.{arith}
use lib.ListN.{replicate}
use Rattle.ground.specs.Tables.{Tables, tables}
use Rattle.register.specs.Register.{slot_bytes}
use Rattle.nodes.specs.Nodes.{words_per_node}
use Rattle.tables.specs.Inner.{SoundTables}
use Rattle.catalogue.proofs.Kept.{begun_sound}
use Rattle.desk_lines.specs.Sizes.{desk_slots, desk_nodes, empty_desk, begun_desk}

pub desk_sound : (T : Tables) → T ≡ begun_desk → SoundTables T
unfolding begun_desk empty_desk
desk_sound T e = subst SoundTables (sym e) (begun_sound desk_slots desk_nodes (omega arith) (omega arith) (omega arith) (omega arith))

pub begun_tables : (R N : List ℕ) → R ≡ replicate (desk_slots * slot_bytes) 0 → N ≡ replicate (desk_nodes * words_per_node) 0 →
    tables R N ≡ begun_desk
unfolding begun_desk empty_desk
begun_tables R N e f = ap (λ (Q : List ℕ). tables Q N) e ∙ ap (tables (replicate (desk_slots * slot_bytes) 0)) f
