-- Tables keep their lengths, whatever calls are made.
use mathlib.Core.Path.{◌≡◌, refl, sym, ap, ◌∙◌}
use mathlib.Core.List.{List, [], ◌∷◌}
use Prim.Native.Nat.{ℕ, ◌*◌}
use native.Mathlib.Omega.{arith}
use lib.ListN.{length, length-replicate}
use Rattle.ground.specs.Calls.{Reply, done, refused, answer, leaves, memory}
use Rattle.ground.proofs.Calls.{leaves_done}
use Rattle.register.specs.Register.{slot_bytes, slot_count}
use Rattle.register.specs.Calls.{registering, looking_up, showing}
use Rattle.register.proofs.Laws.{length_after_registering}
use Rattle.kits.specs.Kits.{units}
use Rattle.kits.proofs.Units.{good_row}
use Rattle.nodes.specs.Nodes.{words_per_node, size}
use Rattle.nodes.proofs.Sorted.{Every, also}
use Rattle.index_insert.specs.Enter.{enter}
use Rattle.index.proofs.Kept.{insert_length, delete_length}
use Rattle.sheet.specs.Sheet.{Contents}
use Rattle.ground.specs.Tables.{Tables, tables}
use Rattle.tables.specs.Lent.{part_count}
use Rattle.catalogue.specs.Calls.{Call, empty_both, register_part, look_up, show_at, insert_kit, find_kit, delete_kit, any_within, any_containing}
use Rattle.catalogue.specs.Calls.{all_within, all_containing, all_almost, write_sheet, read_sheet, salvage_sheet, plan_of, emptying, inserting, finding}
use Rattle.catalogue.specs.Calls.{count_kits, turn_within, turn_containing, deleting, counting, any_kit, list_said, read_card, reading_card, tag_said, write_card}
use Rattle.demands.specs.Model.{has, step, run, sheet, torn, TypesSay, Catalogue, Allowed, begun, tables_of}
use Rattle.catalogue.proofs.Kept.{insertion, delete_held}
use Rattle.demands.proofs.AsInsertion.{card_inserts}
use Rattle.demands.proofs.Brought.{Brought, what_was_read, what_was_rescued, call_keeps, begun_empty, all_typed}

-- tables of the same lengths
pub record Alike (T U : Tables) : Type 0 where
  pub register : length U.register ≡ length T.register
  pub nodes : length U.nodes ≡ length T.nodes

register_alike : (n : List ℕ) (T : Tables) (v : ℕ) → answer (registering n T.register) ≡ done v →
    Alike T (tables (registering n T.register).after T.nodes)
unfolding memory
register_alike n T v e =
    let R = T.register in
    record {
      register = ap length (sym (leaves_done (answer (registering n R)) v R (registering n R).after e)) ∙ length_after_registering n
          R v e;
      nodes = refl;
    }

insert_alike : (l : List ℕ) (t : ℕ) (T : Tables) (m : Contents) (v : ℕ) → answer (inserting l t T) ≡ done v → Brought T m →
    Alike T (tables T.register (enter T.nodes (units l) t))
insert_alike l t T m v e b =
    let i = insertion l t T v e in
    record { register = refl; nodes = insert_length b.both.sound (good_row (part_count T) l i.good i.short) i.some_tag_lem i.accepted }

done_alike : (c : Call) (T : Tables) (m : Contents) (v : ℕ) → TypesSay c → answer (plan_of c T) ≡ done v → Brought T m →
    Alike T (plan_of c T).after
unfolding plan_of answer emptying looking_up showing inserting finding deleting counting any_kit reading_card
done_alike empty_both T m v y e b =
    record { register = length-replicate (length T.register) 0; nodes = length-replicate (length T.nodes) 0 }
done_alike (register_part n) T m v y e b = register_alike n T v e
done_alike (look_up n) T m v y e b = record { register = refl; nodes = refl }
done_alike (show_at p) T m v y e b = record { register = refl; nodes = refl }
done_alike (insert_kit l t) T m v y e b = insert_alike l t T m v e b
done_alike (find_kit l) T m v y e b = record { register = refl; nodes = refl }
done_alike (delete_kit l) T m v y e b = record { register = refl; nodes = delete_length b.both.sound (units l) (delete_held l T v e) }
done_alike (count_kits l) T m v y e b = record { register = refl; nodes = refl }
done_alike (any_within l) T m v y e b = record { register = refl; nodes = refl }
done_alike (any_containing l) T m v y e b = record { register = refl; nodes = refl }
done_alike (all_within l o) T m v y e b = record { register = refl; nodes = refl }
done_alike (all_containing l o) T m v y e b = record { register = refl; nodes = refl }
done_alike (all_almost d l o) T m v y e b = record { register = refl; nodes = refl }
done_alike (turn_within l k) T m v y e b = record { register = refl; nodes = refl }
done_alike (turn_containing l k) T m v y e b = record { register = refl; nodes = refl }
done_alike (write_sheet o) T m v y e b = record { register = refl; nodes = refl }
done_alike (read_sheet s) T m v y e b =
    let r = what_was_read s T v (y.bytes s sheet) e in record { register = r.register_length_lem; nodes = r.nodes_length_lem }
done_alike (salvage_sheet s) T m v y e b =
    let r = what_was_rescued s T v (y.bytes s torn) e in record { register = r.register_length_lem; nodes = r.nodes_length_lem }
done_alike (write_card l o) T m v y e b = record { register = refl; nodes = refl }
done_alike (read_card s) T m v y e b = insert_alike (list_said s T) (tag_said s) T m v (card_inserts s T v e) b

call_alike : (c : Call) (T : Tables) (m : Contents) → TypesSay c → Brought T m → Alike T (memory (plan_of c T) T)
unfolding memory leaves
call_alike c T m y b = go (answer (plan_of c T)) refl
  where
    go : (r : Reply) → answer (plan_of c T) ≡ r → Alike T (leaves r T (plan_of c T).after)
    go (done v) e = done_alike c T m v y e b
    go (refused n v) e = record { register = refl; nodes = refl }

calls_alike : (cs : List Call) (T : Tables) (m : Contents) → Every TypesSay cs → Brought T m → Alike T (run cs T)
unfolding run
calls_alike [] T m y b = record { register = refl; nodes = refl }
calls_alike (c ∷ cs) T m (also y ys) b =
    let f = call_alike c T m y b in
    let g = calls_alike cs (memory (plan_of c T) T) (step c (answer (plan_of c T)) m) ys (call_keeps c T m y b) in
    record { register = g.register ∙ f.register; nodes = g.nodes ∙ f.nodes }

-- A catalogue's sizes are those that it was begun with
pub record Sizes (a : Catalogue) (T : Tables) : Type 0 where
  pub slots : slot_count T.register ≡ a.slots
  pub room : size T.nodes ≡ a.room

begun_register : (a : Catalogue) → length (begun a).register ≡ a.slots * slot_bytes
unfolding begun
begun_register a = length-replicate (a.slots * slot_bytes) 0

begun_nodes : (a : Catalogue) → length (begun a).nodes ≡ a.room * words_per_node
unfolding begun
begun_nodes a = length-replicate (a.room * words_per_node) 0

pub sizes : (a : Catalogue) → Allowed a → Sizes a (tables_of a)
unfolding tables_of
sizes a h =
    let f = calls_alike a.calls (begun a) (has [] []) (all_typed a h) (begun_empty a h) in
    record { slots = omega (arith, f.register, begun_register a); room = omega (arith, f.nodes, begun_nodes a) }
