-- No kit without a unit is ever held: none is inserted or read from a card, and reading and salvage drop it.
use mathlib.Core.Path.{◌≡◌, sym, ap, subst, ◌∙◌}
use mathlib.Core.Bool.{true}
use mathlib.Core.List.{List, [], ◌∷◌}
use Prim.Native.Nat.{ℕ, ◌*◌}
use lib.ListN.{replicate}
use Rattle.ground.specs.Laid.{zeroed}
use Rattle.ground.specs.Calls.{done, answer, memory}
use Rattle.ground.specs.Tables.{Tables}
use Rattle.register.specs.Calls.{registering, looking_up, showing}
use Rattle.kits.specs.Kits.{units}
use Rattle.kits.proofs.Units.{good_row}
use Rattle.nodes.specs.Nodes.{words_per_node, nodes_length}
use Rattle.nodes.specs.Held.{put_kit, drop_kit, held, listed}
use Rattle.nodes.proofs.Sorted.{Every, also}
use Rattle.nodes.proofs.Held.{kit}
use Rattle.nodes.proofs.Empty.{zeros_hold_nothing}
use Rattle.index.proofs.Kept.{held_after_insert, listed_after_insert, held_after_delete, listed_after_delete}
use Rattle.sheet.specs.Sheet.{Contents}
use Rattle.tables.specs.Lent.{part_count}
use Rattle.catalogue.specs.Calls.{Call, empty_both, register_part, look_up, show_at, insert_kit, find_kit, delete_kit, any_within, any_containing}
use Rattle.catalogue.specs.Calls.{all_within, all_containing, all_almost, write_sheet, read_sheet, salvage_sheet, plan_of, emptying, inserting, finding}
use Rattle.catalogue.specs.Calls.{count_kits, turn_within, turn_containing, deleting, counting, any_kit, list_said, read_card, reading_card, tag_said, write_card}
use Rattle.catalogue.proofs.Kept.{kept_by, zeros_again, insertion, delete_held}
use Rattle.demands.specs.Model.{has, step, run, sheet, torn, TypesSay, Catalogue, Allowed, begun, tables_of}
use Rattle.demands.specs.Demand2.{NeverEmpty}
use Rattle.demands.proofs.AsInsertion.{card_inserts}
use Rattle.demands.proofs.Brought.{Brought, what_was_read, what_was_rescued, call_keeps, begun_empty, all_typed, zeros_list_nothing}

-- all that is held is listed
abbrev pub AllListed : Tables → Type 0
AllListed T = held T.nodes ≡ listed T.nodes

zeros_list_all : (N : List ℕ) → nodes_length N ≡ true → held (zeroed N) ≡ listed (zeroed N)
zeros_list_all N sized = zeros_hold_nothing N sized ∙ sym (zeros_list_nothing N sized)

insert_lists : (l : List ℕ) (t : ℕ) (T : Tables) (m : Contents) (v : ℕ) → answer (inserting l t T) ≡ done v → Brought T m → AllListed T →
    AllListed (inserting l t T).after
unfolding inserting
insert_lists l t T m v e b all =
    let i = insertion l t T v e in
    let S = b.both.sound in
    let row = good_row (part_count T) l i.good i.short in
    held_after_insert S row i.some_tag_lem i.accepted ∙ ap (put_kit (kit (units l) t)) all
    ∙ sym (listed_after_insert S row i.some_tag_lem i.accepted i.some_unit_lem)

delete_lists : (l : List ℕ) (T : Tables) (m : Contents) (v : ℕ) → answer (deleting l T) ≡ done v → Brought T m → AllListed T →
    AllListed (deleting l T).after
unfolding deleting
delete_lists l T m v e b all =
    let n = delete_held l T v e in
    let S = b.both.sound in
    held_after_delete S (units l) n ∙ ap (drop_kit (units l)) all ∙ sym (listed_after_delete S (units l) n)

done_lists : (c : Call) (T : Tables) (m : Contents) (v : ℕ) → TypesSay c → answer (plan_of c T) ≡ done v → Brought T m → AllListed T →
    AllListed (plan_of c T).after
unfolding plan_of answer emptying registering looking_up showing inserting finding counting any_kit reading_card
done_lists empty_both T m v y e b all = zeros_list_all T.nodes b.both.sized
done_lists (register_part n) T m v y e b all = all
done_lists (look_up n) T m v y e b all = all
done_lists (show_at p) T m v y e b all = all
done_lists (insert_kit l t) T m v y e b all = insert_lists l t T m v e b all
done_lists (find_kit l) T m v y e b all = all
done_lists (delete_kit l) T m v y e b all = delete_lists l T m v e b all
done_lists (count_kits l) T m v y e b all = all
done_lists (any_within l) T m v y e b all = all
done_lists (any_containing l) T m v y e b all = all
done_lists (all_within l o) T m v y e b all = all
done_lists (all_containing l o) T m v y e b all = all
done_lists (all_almost d l o) T m v y e b all = all
done_lists (turn_within l k) T m v y e b all = all
done_lists (turn_containing l k) T m v y e b all = all
done_lists (write_sheet o) T m v y e b all = all
done_lists (read_sheet s) T m v y e b all = (what_was_read s T v (y.bytes s sheet) e).none_empty
done_lists (salvage_sheet s) T m v y e b all = (what_was_rescued s T v (y.bytes s torn) e).none_empty
done_lists (write_card l o) T m v y e b all = all
done_lists (read_card s) T m v y e b all = insert_lists (list_said s T) (tag_said s) T m v (card_inserts s T v e) b all

calls_list : (cs : List Call) (T : Tables) (m : Contents) → Every TypesSay cs → Brought T m → AllListed T → AllListed (run cs T)
unfolding run
calls_list [] T m y b all = all
calls_list (c ∷ cs) T m (also y ys) b all =
    calls_list cs (memory (plan_of c T) T) (step c (answer (plan_of c T)) m) ys (call_keeps c T m y b)
    (kept_by AllListed (plan_of c T) T all (λ v e. done_lists c T m v y e b all))

begun_lists : (a : Catalogue) → Allowed a → AllListed (begun a)
unfolding begun
begun_lists a h =
    let n = a.room * words_per_node in
    subst (λ (N : List ℕ). held N ≡ listed N) (zeros_again n) (zeros_list_all (replicate n 0) (begun_empty a h).both.sized)

pub never_empty : NeverEmpty
unfolding tables_of
never_empty a h = calls_list a.calls (begun a) (has [] []) (all_typed a h) (begun_empty a h) (begun_lists a h)
