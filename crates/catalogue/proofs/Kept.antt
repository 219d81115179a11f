-- A call, done or refused, leaves sound tables sound: why whoever starts with sound tables never needs to check them.
use mathlib.Core.Path.{◌≡◌, refl, ap, subst}
use mathlib.Core.Logic.{◌≢◌}
use mathlib.Core.Bool.{true}
use mathlib.Core.List.{List, ◌∷◌, [], ◌++◌}
use Prim.Native.Nat.{ℕ, ◌*◌, ◌≤◌, ◌<◌}
use native.Mathlib.Omega.{arith}
use lib.ListN.{length, get_or, replicate, length-append, length-replicate}
use borrow.Author.Tests.{eqb-false, ltb-false}
use Rattle.ground.specs.Limits.{most_parts, two_limit}
use Rattle.ground.specs.Laid.{zeroed}
use Rattle.ground.specs.Calls.{Case, Plan, Reply, done, refused, is_refused, decide, answer, leaves, memory}
use Rattle.ground.specs.Tables.{Tables, tables}
use Rattle.ground.proofs.Calls.{done_passes, leaves_done}
use Rattle.register.specs.Register.{slot_bytes, parts_of, register_length}
use Rattle.register.specs.Calls.{registering}
use Rattle.register.proofs.Empty.{slots_fit, zeros_ready}
use Rattle.register.proofs.Laws.{parts_after_registering, sound_after_registering, length_after_registering}
use Rattle.kits.specs.Kits.{most_units, units, list_faults, good_list}
use Rattle.kits.proofs.Units.{good_row}
use Rattle.nodes.specs.Nodes.{words_per_node, most_nodes, nodes_length}
use Rattle.nodes.specs.Held.{tag_in, held}
use Rattle.nodes.proofs.Beginnings.{widen}
use Rattle.nodes.proofs.Empty.{zeros_sound}
use Rattle.nodes.proofs.Fields.{length_sized, sized_length}
use Rattle.nodes.proofs.Held.{held_good}
use Rattle.nodes.proofs.Listing.{tag_from}
use Rattle.index_insert.specs.Enter.{enter, lacks}
use Rattle.index_delete.specs.Strike.{strike}
use Rattle.index.specs.Inner.{inserting_row, finding_row, deleting_row}
use Rattle.index.proofs.Kept.{Accepted, accepted, accepted_some_unit, finding_tag, deleting_tag, insert_sound, insert_length, delete_sound, delete_length}
use Rattle.sheet_read.proofs.RoundTrip.{words_small}
use Rattle.tables.specs.Lent.{part_count, lent_both, lent_list}
use Rattle.tables.specs.Inner.{SoundTables}
use Rattle.tables.proofs.Lent.{list_passed}
use Rattle.catalogue.specs.Calls.{on_register, inserting, finding, deleting}

------------------------------------------------------------------------
-- Calls that are done

-- what holds before a call, and of what it leaves where it is done, holds afterwards
pub kept_by : {A : Type 0} (P : A → Type 0) (p : Plan A) (m : A) → P m → ((v : ℕ) → answer p ≡ done v → P p.after) → P (memory p m)
unfolding memory leaves
kept_by P p m h k = go (answer p) refl
  where
    go : (r : Reply) → answer p ≡ r → P (leaves r m p.after)
    go (done v) e = k v e
    go (refused n v) e = h

-- a call that is done was given none of its refusals, neither the first nor those behind them
pub done_parts : (cs ds : List Case) (u v w : ℕ) → decide (cs ++ ds) v ≡ done w → (decide cs u ≡ done u) × (decide ds v ≡ done w)
unfolding decide
done_parts [] ds u v w e = (refl, e)
done_parts (c ∷ cs) ds u v w e =
    let p = done_passes c (cs ++ ds) v w e in
    let q = done_parts cs ds u v w p.1 in
    let t = p.0 in
    (rw t q.0, q.1)

-- lengths stay
pub same_register_length : (R M : List ℕ) → length M ≡ length R → register_length R ≡ true → register_length M ≡ true
unfolding register_length
same_register_length R M e h = rw e h

pub same_nodes_length : (N M : List ℕ) → length M ≡ length N → nodes_length N ≡ true → nodes_length M ≡ true
unfolding nodes_length
same_nodes_length N M e h = rw e h

------------------------------------------------------------------------
-- Emptying

pub empty_sound : (R N : List ℕ) → register_length R ≡ true → nodes_length N ≡ true → SoundTables (tables (zeroed R) (zeroed N))
empty_sound R N fits sized = record {
  ready = zeros_ready (length R) (same_register_length R (zeroed R) (length-replicate {A = ℕ} (length R) 0) fits);
  sized = same_nodes_length N (zeroed N) (length-replicate {A = ℕ} (length N) 0) sized;
  sound = zeros_sound N (part_count (tables (zeroed R) (zeroed N))) (length_sized N sized);
}

-- tables of zeros, with room for so many parts and nodes
pub room_fits : (n : ℕ) (N : List ℕ) → 1 ≤ n → n ≤ most_nodes → length N ≡ n * words_per_node → nodes_length N ≡ true
room_fits n N h g e = sized_length N (record { whole = omega arith; some_node = omega arith; most = omega arith })

pub zeros_again : (n : ℕ) → zeroed (replicate n 0) ≡ replicate n 0
zeros_again n = ap (λ (k : ℕ). replicate k 0) (length-replicate {A = ℕ} n 0)

pub begun_sound : (slots room : ℕ) → 1 ≤ slots → slots ≤ most_parts → 1 ≤ room → room ≤ most_nodes →
    SoundTables (tables (replicate (slots * slot_bytes) 0) (replicate (room * words_per_node) 0))
begun_sound slots room some_slot few_slots some_node few_nodes =
    let R : List ℕ = replicate (slots * slot_bytes) 0 in
    let N : List ℕ = replicate (room * words_per_node) 0 in
    let fits = slots_fit slots R some_slot few_slots (length-replicate {A = ℕ} (slots * slot_bytes) 0) in
    let sized = room_fits room N some_node few_nodes (length-replicate {A = ℕ} (room * words_per_node) 0) in
    subst (λ (Q : List ℕ). SoundTables (tables R Q)) (zeros_again (room * words_per_node))
    (subst (λ (Q : List ℕ). SoundTables (tables Q (zeroed N))) (zeros_again (slots * slot_bytes)) (empty_sound R N fits sized))

------------------------------------------------------------------------
-- Registering

module _ (n R N : List ℕ) (v : ℕ) (e : answer (registering n R) ≡ done v) where
  abbrev M : List ℕ
  M = memory (registering n R) R

  pub register_keeps_sound : SoundTables (tables R N) → SoundTables (tables (memory (registering n R) R) N)
  register_keeps_sound s =
      let p = parts_after_registering n R v e in
      record {
        ready =
            record {
              fits = same_register_length R M (length_after_registering n R v e) s.ready.fits;
              sound = sound_after_registering n R v e;
            };
        sized = s.sized;
        sound = widen (omega (arith, ap length p, length-append (parts_of R) (n ∷ []))) s.sound;
      }

------------------------------------------------------------------------
-- Inserting

-- what an accepted insertion was given
pub record Insertion (l : List ℕ) (t : ℕ) (T : Tables) (v : ℕ) : Type 0 where
  pub tables_pass : decide (lent_both T) 0 ≡ done 0
  pub list_passes : decide (list_faults (part_count T) l) 0 ≡ done 0
  pub row_done : answer (inserting_row (units l) t T.nodes) ≡ done v
  pub good : good_list (part_count T) l ≡ true
  pub short : length (units l) ≤ most_units
  pub some_unit_lem : 0 < length (units l)
  pub some_tag_lem : 0 < t
  pub accepted : Accepted (units l) t T.nodes
  pub takes : v ≡ lacks T.nodes 0 (units l)

pub insertion : (l : List ℕ) (t : ℕ) (T : Tables) (v : ℕ) → answer (inserting l t T) ≡ done v → Insertion l t T v
unfolding answer inserting inserting_row
insertion l t T v e =
    let a = done_parts (lent_both T) _ 0 _ v e in
    let z = done_passes _ _ _ _ a.1 in
    let f = done_parts (list_faults (part_count T) l) _ 0 _ v z.1 in
    let s = done_passes _ _ _ _ f.1 in
    let k = accepted (units l) T.nodes t v s.1 in
    record {
      tables_pass = a.0;
      list_passes = f.0;
      row_done = s.1;
      good = list_passed (part_count T) l (ap is_refused f.0);
      short = ltb-false most_units (length (units l)) s.0;
      some_unit_lem = accepted_some_unit (units l) T.nodes t v s.1;
      some_tag_lem = omega (arith, eqb-false t 0 z.0);
      accepted = k.0;
      takes = k.1;
    }

pub insert_keeps_sound : (l : List ℕ) (t : ℕ) (T : Tables) (v : ℕ) → Insertion l t T v → SoundTables T →
    SoundTables (tables T.register (enter T.nodes (units l) t))
insert_keeps_sound l t T v i s =
    let r = good_row (part_count T) l i.good i.short in
    record {
      ready = s.ready;
      sized =
          same_nodes_length T.nodes (enter T.nodes (units l) t) (insert_length s.sound r i.some_tag_lem i.accepted) s.sized;
      sound = insert_sound s.sound r i.some_tag_lem i.accepted;
    }

------------------------------------------------------------------------
-- Finding

-- what a list that is found was given
pub record Found (l : List ℕ) (T : Tables) (t : ℕ) : Type 0 where
  pub good : good_list (part_count T) l ≡ true
  pub some_tag_lem : tag_in (units l) (held T.nodes) ≢ 0
  pub has : tag_in (units l) (held T.nodes) ≡ t

pub found : (l : List ℕ) (T : Tables) (t : ℕ) → answer (finding l T) ≡ done t → Found l T t
unfolding answer finding finding_row lent_list
found l T t e =
    let a = done_parts (lent_list T l) _ 0 _ t e in
    let f = done_parts (lent_both T) _ 0 _ 0 a.0 in
    let k = finding_tag (units l) T.nodes t a.1 in
    record { good = list_passed (part_count T) l (ap is_refused f.1); some_tag_lem = k.0; has = k.1 }

-- in sound tables it has at most 64 units, and a tag of 16 bits where words have 16
module _ {l : List ℕ} {T : Tables} {t : ℕ} (S : SoundTables T) (F : Found l T t) where
  pub found_short : length (units l) ≤ most_units
  found_short =
      let k = tag_from (units l) (held T.nodes) F.some_tag_lem in
      omega (arith, (held_good S.sound.shape k.0 k.1).short, ap length k.2)

  pub found_small : ((i : ℕ) → get_or T.nodes i 0 < two_limit) → t < two_limit
  found_small words =
      let k = tag_from (units l) (held T.nodes) F.some_tag_lem in
      omega (arith, words_small S.sound.shape words k.0 k.1, k.3, F.has)

------------------------------------------------------------------------
-- Deleting

pub delete_held : (l : List ℕ) (T : Tables) (v : ℕ) → answer (deleting l T) ≡ done v → tag_in (units l) (held T.nodes) ≢ 0
unfolding answer deleting deleting_row
delete_held l T v e =
    let a = done_parts (lent_list T l) _ 0 _ v e in
    (deleting_tag (units l) T.nodes v a.1).0

pub delete_keeps_sound : (r : List ℕ) (T : Tables) → tag_in r (held T.nodes) ≢ 0 → SoundTables T →
    SoundTables (tables T.register (strike T.nodes r))
delete_keeps_sound r T n s =
    record {
      ready = s.ready;
      sized = same_nodes_length T.nodes (strike T.nodes r) (delete_length s.sound r n) s.sized;
      sound = delete_sound s.sound r n;
    }

------------------------------------------------------------------------
-- Done or refused

pub sound_after_register : (n : List ℕ) (T : Tables) → SoundTables T → SoundTables (memory (on_register T (registering n T.register)) T)
unfolding memory answer
sound_after_register n T s =
    let R = T.register in
    kept_by SoundTables (on_register T (registering n R)) T s
    (λ v e. subst (λ (M : List ℕ). SoundTables (tables M T.nodes)) (leaves_done (answer (registering n R)) v R (registering n R).after e)
    (register_keeps_sound n R T.nodes v e s))

pub sound_after_insert : (l : List ℕ) (t : ℕ) (T : Tables) → SoundTables T → SoundTables (memory (inserting l t T) T)
unfolding inserting
sound_after_insert l t T s = kept_by SoundTables (inserting l t T) T s (λ v e. insert_keeps_sound l t T v (insertion l t T v e) s)

pub sound_after_delete : (l : List ℕ) (T : Tables) → SoundTables T → SoundTables (memory (deleting l T) T)
unfolding deleting
sound_after_delete l T s = kept_by SoundTables (deleting l T) T s (λ v e. delete_keeps_sound (units l) T (delete_held l T v e) s)
