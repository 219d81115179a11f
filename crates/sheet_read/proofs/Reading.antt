-- What an accepted reading leaves: what the sheet says without an empty kit, in sound tables, as if emptied and then filled in sheet order; and
-- which sheets are refused.
use mathlib.Core.Path.{◌≡◌, refl, ap, sym, subst, ◌∙◌}
use mathlib.Core.Logic.{◌↔◌}
use mathlib.Core.Bool.{Bool, true, false, cond, false≢true}
use mathlib.Core.List.{List, []}
use Prim.Native.Nat.{ℕ, ◌≤◌}
use native.Mathlib.Omega.{arith}
use lib.ListN.{length, length-replicate}
use lib.Dec.{ltb}
use borrow.Author.Tests.{ltb-false}
use Rattle.ground.specs.Laid.{zeroed}
use Rattle.ground.specs.Calls.{Reply, done, refused, decide, answer, memory}
use Rattle.ground.proofs.Calls.{done_passes, leaves_done}
use Rattle.register.specs.Register.{slot_count, parts_of, register_length, register_sound}
use Rattle.register.proofs.Sound.{whole}
use Rattle.nodes.specs.Nodes.{size, nodes_length}
use Rattle.nodes.specs.Sound.{nodes_sound}
use Rattle.nodes.specs.Held.{held, listed, some_unit, with_units}
use Rattle.nodes.proofs.Decided.{sound_test}
use Rattle.nodes.proofs.Sorted.{Every, keep_twice}
use Rattle.nodes.proofs.Empty.{zeros_hold_nothing}
use Rattle.index_insert.specs.Enter.{enter_all}
use Rattle.index_counts.proofs.Filled.{Fillable, filled, filled_held}
use Rattle.sheet.specs.Bytes.{Bytes}
use Rattle.sheet.specs.Sheet.{Contents, contents_of, without_empty, encode, slots_needed, nodes_needed}
use Rattle.sheet.specs.Inner.{fits_sheet}
use Rattle.sheet.specs.Reading.{Item, item, fault, decode, is_fault, offset, said}
use Rattle.sheet.specs.Calls.{sheet_refusals, room_refusals}
use Rattle.sheet.proofs.Fits.{Fits, fitting_fits, rising_earlier}
use Rattle.sheet.proofs.Emptied.{needed_without, fits_without}
use Rattle.sheet.proofs.Laws.{encode_decode}
use Rattle.ground.specs.Tables.{Tables, tables}
use Rattle.sheet_read.specs.Filling.{filling, Roomy}
use Rattle.sheet_read.specs.Inner.{reading_into}
use Rattle.sheet_read.proofs.Registered.{register_parts, register_sound_lem, register_long, register_all, registered_in_order}
use Rattle.sheet_read.proofs.Listed.{kits_fillable, HasUnit, have_units, insert_all, inserted_in_order}

-- tables M that have just some contents, with no empty kit, are sound, and are as long as T
pub record Has (c : Contents) (T M : Tables) : Type 0 where
  pub parts : parts_of M.register ≡ c.parts
  pub kits : held M.nodes ≡ c.kits
  pub none_empty : held M.nodes ≡ listed M.nodes
  pub register_sound_lem : register_sound M.register ≡ true
  pub nodes_sound_lem : nodes_sound (length c.parts) M.nodes ≡ true
  pub register_length_lem : length M.register ≡ length T.register
  pub nodes_length_lem : length M.nodes ≡ length T.nodes

pub contents_had : {c : Contents} {T M : Tables} → Has c T M → contents_of M.register M.nodes ≡ c
contents_had h = let p = h.parts in let k : listed _ ≡ _ = sym h.none_empty ∙ h.kits in rw (p, k)

-- Tables emptied and filled with contents that fit the format and have no empty kit
module _ (c : Contents) (fits : fits_sheet c ≡ true) (none : without_empty c ≡ c) (T : Tables) (room : Roomy c T) where
  F : Fits c
  F = fitting_fits c fits

  all_units : with_units c.kits ≡ c.kits
  all_units = ap (λ (d : Contents). d.kits) none

  fillable : Fillable (length c.parts) c.kits (zeroed T.nodes) c.kits
  fillable =
      kits_fillable (length c.parts) (length c.parts) c.kits T.nodes (omega arith) F.kits_good F.tags_once F.kits_rise
      room.nodes_fit room.nodes

  now_held : held (enter_all (zeroed T.nodes) c.kits) ≡ c.kits
  now_held = filled_held c.kits fillable (zeros_hold_nothing T.nodes room.nodes_fit) (rising_earlier c.kits F.kits_rise)

  pub filling_has : Has c T (filling c T)
  unfolding filling listed
  filling_has =
      let R = T.register in
      let N = T.nodes in
      let g = F.numbers_good in
      let d = F.numbers_once in
      let M = filled c.kits (zeroed N) fillable in
      record {
        parts = register_parts (slot_count R) c.parts g d room.slots;
        kits = now_held;
        none_empty = now_held ∙ sym all_units ∙ ap with_units (sym now_held);
        register_sound_lem = register_sound_lem (slot_count R) c.parts g d room.slots;
        nodes_sound_lem = sound_test M.sound;
        register_length_lem = register_long (slot_count R) c.parts g d room.slots ∙ sym (whole R room.register_fits);
        nodes_length_lem = M.same_length ∙ length-replicate (length N) 0;
      }

  -- in every byte and word what the calls leave that register its parts and insert its kits, one after the other, in emptied tables
  pub filled_in_order : filling c T ≡ tables (register_all (zeroed T.register) c.parts) (insert_all (zeroed T.nodes) c.kits)
  unfolding filling
  filled_in_order =
      let a = registered_in_order T.register room.register_fits c.parts F.numbers_good F.numbers_once room.slots in
      let u : Every HasUnit c.kits = subst (Every HasUnit) all_units (have_units c.kits) in
      let b = inserted_in_order c.kits (zeroed T.nodes) fillable u in
      rw (a, b)

-- What was given where a reading is accepted
pub record Accepted (s : List ℕ) (T : Tables) (v : ℕ) : Type 0 where
  pub faultless : is_fault (decode s) ≡ false
  pub slots : slots_needed (said (decode s)) ≤ slot_count T.register
  pub nodes : nodes_needed (said (decode s)) ≤ size T.nodes
  pub kits : v ≡ length (without_empty (said (decode s))).kits

no_refusal : (w v : ℕ) → decide [] w ≡ done v → v ≡ w
unfolding decide
no_refusal w v e = cc

pub room_given : (c : Contents) (slots nodes w v : ℕ) → decide (room_refusals c slots nodes) w ≡ done v →
    (slots_needed c ≤ slots) × (nodes_needed c ≤ nodes) × (v ≡ w)
unfolding room_refusals
room_given c slots nodes w v e =
    let a = done_passes _ _ _ _ e in
    let b = done_passes _ _ _ _ a.1 in
    (ltb-false _ _ a.0, ltb-false _ _ b.0, no_refusal _ v b.1)

pub accepted : (s : List ℕ) (T : Tables) (v : ℕ) → answer (reading_into s T) ≡ done v → Accepted s T v
unfolding answer reading_into sheet_refusals
accepted s T v e =
    let a = done_passes _ _ _ _ e in
    let r = room_given (said (decode s)) _ _ _ v a.1 in
    record { faultless = a.0; slots = r.0; nodes = r.1; kits = r.2 }

-- to drop an empty kit twice is to drop it once, and what is left needs as much room
pub without_twice : (c : Contents) → without_empty (without_empty c) ≡ without_empty c
without_twice c = let e = keep_twice some_unit some_unit (λ k e. e) c.kits in rw e refl

pub roomy_without : (c : Contents) (T : Tables) → Roomy c T → Roomy (without_empty c) T
roomy_without c T r = record {
  register_fits = r.register_fits;
  nodes_fit = r.nodes_fit;
  slots = r.slots;
  nodes = omega (arith, r.nodes, needed_without c);
}

-- a faultless sheet is the sheet of what it says, which fits the format
pub said_again : (s : List ℕ) → Bytes s → is_fault (decode s) ≡ false → (encode (said (decode s)) ≡ s) × (fits_sheet (said (decode s)) ≡ true)
unfolding said is_fault
said_again s b e = go (decode s) refl e
  where
    go : (m : Item Contents) → decode s ≡ m → is_fault m ≡ false → (encode (said m) ≡ s) × (fits_sheet (said m) ≡ true)
    go (item c bs o) d f = encode_decode s c bs o b d
    go (fault o) d f = absurd (false≢true (sym f))

-- An accepted reading
module _ (s : List ℕ) (b : Bytes s) (T : Tables) (register_fits : register_length T.register ≡ true)
    (nodes_fit : nodes_length T.nodes ≡ true) (v : ℕ) (e : answer (reading_into s T) ≡ done v) where
  abbrev c : Contents
  c = without_empty (said (decode s))

  abbrev M : Tables
  M = memory (reading_into s T) T

  A : Accepted s T v
  A = accepted s T v e

  fits : fits_sheet (without_empty (said (decode s))) ≡ true
  fits = fits_without (said (decode s)) (said_again s b A.faultless).1

  none : without_empty (without_empty (said (decode s))) ≡ without_empty (said (decode s))
  none = without_twice (said (decode s))

  room : Roomy (without_empty (said (decode s))) T
  room = roomy_without (said (decode s)) T
      (record { register_fits = register_fits; nodes_fit = nodes_fit; slots = A.slots; nodes = A.nodes })

  -- "Reading leaves the tables as if emptied, then filled in sheet order"
  pub reading_leaves : memory (reading_into s T) T ≡ filling (without_empty (said (decode s))) T
  unfolding memory reading_into
  reading_leaves = leaves_done (answer (reading_into s T)) v T (filling c T) e

  pub reading_in_order :
      memory (reading_into s T) T ≡
      tables (register_all (zeroed T.register) (said (decode s)).parts) (insert_all (zeroed T.nodes) (with_units (said (decode s)).kits))
  reading_in_order = reading_leaves ∙ filled_in_order c fits none T room

  -- the parts and kits are those of the sheet but for an empty one, and the tables are sound
  pub reading_has : Has (without_empty (said (decode s))) T (memory (reading_into s T) T)
  reading_has = subst (Has c T) (sym reading_leaves) (filling_has c fits none T room)

  pub reading_contents : contents_of (memory (reading_into s T) T).register (memory (reading_into s T) T).nodes ≡ without_empty (said (decode s))
  reading_contents = contents_had reading_has

  -- without an empty kit in the sheet, theirs is the same sheet
  pub reading_again : without_empty (said (decode s)) ≡ said (decode s) →
      encode (contents_of (memory (reading_into s T) T).register (memory (reading_into s T) T).nodes) ≡ s
  reading_again n = ap encode (reading_contents ∙ n) ∙ (said_again s b A.faultless).0

-- 13 exactly for the sheets at fault, with the offset of the first faulty item
after_13 : (s : List ℕ) (T : Tables) →
    answer (reading_into s T) ≡ cond (is_fault (decode s)) (refused 13 (offset (decode s)))
    (decide (room_refusals (said (decode s)) (slot_count T.register) (size T.nodes)) (length (without_empty (said (decode s))).kits))
unfolding answer reading_into sheet_refusals decide
after_13 s T = refl

room_12 : (c : Contents) (slots nodes w n v : ℕ) → decide (room_refusals c slots nodes) w ≡ refused n v → n ≡ 12
unfolding room_refusals decide
room_12 c slots nodes w n v e = go (ltb slots (slots_needed c)) (ltb nodes (nodes_needed c)) e
  where
    go : (p q : Bool) → cond p (refused 12 (slots_needed c)) (cond q (refused 12 (nodes_needed c)) (done w)) ≡ refused n v → n ≡ 12
    go true q f = cc
    go false true f = cc
    go false false f = absurd (let z : ◌≡◌ {A = ℕ} 0 1 = cc in omega arith)

pub fault_exactly : (s : List ℕ) (T : Tables) (o : ℕ) → (answer (reading_into s T) ≡ refused 13 o) ↔ (decode s ≡ fault o)
unfolding is_fault offset
fault_exactly s T o = (λ e. there (decode s) refl (sym (after_13 s T) ∙ e), λ d. after_13 s T ∙ rw d)
  where
    rest : Item Contents → Reply
    rest m = decide (room_refusals (said m) (slot_count T.register) (size T.nodes)) (length (without_empty (said m)).kits)

    there : (m : Item Contents) → decode s ≡ m → cond (is_fault m) (refused 13 (offset m)) (rest m) ≡ refused 13 o → decode s ≡ fault o
    there (item c bs p) d e = absurd (let z : 13 ≡ 12 = room_12 _ _ _ _ 13 o e in omega arith)
    there (fault p) d e = cc

-- "Only a faultless sheet can get 12"
pub faultless_12 : (s : List ℕ) (T : Tables) (v : ℕ) → answer (reading_into s T) ≡ refused 12 v → is_fault (decode s) ≡ false
unfolding is_fault offset
faultless_12 s T v e = go (is_fault (decode s)) refl (sym (after_13 s T) ∙ e)
  where
    go : (p : Bool) → is_fault (decode s) ≡ p →
        cond p (refused 13 (offset (decode s)))
        (decide (room_refusals (said (decode s)) (slot_count T.register) (size T.nodes)) (length (without_empty (said (decode s))).kits)) ≡ refused 12
        v →
        p ≡ false
    go true d f = absurd (let z : ◌≡◌ {A = ℕ} 13 12 = cc in omega arith)
    go false d f = refl
