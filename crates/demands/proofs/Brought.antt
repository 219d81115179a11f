-- What stays true of a catalogue that calls bring on: its tables are sound, and have the parts and the kits that its accepted calls left.
use mathlib.Core.Path.{◌≡◌, refl, sym, ap, subst, ◌∙◌}
use mathlib.Core.Logic.{◌≢◌, ⊎_elim}
use mathlib.Core.Bool.{true, false}
use mathlib.Core.List.{List, [], ◌∷◌, ◌++◌, Memᴰ}
use Prim.Native.Nat.{ℕ, ◌+◌, ◌*◌, ◌<◌}
use native.Mathlib.Omega.{arith}
use lib.ListN.{length, replicate, length-replicate}
use borrow.Author.Tests.{ltb-true, not-false}
use Rattle.ground.specs.Limits.{two_limit}
use Rattle.ground.specs.Lists.{keep, order_by}
use Rattle.ground.specs.Laid.{zeroed}
use Rattle.ground.specs.Calls.{Case, Reply, done, refused, is_refused, decide, answer, leaves, memory}
use Rattle.ground.proofs.Laws.{every_at}
use Rattle.ground.proofs.Calls.{done_passes, leaves_done}
use Rattle.register.specs.Register.{slot_bytes, parts_of, register_length}
use Rattle.register.specs.Calls.{registering, looking_up, showing}
use Rattle.register.proofs.Empty.{slots_fit, zeros_parts}
use Rattle.register.proofs.Laws.{parts_after_registering}
use Rattle.kits.specs.Kits.{units}
use Rattle.kits.specs.Inner.{GoodRow}
use Rattle.kits.proofs.Units.{good_row}
use Rattle.nodes.specs.Nodes.{words_per_node, nodes_length}
use Rattle.nodes.specs.Held.{Kit, comes_before, put_kit, kits_in_order, drop_kit, tag_in, held, some_unit, with_units, listed, all_beginnings}
use Rattle.nodes.proofs.Sorted.{Every, Rising, none, also, ahead, mem_every, allb_mem, rising_keep}
use Rattle.nodes.proofs.Listing.{Earlier, OtherRow, drop_mem, tag_in_lem}
use Rattle.nodes.proofs.Ordered.{in_order_already, mem_order, put_mem}
use Rattle.nodes.proofs.Decided.{sound_exactly}
use Rattle.nodes.proofs.Held.{kit, held_rises, held_rows_differ, held_tagged}
use Rattle.nodes.proofs.Empty.{zeros_hold_nothing}
use Rattle.nodes.proofs.Units.{units_mem, units_beginnings, listed_mem, listed_rises}
use Rattle.index_insert.specs.Enter.{enter, lacks}
use Rattle.index_delete.specs.Strike.{strike}
use Rattle.index.proofs.Kept.{insert_growth, held_after_insert, listed_after_insert, held_after_delete, listed_after_delete}
use Rattle.sheet.specs.Bytes.{Bytes}
use Rattle.sheet.specs.Sheet.{Contents, without_empty, encode}
use Rattle.sheet.specs.Inner.{good_kit, fits_sheet}
use Rattle.sheet.specs.Reading.{decode, said, is_fault, salvage, rescued}
use Rattle.sheet.specs.Calls.{salvage_refusals}
use Rattle.sheet.proofs.Fits.{fitting_fits, rising_earlier}
use Rattle.sheet_read.specs.Inner as read
use Rattle.sheet_read.proofs.Reading as filled
use Rattle.sheet_read.proofs.Rescued.{kept_fits, salvage_leaves, salvage_has}
use Rattle.sheet_read.proofs.RoundTrip.{SmallTags, words_small}
use Rattle.card.specs.Card.{list_on}
use Rattle.card.specs.Reading.{decode_card, said_card}
use Rattle.card.proofs.Codec.{said_good}
use Rattle.ground.specs.Tables.{Tables, tables}
use Rattle.tables.specs.Lent.{lengths}
use Rattle.tables.specs.Inner.{SoundTables}
use Rattle.tables.proofs.Lent.{lengths_passed}
use Rattle.catalogue.proofs.Kept.{done_parts, same_register_length, same_nodes_length, room_fits, zeros_again, Insertion, insertion, delete_held}
use Rattle.catalogue.proofs.Kept.{empty_sound, register_keeps_sound, insert_keeps_sound, delete_keeps_sound}
use Rattle.catalogue.specs.Calls.{Call, empty_both, register_part, look_up, show_at, insert_kit, find_kit, delete_kit, any_within, any_containing}
use Rattle.catalogue.specs.Calls.{all_within, all_containing, all_almost, write_sheet, read_sheet, salvage_sheet, plan_of, emptying, inserting, finding}
use Rattle.catalogue.specs.Calls.{list_said, read_card, reading_card, tag_said, write_card}
use Rattle.catalogue.specs.Calls.{contents, count_kits, turn_within, turn_containing, deleting, counting, any_kit, reading, salvaging}
use Rattle.demands.specs.Model as demand
use Rattle.demands.specs.Model.{has, more, step, model, run, log, sheet, torn, card, TypesSay, Words, Catalogue, Allowed, begun}
use Rattle.demands.specs.Model.{tables_of, entered}
use Rattle.demands.proofs.Model.{apart, dropped_apart, order_dropped}
use Rattle.demands.proofs.AsInsertion.{card_was, card_inserts}

-- tables that are sound and have some contents: their kits are those with a unit, whether one without is held or not
pub record Brought (T : Tables) (m : Contents) : Type 0 where
  pub both : SoundTables T
  pub parts : parts_of T.register ≡ m.parts
  pub kits : listed T.nodes ≡ kits_in_order m.kits
  pub apart : Rising OtherRow m.kits
  pub small : SmallTags T.nodes

-- any sound tables have what they list
pub has_its_own : (T : Tables) → SoundTables T → Words T → Brought T (contents T)
has_its_own T s words =
    let e = listed_rises s.sound.shape in
    record {
      both = s;
      parts = refl;
      kits = sym (in_order_already comes_before e);
      apart = apart e;
      small = words_small s.sound.shape words;
    }

nothing_in_order : kits_in_order [] ≡ []
unfolding order_by
nothing_in_order = refl

-- a kit without a unit begins nothing
pub listed_beginnings : (N : List ℕ) → all_beginnings (listed N) ≡ all_beginnings (held N)
unfolding listed
listed_beginnings N = units_beginnings (held N)

pub zeros_list_nothing : (N : List ℕ) → nodes_length N ≡ true → listed (zeroed N) ≡ []
unfolding listed keep
zeros_list_nothing N sized = ap with_units (zeros_hold_nothing N sized)

-- Both tables emptied
pub emptied : (R N : List ℕ) → register_length R ≡ true → nodes_length N ≡ true → Brought (tables (zeroed R) (zeroed N)) (has [] [])
emptied R N fits sized = record {
  both = empty_sound R N fits sized;
  parts = zeros_parts (length R);
  kits = zeros_list_nothing N sized ∙ sym nothing_in_order;
  apart = none;
  small = λ k i. absurd (mathlib.Core.List.Memᴰ.not-nil (subst (Memᴰ k) (zeros_hold_nothing N sized) i));
}

-- A number registered
module _ (n R N : List ℕ) (m : Contents) (v : ℕ) (e : answer (registering n R) ≡ done v) (b : Brought (tables R N) m) where
  abbrev M : List ℕ
  M = memory (registering n R) R

  now_parts : parts_of M ≡ m.parts ++ (n ∷ [])
  now_parts = parts_after_registering n R v e ∙ ap (λ (ps : List (List ℕ)). ps ++ (n ∷ [])) b.parts

  registered : Brought (tables (memory (registering n R) R) N) (has (m.parts ++ (n ∷ [])) m.kits)
  registered = record {
    both = register_keeps_sound n R N v e b.both;
    parts = now_parts;
    kits = b.kits;
    apart = b.apart;
    small = b.small;
  }

-- A kit inserted
module _ (l : List ℕ) (t : ℕ) (R N : List ℕ) (m : Contents) (b : Brought (tables R N) m) (v : ℕ) (I : Insertion l t (tables R N) v) where
  row : GoodRow (length (parts_of R)) (units l)
  row = good_row (length (parts_of R)) l I.good I.short

  new_row : (k : Kit) → Memᴰ k m.kits → units l ≢ k.row
  new_row k i e =
      let h : Memᴰ k (held N) = ((listed_mem N k).0 (subst (Memᴰ k) (sym b.kits) (mem_order comes_before k m.kits i))).0 in
      let f : tag_in (units l) (held N) ≡ k.tag = ap (λ (r : List ℕ). tag_in r (held N)) e ∙ tag_in_lem k (held N)
      (held_rows_differ b.both.sound.shape) h in
      omega (arith, I.accepted.fresh, held_tagged b.both.sound.shape k h)

  pub now_listed : listed (enter N (units l) t) ≡ kits_in_order (kit (units l) t ∷ m.kits)
  unfolding order_by
  now_listed = listed_after_insert b.both.sound row I.some_tag_lem I.accepted I.some_unit_lem ∙ ap (put_kit (kit (units l) t)) b.kits

  -- as many nodes are taken as there are beginnings more
  pub now_begun : length (all_beginnings (listed (enter N (units l) t))) ≡ length (all_beginnings (listed N)) + lacks N 0 (units l)
  now_begun =
      omega (
        arith,
        insert_growth b.both.sound row I.some_tag_lem I.accepted,
        ap length (listed_beginnings N),
        ap length (listed_beginnings (enter N (units l) t)),
      )

  small_now : t < two_limit → SmallTags (enter N (units l) t)
  small_now h k i = ⊎_elim
      (λ (e : k ≡ kit (units l) t). omega (arith, ap (λ (j : Kit). j.tag) e, h))
      (λ j. b.small k j)
      (put_mem comes_before (kit (units l) t) k (held N)
      (subst (Memᴰ k) (held_after_insert b.both.sound row I.some_tag_lem I.accepted) i))

  inserted : t < two_limit → Brought (tables R (enter N (units l) t)) (has m.parts (kit (units l) t ∷ m.kits))
  inserted small_tag = record {
    both = insert_keeps_sound l t (tables R N) v I b.both;
    parts = b.parts;
    kits = now_listed;
    apart = ahead (mem_every m.kits new_row) b.apart;
    small = small_now small_tag;
  }

-- A kit deleted
module _ (r R N : List ℕ) (m : Contents) (b : Brought (tables R N) m) (n : tag_in r (held N) ≢ 0) where
  deleted : Brought (tables R (strike N r)) (has m.parts (drop_kit r m.kits))
  deleted = record {
    both = delete_keeps_sound r (tables R N) n b.both;
    parts = b.parts;
    kits = listed_after_delete b.both.sound r n ∙ ap (drop_kit r) b.kits ∙ sym (order_dropped r m.kits b.apart);
    apart = dropped_apart r m.kits b.apart;
    small = λ k i. b.small k (drop_mem r k (held N) (held_rises b.both.sound.shape)
        (subst (Memᴰ k) (held_after_delete b.both.sound r n) i)).0;
  }

-- Call by call, of a call that is done
empty_kept : (T : Tables) (v : ℕ) → answer (emptying T) ≡ done v → Brought (emptying T).after (has [] [])
unfolding answer emptying lengths
empty_kept T v e =
    let a = done_passes _ _ _ _ e in
    let z = done_passes _ _ _ _ a.1 in
    emptied T.register T.nodes (not-false _ a.0) (not-false _ z.0)

register_kept : (n : List ℕ) (T : Tables) (m : Contents) (v : ℕ) → answer (registering n T.register) ≡ done v → Brought T m →
    Brought (tables (registering n T.register).after T.nodes) (has (m.parts ++ (n ∷ [])) m.kits)
unfolding memory
register_kept n T m v e b =
    let R = T.register in
    subst (λ (M : List ℕ). Brought (tables M T.nodes) (has (m.parts ++ (n ∷ [])) m.kits))
    (leaves_done (answer (registering n R)) v R (registering n R).after e) (registered n R T.nodes m v e b)

insert_kept : (l : List ℕ) (t : ℕ) (T : Tables) (m : Contents) (v : ℕ) → t < two_limit → answer (inserting l t T) ≡ done v → Brought T m →
    Brought (inserting l t T).after (has m.parts (kit (units l) t ∷ m.kits))
unfolding inserting
insert_kept l t T m v h e b =
    inserted l t T.register T.nodes m b v (insertion l t T v e) h

delete_kept : (l : List ℕ) (T : Tables) (m : Contents) (v : ℕ) → answer (deleting l T) ≡ done v → Brought T m →
    Brought (deleting l T).after (has m.parts (drop_kit (units l) m.kits))
unfolding deleting
delete_kept l T m v e b = deleted (units l) T.register T.nodes m b (delete_held l T v e)

-- the kits of contents that fit the format stand in listing order
pub sheet_rises : (c : Contents) → fits_sheet c ≡ true → Rising Earlier c.kits
sheet_rises c fits = rising_earlier c.kits (fitting_fits c fits).kits_rise

-- Tables that were filled with contents that fit the format, but for an empty kit
module _ (c : Contents) (fits : fits_sheet c ≡ true) (T F : Tables) (H : filled.Has (without_empty c) T F) where
  in_order : Rising Earlier (with_units c.kits)
  in_order = rising_keep some_unit c.kits (sheet_rises c fits)

  small_tags : SmallTags F.nodes
  unfolding good_kit
  small_tags k i =
      let m : Memᴰ k c.kits = ((units_mem k c.kits).0 (subst (Memᴰ k) H.kits i)).0 in
      ltb-true k.tag two_limit (every_at _ 1 (allb_mem (good_kit (length c.parts)) c.kits k (fitting_fits c fits).kits_good m))

  filled_in : register_length T.register ≡ true → nodes_length T.nodes ≡ true → Brought F (without_empty c)
  filled_in long sized =
      let z : nodes_length F.nodes ≡ true = same_nodes_length T.nodes F.nodes H.nodes_length_lem sized in
      let p = H.parts in
      record {
        both = record {
          ready =
              record {
                fits = same_register_length T.register F.register H.register_length_lem long;
                sound = H.register_sound_lem;
              };
          sized = z;
          sound = rw p ((sound_exactly (length c.parts) F.nodes z).0 H.nodes_sound_lem);
        };
        parts = p;
        kits = sym H.none_empty ∙ H.kits ∙ sym (in_order_already comes_before in_order);
        apart = apart in_order;
        small = small_tags;
      }

-- a call that asks for the lengths and is done was lent tables of right lengths
lengths_good : (T : Tables) (ds : List Case) (w v : ℕ) → decide (lengths T ++ ds) w ≡ done v →
    (register_length T.register ≡ true) × (nodes_length T.nodes ≡ true)
lengths_good T ds w v e = lengths_passed T.register T.nodes (ap is_refused (done_parts (lengths T) ds 0 w v e).0)

-- A sheet read
module _ (s : List ℕ) (T : Tables) (v : ℕ) (h : Bytes s) (e : answer (reading s T) ≡ done v) where
  long : (register_length T.register ≡ true) × (nodes_length T.nodes ≡ true)
  unfolding answer reading
  long = lengths_good T _ _ v e

  pub behind_lengths_lem : answer (read.reading_into s T) ≡ done v
  unfolding answer reading read.reading_into
  behind_lengths_lem = (done_parts (lengths T) _ 0 _ v e).1

  again : (encode (said (decode s)) ≡ s) × (fits_sheet (said (decode s)) ≡ true)
  again = filled.said_again s h (filled.accepted s T v behind_lengths_lem).faultless

  -- the tables that it leaves have just what it takes of the sheet, and their old lengths
  pub what_was_read : filled.Has (without_empty (said (decode s))) T (reading s T).after
  unfolding reading
  what_was_read =
      subst (filled.Has (without_empty (said (decode s))) T) (filled.reading_leaves s h T long.0 long.1 v behind_lengths_lem)
      (filled.reading_has s h T long.0 long.1 v behind_lengths_lem)

  pub read_kept : Brought (reading s T).after (without_empty (said (decode s)))
  read_kept = filled_in (said (decode s)) again.1 T (reading s T).after what_was_read long.0 long.1

  -- it was the sheet of what it said, in listing order
  pub sheet_said : encode (said (decode s)) ≡ s
  sheet_said = again.0

  pub said_rises : Rising Earlier (said (decode s)).kits
  said_rises = sheet_rises (said (decode s)) again.1

-- A torn sheet salvaged
module _ (s : List ℕ) (T : Tables) (v : ℕ) (h : Bytes s) (e : answer (salvaging s T) ≡ done v) where
  pub rescue_lengths : (register_length T.register ≡ true) × (nodes_length T.nodes ≡ true)
  unfolding answer salvaging
  rescue_lengths = lengths_good T _ _ v e

  pub rescue_behind : answer (read.salvaging_into s T) ≡ done v
  unfolding answer salvaging read.salvaging_into
  rescue_behind = (done_parts (lengths T) _ 0 _ v e).1

  -- its front was without fault, and what is kept fits the format
  pub front_faultless : is_fault (salvage s) ≡ false
  unfolding answer read.salvaging_into salvage_refusals
  front_faultless = (done_passes _ _ _ _ rescue_behind).0

  pub rescue_fits : fits_sheet (rescued (salvage s)).kept ≡ true
  rescue_fits = kept_fits s h front_faultless

  pub what_was_rescued : filled.Has (without_empty (rescued (salvage s)).kept) T (salvaging s T).after
  unfolding salvaging
  what_was_rescued =
      subst (filled.Has (without_empty (rescued (salvage s)).kept) T) (salvage_leaves s h T rescue_lengths.0 rescue_lengths.1 v rescue_behind)
      (salvage_has s h T rescue_lengths.0 rescue_lengths.1 v rescue_behind)

  pub rescue_kept : Brought (salvaging s T).after (without_empty (rescued (salvage s)).kept)
  rescue_kept = filled_in (rescued (salvage s)).kept rescue_fits T (salvaging s T).after what_was_rescued rescue_lengths.0 rescue_lengths.1

-- A card read
card_kept : (s : List ℕ) (T : Tables) (m : Contents) (v : ℕ) → Bytes s → answer (reading_card s T) ≡ done v → Brought T m →
    Brought (reading_card s T).after (more m (list_on m.parts (said_card (decode_card s))) (tag_said s))
unfolding reading_card inserting
card_kept s T m v h e b =
    subst (λ (ps : List (List ℕ)). Brought (reading_card s T).after (more m (list_on ps (said_card (decode_card s))) (tag_said s))) b.parts
    (insert_kept (list_said s T) (tag_said s) T m v (said_good s h (card_was s T v e).0).small_tag (card_inserts s T v e) b)

pub done_keeps : (c : Call) (T : Tables) (m : Contents) (v : ℕ) → TypesSay c → answer (plan_of c T) ≡ done v → Brought T m →
    Brought (plan_of c T).after (demand.accepted c m)
unfolding plan_of demand.accepted answer looking_up showing finding counting any_kit
done_keeps empty_both T m v y e b = empty_kept T v e
done_keeps (register_part n) T m v y e b = register_kept n T m v e b
done_keeps (look_up n) T m v y e b = b
done_keeps (show_at p) T m v y e b = b
done_keeps (insert_kit l t) T m v y e b = insert_kept l t T m v (y.tag l t refl) e b
done_keeps (find_kit l) T m v y e b = b
done_keeps (delete_kit l) T m v y e b = delete_kept l T m v e b
done_keeps (count_kits l) T m v y e b = b
done_keeps (any_within l) T m v y e b = b
done_keeps (any_containing l) T m v y e b = b
done_keeps (all_within l o) T m v y e b = b
done_keeps (all_containing l o) T m v y e b = b
done_keeps (all_almost d l o) T m v y e b = b
done_keeps (turn_within l k) T m v y e b = b
done_keeps (turn_containing l k) T m v y e b = b
done_keeps (write_sheet o) T m v y e b = b
done_keeps (read_sheet s) T m v y e b = read_kept s T v (y.bytes s sheet) e
done_keeps (salvage_sheet s) T m v y e b = rescue_kept s T v (y.bytes s torn) e
done_keeps (write_card l o) T m v y e b = b
done_keeps (read_card s) T m v y e b = card_kept s T m v (y.bytes s card) e b

-- A call, done or refused
pub call_keeps : (c : Call) (T : Tables) (m : Contents) → TypesSay c → Brought T m →
    Brought (memory (plan_of c T) T) (step c (answer (plan_of c T)) m)
unfolding memory leaves step
call_keeps c T m y b = go (answer (plan_of c T)) refl
  where
    go : (r : Reply) → answer (plan_of c T) ≡ r → Brought (leaves r T (plan_of c T).after) (step c r m)
    go (done v) e = done_keeps c T m v y e b
    go (refused n v) e = b

-- Many calls
pub calls_keep : (cs : List Call) (T : Tables) (m : Contents) → Every TypesSay cs → Brought T m → Brought (run cs T) (model (log cs T) m)
unfolding run log model
calls_keep [] T m y b = b
calls_keep (c ∷ cs) T m (also y ys) b = calls_keep cs (memory (plan_of c T) T) (step c (answer (plan_of c T)) m) ys (call_keeps c T m y b)

-- A catalogue begun empty
pub begun_empty : (a : Catalogue) → Allowed a → Brought (begun a) (has [] [])
unfolding begun
begun_empty a h =
    let R : List ℕ = replicate (a.slots * slot_bytes) 0 in
    let N : List ℕ = replicate (a.room * words_per_node) 0 in
    subst (λ (Q : List ℕ). Brought (tables R Q) (has [] [])) (zeros_again (a.room * words_per_node))
    (subst (λ (Q : List ℕ). Brought (tables Q (zeroed N)) (has [] [])) (zeros_again (a.slots * slot_bytes))
    (emptied R N
    (slots_fit a.slots R h.some_slot h.few_slots (length-replicate {A = ℕ} (a.slots * slot_bytes) 0))
    (room_fits a.room N h.some_node h.few_nodes (length-replicate {A = ℕ} (a.room * words_per_node) 0))))

pub all_typed : (a : Catalogue) → Allowed a → Every TypesSay a.calls
all_typed a h = mem_every a.calls h.typed

-- The law: the tables of a catalogue are sound and have what its accepted calls left.
pub brought : (a : Catalogue) → Allowed a → Brought (tables_of a) (entered a)
unfolding tables_of entered
brought a h = calls_keep a.calls (begun a) (has [] []) (all_typed a h) (begun_empty a h)
