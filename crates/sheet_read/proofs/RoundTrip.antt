-- Read and written again, with room, a sheet without an empty kit is the same sheet; written and read again, with room, a catalogue is the same catalogue.
use mathlib.Core.Path.{◌≡◌, refl, ap, sym, subst, ◌∙◌}
use mathlib.Core.Bool.{true, not}
use mathlib.Core.List.Memᴰ
use mathlib.Core.List.{List, map, Memᴰ}
use Prim.Native.Nat.{ℕ, ◌≤◌, ◌<◌}
use native.Mathlib.Omega.{arith}
use lib.ListN.{length, get_or, length-map}
use borrow.Author.Tests.{le-ltb}
use Rattle.ground.specs.Limits.{two_limit}
use Rattle.ground.specs.Lists.{allb, distinct, eq_list, keep, from}
use Rattle.ground.specs.Laid.{laid}
use Rattle.ground.specs.Calls.{done, answer, decide, memory}
use Rattle.ground.proofs.Laws.{every_at, length_from}
use Rattle.ground.proofs.Calls.{leaves_done, set_down_done}
use Rattle.register.specs.Number.{good_number}
use Rattle.register.specs.Register.{slot_count, slot_good, number_at, parts_of, none_twice, register_length, register_sound, register_of}
use Rattle.register.specs.Inner.{Ready}
use Rattle.register.proofs.Sound.{Holds, few_slots, ready_holds, holds_parts}
use Rattle.register.proofs.Laws.{sound_is_built}
use Rattle.nodes.specs.Nodes.{at, tag_word, size, nodes_length, nodes_of, tagged}
use Rattle.nodes.specs.Inner.{Shape, Sound}
use Rattle.nodes.specs.Held.{Kit, comes_before, kit_at, held, listed, some_unit, with_units}
use Rattle.nodes.proofs.Lists.{kept_and_not}
use Rattle.nodes.proofs.Sorted.{Rising, rising_keep, rising_weaken, no_longer, from_mem, mem_allb}
use Rattle.nodes.proofs.Listing.{OtherTag, earlier_other}
use Rattle.nodes.proofs.Ordered.{order_mem}
use Rattle.nodes.proofs.Held.{held_rises, held_holds, held_tags_differ}
use Rattle.nodes.proofs.Units.{listed_mem, held_and_listed, listed_rises, listed_good, listed_tagged}
use Rattle.sheet.specs.Bytes.{Bytes}
use Rattle.sheet.specs.Sheet.{Contents, contents_of, without_empty, encode}
use Rattle.sheet.specs.Inner.{good_kit, fits_sheet}
use Rattle.sheet.specs.Reading.{decode, is_fault, said}
use Rattle.sheet.specs.Calls.{writing_of, sheet_refusals, room_refusals}
use Rattle.sheet.proofs.Fits.{fits_fitting, earlier_rising, apart_tags}
use Rattle.sheet.proofs.Emptied.{contents_without}
use Rattle.sheet.proofs.Laws.{decode_encode}
use Rattle.ground.specs.Tables.{Tables}
use Rattle.sheet_read.specs.Filling.{filling, Roomy}
use Rattle.sheet_read.specs.Inner.{reading_into}
use Rattle.sheet_read.proofs.Listed.{fits_kit}
use Rattle.sheet_read.proofs.Reading.{Has, filling_has, reading_again}

-- Writing into an output with room
written : (c : Contents) (o : List ℕ) → length (encode c) ≤ length o →
    (answer (writing_of c o) ≡ done (length (encode c))) × (memory (writing_of c o) o ≡ laid o 0 (encode c))
unfolding writing_of
written c o h = let p = set_down_done (encode c) o h in (sym p.answers, sym p.lent)

-- A sheet without an empty kit that was read is written again, byte for byte, into any output with room
pub read_then_write : (s : List ℕ) → Bytes s → without_empty (said (decode s)) ≡ said (decode s) → (T : Tables) →
    register_length T.register ≡ true → nodes_length T.nodes ≡ true → (v : ℕ) → answer (reading_into s T) ≡ done v → (o : List ℕ) → length s ≤ length o →
    (answer (writing_of (contents_of (memory (reading_into s T) T).register (memory (reading_into s T) T).nodes) o) ≡ done (length s))
    × (memory (writing_of (contents_of (memory (reading_into s T) T).register (memory (reading_into s T) T).nodes) o) o ≡ laid o 0 s)
read_then_write s b n T f g v e o h =
    let q = reading_again s b T f g v e n in
    rw q at (written (contents_of (memory (reading_into s T) T).register (memory (reading_into s T) T).nodes) o (rw q h))

-- each tag of a kit held is a 16-bit number, as it is in a table of 16-bit words
abbrev pub SmallTags : List ℕ → Type 0
SmallTags N = (k : Kit) → Memᴰ k (held N) → k.tag < two_limit

pub words_small : {parts : ℕ} {N : List ℕ} → Shape parts N → ((i : ℕ) → get_or N i 0 < two_limit) → SmallTags N
words_small S words k m = let h = held_holds S k m in omega (arith, h.has, words (at h.node tag_word))

-- What a sound catalogue has fits the format
module _ {R N : List ℕ} (ready : Ready R) (sound : Sound (length (parts_of R)) N) (small : SmallTags N) where
  H : Holds R (length (parts_of R))
  H = ready_holds R ready

  parts_good : allb good_number (parts_of R) ≡ true
  unfolding number_at slot_good
  parts_good = mem_allb good_number (parts_of R) (λ p m.
      let j = Memᴰ.of_map (number_at R) (from 0 (length (parts_of R))) (subst (Memᴰ p) (holds_parts R (length (parts_of R)) H) m) in
      subst (λ (x : List ℕ). good_number x ≡ true) j.2
      (every_at _ 0 (H.good j.0 (omega (arith, from_mem (length (parts_of R)) 0 j.0 j.1)))))

  parts_once : distinct eq_list (parts_of R) ≡ true
  unfolding register_sound none_twice
  parts_once = every_at _ 3 ready.sound

  few_held : length (held N) ≤ size N
  unfolding held nodes_of
  few_held =
      let ends = keep (tagged N) (from 0 (size N)) in
      omega (
        arith,
        no_longer (held N) (map (kit_at N) ends)
            (rising_weaken (λ a b h e. earlier_other a b h (ap (λ (k : Kit). k.row) e)) (held_rises sound.shape))
            (λ k m. order_mem comes_before k (map (kit_at N) ends) m),
        length-map ends (kit_at N),
        kept_and_not (tagged N) (λ i. not (tagged N i)) (λ i. refl) (from 0 (size N)),
        length_from 0 (size N),
      )

  tags_listed : Rising OtherTag (listed N)
  unfolding listed
  tags_listed = rising_keep some_unit (held N) (held_tags_differ sound)

  pub catalogue_fits : fits_sheet (contents_of R N) ≡ true
  catalogue_fits = fits_fitting (contents_of R N) (record {
    few_parts_lem = omega (arith, H.inside, few_slots R ready.fits);
    numbers_good = parts_good;
    numbers_once = parts_once;
    few_kits = omega (arith, few_held, held_and_listed sound.shape, sound.shape.sized.most);
    kits_good = mem_allb (good_kit (length (parts_of R))) (listed N) (λ k m.
        fits_kit (length (parts_of R)) k (record { row = listed_good sound.shape k m; some_tag_lem = listed_tagged sound.shape k m })
        (small k ((listed_mem N k).0 m).0));
    tags_once = apart_tags tags_listed;
    kits_rise = earlier_rising (listed_rises sound.shape);
  })

  -- Its sheet, read into tables that have room
  module _ (T : Tables) (room : Roomy (contents_of R N) T) where
    abbrev S : List ℕ
    S = encode (contents_of R N)

    pub write_then_read : answer (reading_into (encode (contents_of R N)) T) ≡ done (length (listed N))
    unfolding reading_into sheet_refusals room_refusals answer decide is_fault said
    write_then_read =
        let d = decode_encode (contents_of R N) catalogue_fits in
        let n : with_units (listed N) ≡ listed N = ap (λ (c : Contents). c.kits) (contents_without R N) in
        let l = le-ltb (slot_count T.register) (length (parts_of R)) room.slots in
        let k = le-ltb (size T.nodes) _ room.nodes in
        rw (d, l, k, n)

    leaves : memory (reading_into (encode (contents_of R N)) T) T ≡ filling (contents_of R N) T
    unfolding memory reading_into said
    leaves =
        let d = decode_encode (contents_of R N) catalogue_fits in
        leaves_done (answer (reading_into S T)) (length (listed N)) T (filling (without_empty (said (decode S))) T) write_then_read
        ∙ (rw d (ap (λ (c : Contents). filling c T) (contents_without R N)))

    pub same_catalogue : Has (contents_of R N) T (memory (reading_into (encode (contents_of R N)) T) T)
    same_catalogue = subst (Has (contents_of R N) T) (sym leaves) (filling_has (contents_of R N) catalogue_fits (contents_without R N) T room)

    -- with as many slots as before, the register is the same in every byte
    pub same_register : slot_count T.register ≡ slot_count R → (memory (reading_into (encode (contents_of R N)) T) T).register ≡ R
    unfolding filling
    same_register e = ap (λ (M : Tables). M.register) leaves ∙ ap (λ (n : ℕ). register_of n (parts_of R)) e ∙ sym (sound_is_built R ready)
