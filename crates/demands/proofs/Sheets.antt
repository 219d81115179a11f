-- Demand 3: two sheets agree in every byte exactly when the catalogues agree; a sheet read is the sheet written again; no second sheet
-- means the same.
use mathlib.Core.Path.{◌≡◌, sym, ap, ap₂, subst, ◌∙◌}
use mathlib.Core.Logic.{◌↔◌, ⊎_elim}
use mathlib.Core.Bool.{true, false}
use mathlib.Core.List.Memᴰ
use mathlib.Core.List.{List, [], ◌∷◌, ◌++◌, append-nil, append_assoc, Memᴰ}
use Prim.Native.Nat.{ℕ, ◌+◌, ◌≤◌, ◌<◌}
use native.Mathlib.Omega.{arith}
use lib.ListN.{length, take, drop, length-append}
use lib.Seq.{take-append_seam, drop-append_seam}
use Rattle.ground.specs.Lists.{concat}
use Rattle.ground.specs.Laid.{laid}
use Rattle.ground.specs.Calls.{done, is_refused, decide, answer, leaves, memory, Promise, set_down}
use Rattle.ground.proofs.Laid.{laid_front}
use Rattle.ground.proofs.Calls.{set_down_done, set_down_full, leaves_done, decide_behind}
use Rattle.ground.proofs.Laws.{le_or}
use Rattle.kits.specs.Kits.{list_of}
use Rattle.nodes.specs.Held.{Kit, comes_before, kits_in_order, tag_in, some_unit, with_units, listed, all_beginnings}
use Rattle.nodes.proofs.Sorted.{Every, Rising, ahead, every_mem, mem_every, keep_all, rising_keep}
use Rattle.nodes.proofs.Listing.{Earlier, order_rises}
use Rattle.nodes.proofs.Units.{some_unit_is, is_some_unit, no_unit, behind_some_unit, units_no, units_behind, listed_mem, listed_tagged}
use Rattle.nodes.proofs.Ordered.{in_order_already, order_length}
use Rattle.sheet.specs.Bytes.{Bytes, in_bytes, two}
use Rattle.sheet.specs.Sheet.{Contents, without_empty, mark, version, number_items, line_items, record_item, record_items, encode_as, encode}
use Rattle.sheet.specs.Inner.{fits_sheet}
use Rattle.sheet.specs.Reading.{Item, decode, said}
use Rattle.sheet.proofs.Laws.{decode_encode, encode_injective}
use Rattle.sheet_read.specs.Filling.{filling, Roomy}
use Rattle.sheet_read.specs.Inner.{reading_into}
use Rattle.sheet_read.proofs.Reading.{accepted, contents_had}
use Rattle.sheet_read.proofs.RoundTrip.{catalogue_fits, write_then_read, same_catalogue}
use Rattle.ground.specs.Tables.{Tables}
use Rattle.tables.specs.Lent.{lengths, lent_both}
use Rattle.tables.specs.Inner.{SoundTables}
use Rattle.tables.proofs.Lent.{lengths_good, both_passed}
use Rattle.catalogue.specs.Calls.{contents, writing, reading}
use Rattle.catalogue.proofs.Kept.{done_parts}
use Rattle.demands.specs.Model.{has, empty_kit, tables_of, listed_in}
use Rattle.demands.specs.Demand3.{Writes, Agree, SheetsTell, AnySheetsTell, SheetIsWritten, ReadBack, NoEmpty, LeftOut, SameAgain, NoOther, NoSecond}
use Rattle.demands.specs.Demand3.{before_count, AgainWithout}
use Rattle.demands.proofs.Model.{HasTag, tag_order, tags_determine}
use Rattle.demands.proofs.Brought.{Brought, has_its_own, brought, behind_lengths_lem, read_kept, sheet_said, said_rises}
use Rattle.demands.proofs.Counts.{as_many}
use Rattle.demands.proofs.Answers.{has_contents, down_answer, down_memory}

-- Tables that have some contents write their sheet
module _ {T : Tables} {m : Contents} (b : Brought T m) where
  abbrev S : List ℕ
  S = encode (listed_in m)

  pub write_answer : (o : List ℕ) → answer (writing T o) ≡ answer (set_down [] (encode (listed_in m)) o)
  unfolding writing
  write_answer o = let c = has_contents b in let n = append-nil (lent_both T) in rw c (rw n at (down_answer b [] S o))

  write_memory : (o : List ℕ) → memory (writing T o) o ≡ memory (set_down [] (encode (listed_in m)) o) o
  unfolding writing
  write_memory o = let c = has_contents b in let n = append-nil (lent_both T) in rw c (rw n at (down_memory b [] S o))

  pub writes : (o : List ℕ) → length (encode (listed_in m)) ≤ length o → Writes T o (encode (listed_in m))
  writes o h =
      let p : Promise (set_down [] S o) o (done (length S)) (laid o 0 S) = set_down_done S o h in
      let l : memory (writing T o) o ≡ S ++ drop (length S) o = write_memory o ∙ sym p.lent ∙ laid_front o S h in
      record {
        written = write_answer o ∙ sym p.answers;
        is = ap (take (length S)) l ∙ take-append_seam S _;
        behind = ap (drop (length S)) l ∙ drop-append_seam S _;
      }

  -- and no other
  pub written_is : (o s : List ℕ) → Writes T o s → s ≡ encode (listed_in m)
  written_is o s w = ⊎_elim room none (le_or (length S) (length o))
    where
      a : answer (set_down [] S o) ≡ done (length s)
      a = sym (write_answer o) ∙ w.written

      room : length S ≤ length o → s ≡ S
      room h =
          let q = (set_down_done S o h).answers in
          let g = a in
          let l : length s ≡ length S = cc in
          sym w.is ∙ ap (λ (n : ℕ). take n (memory (writing T o) o)) l ∙ (writes o h).is

      none : length o < length S → s ≡ S
      none h = let q = (set_down_full S o h).answers in let g = a in absurd (let z : ◌≡◌ {A = ℕ} 0 1 = cc in omega arith)

  fits : fits_sheet (listed_in m) ≡ true
  fits = subst (λ (c : Contents). fits_sheet c ≡ true) (has_contents b) (catalogue_fits b.both.ready b.both.sound b.small)

  have_tags : Every HasTag (kits_in_order m.kits)
  have_tags = mem_every (kits_in_order m.kits) (λ k i. listed_tagged b.both.sound.shape k (subst (Memᴰ k) (sym b.kits) i))

-- Catalogues agree exactly when they have the same in listing order
module _ {T U : Tables} {m n : Contents} (b : Brought T m) (d : Brought U n) where
  agree_same : Agree m n → listed_in m ≡ listed_in n
  agree_same g =
      let t : (r : List ℕ) → tag_in r (kits_in_order m.kits) ≡ tag_in r (kits_in_order n.kits) = λ r. tag_order r m.kits b.apart ∙ g.kits r
      ∙ sym (tag_order r n.kits d.apart) in
      let p = g.parts in
      let k = tags_determine (kits_in_order m.kits) (kits_in_order n.kits) (order_rises b.apart) (order_rises d.apart) (have_tags b)
      (have_tags d) t in
      rw (p, k)

  same_agree : listed_in m ≡ listed_in n → Agree m n
  same_agree e = record {
    parts = ap (λ (c : Contents). c.parts) e;
    kits = λ r. sym (tag_order r m.kits b.apart) ∙ ap (λ (c : Contents). tag_in r c.kits) e ∙ tag_order r n.kits d.apart;
  }

  sheets_agree : (o p s t : List ℕ) → Writes T o s → Writes U p t → (s ≡ t) ↔ Agree m n
  sheets_agree o p s t x y =
      let e = written_is b o s x in
      let f = written_is d p t y in (
        λ q. same_agree (encode_injective (listed_in m) (listed_in n) (fits b) (fits d) (sym e ∙ q ∙ f)),
        λ g. e ∙ ap encode (agree_same g) ∙ sym f,
      )

pub sheets_tell : SheetsTell
sheets_tell a b o p s t x y = sheets_agree (brought a x) (brought b y) o p s t

-- tables that write a sheet are sound
writer_sound : (T : Tables) (o s : List ℕ) → Writes T o s → SoundTables T
unfolding answer writing set_down
writer_sound T o s w = both_passed T.register T.nodes (ap is_refused (done_parts (lent_both T) _ 0 _ (length s) w.written).0)

pub any_sheets_tell : AnySheetsTell
any_sheets_tell T U o p s t f g x y =
    sheets_agree (has_its_own T (writer_sound T o s x) f) (has_its_own U (writer_sound U p t y) g) o p s t x y

pub sheet_is_written : SheetIsWritten
sheet_is_written a o h r = writes (brought a h) o r

-- What is written is read back
module _ {T U : Tables} {m : Contents} (b : Brought T m) (r : Roomy m U) where
  roomy : Roomy (contents T) U
  roomy = record {
    register_fits = r.register_fits;
    nodes_fit = r.nodes_fit;
    slots = omega (arith, r.slots, ap length b.parts);
    nodes = omega (arith, r.nodes, ap (λ (ks : List Kit). length (all_beginnings ks)) b.kits, as_many m.kits);
  }

  as_many_kits : length (listed T.nodes) ≡ length m.kits
  as_many_kits = ap length b.kits ∙ order_length comes_before m.kits

  -- behind the lengths it is the reading that the sheet's own laws speak of
  lengths_pass : decide (lengths U) 0 ≡ done 0
  lengths_pass = lengths_good U.register U.nodes r.register_fits r.nodes_fit

  same_answer : (s : List ℕ) → answer (reading s U) ≡ answer (reading_into s U)
  unfolding answer reading reading_into
  same_answer s = decide_behind (lengths U) _ 0 _ lengths_pass

  same_memory : (s : List ℕ) → memory (reading s U) U ≡ memory (reading_into s U) U
  unfolding memory reading reading_into
  same_memory s = ap (λ a. leaves a U (filling (without_empty (said (decode s))) U)) (same_answer s)

  back_accepted : answer (reading (encode (contents T)) U) ≡ done (length m.kits)
  back_accepted = same_answer (encode (contents T)) ∙ write_then_read b.both.ready b.both.sound b.small U roomy ∙ ap done as_many_kits

  back_contents : contents (memory (reading (encode (contents T)) U) U) ≡ contents T
  back_contents =
      ap contents (same_memory (encode (contents T))) ∙ contents_had (same_catalogue b.both.ready b.both.sound b.small U roomy)

pub read_back : ReadBack
read_back a o s U h w r =
    let b = brought a h in
    let e : s ≡ encode (contents (tables_of a)) = written_is b o s w ∙ ap encode (sym (has_contents b)) in
    rw e (back_accepted b r, back_contents b r)

-- the tables that a reading leaves
read_in_place : (s : List ℕ) (T : Tables) (k : ℕ) → Bytes s → answer (reading s T) ≡ done k →
    Brought (memory (reading s T) T) (without_empty (said (decode s)))
unfolding memory
read_in_place s T k h e =
    subst (λ (M : Tables). Brought M (without_empty (said (decode s)))) (sym (leaves_done (answer (reading s T)) k T (reading s T).after e))
    (read_kept s T k h e)

-- what is taken of an accepted sheet stands in listing order, and is all where none of its kits is empty
module _ (s : List ℕ) (T : Tables) (k : ℕ) (h : Bytes s) (e : answer (reading s T) ≡ done k) where
  abbrev ks : List Kit
  ks = (said (decode s)).kits

  taken_in_order : listed_in (without_empty (said (decode s))) ≡ without_empty (said (decode s))
  taken_in_order = ap (has (said (decode s)).parts) (in_order_already comes_before (rising_keep some_unit ks (said_rises s T k h e)))

  sheet_again : NoEmpty s → encode (listed_in (without_empty (said (decode s)))) ≡ s
  sheet_again n =
      ap encode (taken_in_order ∙ ap (has (said (decode s)).parts) (keep_all some_unit ks (λ j m. is_some_unit j (n j m)))) ∙ sheet_said s T k h e

pub same_again : SameAgain
same_again T o s k h n e r =
    let q = sheet_again s T k h e n in
    rw q at (writes (read_in_place s T k h e) o (rw q r))

pub no_other : NoOther
no_other T o s t k h n e w = written_is (read_in_place s T k h e) o t w ∙ sheet_again s T k h e n

pub no_second : NoSecond
no_second T U s t k n h i p q e f g =
    sym (sheet_again s T k h e p) ∙ ap encode (agree_same (read_in_place s T k h e) (read_in_place t U n i f) g) ∙ sheet_again t U n i f q

------------------------------------------------------------------------
-- A sheet with an empty kit

-- what is written has none
pub left_out : LeftOut
unfolding said
left_out T o s f w k m =
    let S = writer_sound T o s w in
    let b = has_its_own T S f in
    let e : s ≡ encode (contents T) = written_is b o s w ∙ ap encode (sym (has_contents b)) in
    let d = decode_encode (contents T) (catalogue_fits S.ready S.sound b.small) in
    let i = subst (λ (x : List ℕ). Memᴰ k (said (decode x)).kits) e m in
    ((listed_mem T.nodes k).0 (subst (λ (x : Item Contents). Memᴰ k (said x).kits) d i)).1

-- a sheet, parted before its kit count
parted_sheet : (c : Contents) →
    encode c ≡ before_count c.parts ++ (two (length c.kits) ++ record_items (version (length c.parts)) c.kits)
unfolding encode encode_as
parted_sheet c =
    let v = two (version (length c.parts)) in
    let n = two (length c.parts) in
    let ps = number_items c.parts in
    let rest = two (length c.kits) ++ record_items (version (length c.parts)) c.kits in
    ap (λ (x : List ℕ). mark ++ x) (sym (append_assoc v (n ++ ps) rest ∙ ap (λ (x : List ℕ). v ++ x) (append_assoc n ps rest)))

-- the record of an empty kit: its tag, and no line
empty_record : (w t : ℕ) (ks : List Kit) → record_items w (empty_kit t ∷ ks) ≡ two t ++ (0 ∷ record_items w ks)
unfolding record_items record_item line_items list_of concat
empty_record w t ks = append_assoc (two t) (0 ∷ []) (record_items w ks)

-- in listing order an empty kit stands first, and no other is empty
first_is_empty : (t : ℕ) (ks : List Kit) → Rising Earlier ks → Memᴰ (empty_kit t) ks → ks ≡ empty_kit t ∷ with_units ks
first_is_empty t [] r m = absurd (Memᴰ.not-nil m)
first_is_empty t (k ∷ ks) (ahead e s) m = ⊎_elim
    (λ (q : empty_kit t ≡ k).
    let n : some_unit k ≡ false = no_unit k (ap (λ (j : Kit). length j.row) (sym q)) in
    ap (λ (j : Kit). j ∷ ks) (sym q) ∙ ap (◌∷◌ (empty_kit t)) (sym (units_no k ks n ∙ units_behind (ahead {x = k} e s))))
    (λ i. absurd (let z : 0 < 0 = some_unit_is (empty_kit t) (behind_some_unit k.row (empty_kit t) (every_mem e i)) in omega arith))
    (Memᴰ.cases_cons m)

-- without the record, and the count one less, it is shorter
shorter : (front rest : List ℕ) (n t : ℕ) → length (front ++ (two n ++ rest)) ≤ length (front ++ (two (n + 1) ++ (two t ++ (0 ∷ rest))))
unfolding in_bytes
shorter front rest n t =
    omega (arith, length-append front (two n ++ rest), length-append front (two (n + 1) ++ (two t ++ (0 ∷ rest))))

pub again_without : AgainWithout
again_without T o s k t h e m r =
    let c = said (decode s) in
    let us = with_units c.kits in
    let front = before_count c.parts in
    let rest = record_items (version (length c.parts)) us in
    let f : c.kits ≡ empty_kit t ∷ us = first_is_empty t c.kits (said_rises s T k h e) m in
    let v : length us ≡ k = sym (accepted s T k (behind_lengths_lem s T k h e)).kits in
    let n : length c.kits ≡ k + 1 = omega (arith, ap length f, v) in
    let old : s ≡ front ++ (two (k + 1) ++ (two t ++ (0 ∷ rest))) = sym (sheet_said s T k h e) ∙ parted_sheet c
    ∙ ap₂ (λ (x : ℕ) (bs : List ℕ). front ++ (two x ++ bs)) n (ap (record_items (version (length c.parts))) f ∙ empty_record _ t us) in
    let now : encode (listed_in (without_empty c)) ≡ front ++ (two k ++ rest) = ap encode (taken_in_order s T k h e) ∙ parted_sheet (without_empty c)
    ∙ ap (λ (x : ℕ). front ++ (two x ++ rest)) v in
    let room : length (front ++ (two k ++ rest)) ≤ length o = omega (arith, shorter front rest k t, ap length old, r) in
    (old, rw now at (writes (read_in_place s T k h e) o (rw now room)))
