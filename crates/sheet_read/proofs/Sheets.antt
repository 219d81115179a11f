-- What is kept of a sheet stands in it; and what taking it in promises.
use mathlib.Core.Path.{◌≡◌, refl, ap, sym, subst, ◌∙◌}
use mathlib.Core.Bool.{Bool, true, false}
use Rattle.std.specs.Prelude.{Ok}
use mathlib.Core.List.{List, [], ◌∷◌, ◌++◌, append_assoc}
use Prim.Native.Nat.{ℕ, zero, suc, ◌+◌, ◌^◌, ◌≤◌, ◌<◌}
use native.Mathlib.Nat.{add-zero}
use native.Mathlib.Omega.{arith}
use lib.ListN.{length, take, drop, get_or, length-append}
use lib.Seq.{drop-drop, get_or-drop, take-append_seam, drop-append_seam}
use borrow.Author.Tests.{lt-ltb, le-ltb}
use Rattle.ground.specs.Limits.{byte_limit}
use Rattle.ground.specs.Lists.{allb, concat}
use Rattle.ground.specs.Laid.{zeroed}
use Rattle.ground.specs.Calls.{done, refused, decide, answer, Promise}
use Rattle.ground.proofs.Laws.{and_left, and_right}
use Rattle.ground.proofs.Calls.{promise_refused, promise_done}
use Rattle.register.specs.Number.{longest_number, good_number}
use Rattle.register.specs.Register.{slot_count, register_length, register_of}
use Rattle.register.proofs.Slots.{number_short}
use Rattle.nodes.specs.Nodes.{size, nodes_length}
use Rattle.nodes.specs.Held.{Kit, with_units}
use Rattle.index_insert.specs.Enter.{enter_all}
use Rattle.sheet.specs.Bytes.{in_bytes, two_bytes, two, Bytes}
use Rattle.sheet.specs.Sheet.{Contents, place_bytes, number_item, number_items, record_item, record_items, slots_needed, nodes_needed}
use Rattle.sheet.specs.Inner.{good_kit, fits_sheet, head_bytes}
use Rattle.sheet.specs.Reading.{Item, item, fault, record_size, kit_in, Salvage, salvage, rescued}
use Rattle.sheet.specs.Calls.{room_refusals}
use Rattle.sheet.proofs.Widths.{version_width, version_room}
use Rattle.sheet.proofs.Fits.{Fits, fitting_fits}
use Rattle.sheet.proofs.Written.{kit_back, record_size_lem}
use Rattle.sheet.proofs.Accepted.{torn_sheet}
use Rattle.sheet.proofs.Torn.{Torn, torn}
use Rattle.sheet.proofs.Laws.{fit_fitting}
use Rattle.sheet.specs.Inner.{numbers_at, end_at, record_at}
use Rattle.sheet_judge.specs.Inner.{judged_of, sheet_of, run_to}
use Rattle.sheet_judge.specs.declared.Found.{Found}
use Rattle.ground.specs.Tables.{tables}
use Rattle.sheet_read.specs.Filling.{filling}
use Rattle.sheet_read.specs.Inner.{taking_in, kits_read, end_read, NumbersStand, KitsStand}

-- Numbers that stand from a place on
number_on : (s : List ℕ) (at : ℕ) (p : List ℕ) (ps : List (List ℕ)) (rest : List ℕ) → drop at s ≡ number_items (p ∷ ps) ++ rest →
    (get_or s at 0 ≡ length p) × (take (length p) (drop (at + 1) s) ≡ p) × (drop (at + 1 + length p) s ≡ number_items ps ++ rest)
unfolding number_items concat number_item
number_on s at p ps rest h =
    let e : drop at s ≡ length p ∷ (p ++ (number_items ps ++ rest)) = h ∙ ap (◌∷◌ (length p)) (append_assoc p (number_items ps) rest) in
    let g : get_or s at 0 ≡ length p = sym (rw add-zero at (get_or-drop at s 0 0)) ∙ ap (λ (l : List ℕ). get_or l 0 0) e in
    let d : drop (at + 1) s ≡ p ++ (number_items ps ++ rest) = sym (drop-drop 1 at s) ∙ ap (drop 1) e in (
      g,
      ap (take (length p)) d ∙ take-append_seam p (number_items ps ++ rest),
      sym (drop-drop (length p) (at + 1) s) ∙ ap (drop (length p)) d
          ∙ drop-append_seam p (number_items ps ++ rest),
    )

items_long : (p : List ℕ) (ps : List (List ℕ)) → length (number_items (p ∷ ps)) ≡ 1 + length p + length (number_items ps)
unfolding number_items concat number_item
items_long p ps = omega (arith, length-append p (number_items ps))

record Stand (s : List ℕ) (at : ℕ) (ps : List (List ℕ)) : Type 0 where
  are : numbers_at s at (length ps) ≡ ps
  end : end_at s at (length ps) ≡ at + length (number_items ps)
  short : (k : ℕ) → k < length ps → get_or s (end_at s at k) 0 ≤ longest_number

numbers_cons : (s : List ℕ) (at k : ℕ) →
    numbers_at s at (suc k) ≡ take (get_or s at 0) (drop (at + 1) s) ∷ numbers_at s (at + 1 + get_or s at 0) k
unfolding numbers_at
numbers_cons s at k = refl

end_cons : (s : List ℕ) (at k : ℕ) → end_at s at (suc k) ≡ end_at s (at + 1 + get_or s at 0) k
unfolding end_at
end_cons s at k = refl

stand_none : (s : List ℕ) (at : ℕ) → Stand s at []
unfolding numbers_at end_at number_items concat
stand_none s at = record { are = refl; end = omega arith; short = λ k u. absurd (omega arith) }

end_start : (s : List ℕ) (at : ℕ) → end_at s at 0 ≡ at
unfolding end_at
end_start s at = refl

stand_on : (s : List ℕ) (at : ℕ) (p : List ℕ) (ps : List (List ℕ)) → get_or s at 0 ≡ length p → take (length p) (drop (at + 1) s) ≡ p →
    length p ≤ longest_number → Stand s (at + 1 + length p) ps → Stand s at (p ∷ ps)
stand_on s at p ps e f l n = record {
  are = numbers_cons s at (length ps) ∙ rw (e, f) (ap (◌∷◌ p) n.are);
  end = end_cons s at (length ps) ∙ rw e (n.end ∙ (omega (arith, items_long p ps)));
  short = go;
}
  where
    go : (k : ℕ) → k < length (p ∷ ps) → get_or s (end_at s at k) 0 ≤ longest_number
    go zero u = rw (end_start s at) (omega arith)
    go (suc k) u = rw (end_cons s at k, e) (n.short k (omega arith))

stand : (s : List ℕ) (at : ℕ) (ps : List (List ℕ)) (rest : List ℕ) → allb good_number ps ≡ true → drop at s ≡ number_items ps ++ rest →
    Stand s at ps
unfolding allb
stand s at [] rest g h = stand_none s at
stand s at (p ∷ ps) rest g h =
    let o = number_on s at p ps rest h in
    stand_on s at p ps o.0 o.1 (number_short p (and_left (good_number p) (allb good_number ps) g))
    (stand s (at + 1 + length p) ps rest (and_right (good_number p) (allb good_number ps) g) o.2)

-- Kit records that stand from a place on
record KitsAre (w : ℕ) (s : List ℕ) (at : ℕ) (ks : List Kit) : Type 0 where
  are : kits_read w s at (length ks) ≡ ks
  end : end_read w s at (length ks) ≡ at + length (record_items w ks)

kits_cons : (w : ℕ) (s : List ℕ) (at k : ℕ) →
    kits_read w s at (suc k) ≡ kit_in w (record_at w s at) ∷ kits_read w s (at + record_size w (drop at s)) k
unfolding kits_read
kits_cons w s at k = refl

read_cons : (w : ℕ) (s : List ℕ) (at k : ℕ) → end_read w s at (suc k) ≡ end_read w s (at + record_size w (drop at s)) k
unfolding end_read
read_cons w s at k = refl

records_cons : (w : ℕ) (k : Kit) (ks : List Kit) → record_items w (k ∷ ks) ≡ record_item w k ++ record_items w ks
unfolding record_items concat
records_cons w k ks = refl

kits_none : (w : ℕ) (s : List ℕ) (at : ℕ) → KitsAre w s at []
unfolding kits_read end_read record_items concat
kits_none w s at = record { are = refl; end = omega arith }

kits_are : (w : ℕ) (s : List ℕ) (n at : ℕ) (ks : List Kit) (rest : List ℕ) → n < byte_limit ^ w → allb (good_kit n) ks ≡ true →
    drop at s ≡ record_items w ks ++ rest → KitsAre w s at ks
unfolding allb
kits_are w s n at [] rest room g h = kits_none w s at
kits_are w s n at (k ∷ ks) rest room g h =
    let good : good_kit n k ≡ true = and_left (good_kit n k) (allb (good_kit n) ks) g in
    let X = record_item w k in
    let Y = record_items w ks ++ rest in
    let e : drop at s ≡ X ++ Y = h ∙ ap (λ (x : List ℕ). x ++ rest) (records_cons w k ks) ∙ append_assoc X (record_items w ks) rest in
    let z : record_size w (drop at s) ≡ length X = ap (record_size w) e ∙ record_size_lem w n room k good Y in
    let r : record_at w s at ≡ X = rw (z, e) (take-append_seam X Y) in
    let d : drop (at + length X) s ≡ Y = sym (drop-drop (length X) at s) ∙ ap (drop (length X)) e ∙ drop-append_seam X Y in
    let i = kits_are w s n (at + length X) ks rest room (and_right (good_kit n k) (allb (good_kit n) ks) g) d in
    record {
      are = kits_cons w s at (length ks) ∙ rw (r, z, kit_back w n room k good) (ap (◌∷◌ k) i.are);
      end =
          read_cons w s at (length ks) ∙ rw z
          (i.end ∙ (omega (arith, ap length (records_cons w k ks), length-append X (record_items w ks))));
    }

-- What is kept of a sheet stands in it
module _ (c : Contents) (fits : fits_sheet c ≡ true) (m : ℕ) (rest : List ℕ) where
  abbrev S : List ℕ
  S = torn_sheet m c rest

  abbrev w : ℕ
  w = place_bytes (length c.parts)

  abbrev tail : List ℕ
  tail = two m ++ (record_items w c.kits ++ rest)

  F : Fits c
  F = fitting_fits c fits

  behind_head_lem : drop head_bytes S ≡ number_items c.parts ++ tail
  unfolding in_bytes
  behind_head_lem = refl

  parts_stand : Stand S head_bytes c.parts
  parts_stand = stand S head_bytes c.parts tail F.numbers_good behind_head_lem

  abbrev first : ℕ
  first = head_bytes + length (number_items c.parts) + two_bytes

  behind_count : drop first S ≡ record_items w c.kits ++ rest
  unfolding in_bytes
  behind_count =
      let P = number_items c.parts in
      let e : drop (head_bytes + length P) S ≡ tail = sym (drop-drop (length P) head_bytes S) ∙ ap (drop (length P))
      behind_head_lem ∙ drop-append_seam P tail in
      sym (drop-drop 2 (head_bytes + length P) S) ∙ ap (drop 2) e

  records_stand : KitsAre w S first c.kits
  records_stand =
      kits_are w S (length c.parts) first c.kits rest (version_room (length c.parts) F.few_parts_lem) F.kits_good behind_count

  sheet_long : first + length (record_items w c.kits) ≤ length S
  unfolding in_bytes
  sheet_long = omega (arith, length-append (number_items c.parts) tail, length-append (record_items w c.kits) rest)

  pub parts_read : numbers_at S head_bytes (length c.parts) ≡ c.parts
  parts_read = parts_stand.are

  first_record : end_at S head_bytes (length c.parts) + two_bytes ≡ first
  first_record = omega (arith, parts_stand.end)

  pub kits_read_lem :
      kits_read (place_bytes (length c.parts)) S (end_at S head_bytes (length c.parts) + two_bytes)
      (length c.kits) ≡ c.kits
  kits_read_lem = rw first_record records_stand.are

  pub numbers_ready : (R : List ℕ) → register_length R ≡ true → slots_needed c ≤ slot_count R →
      NumbersStand S (length c.parts) R
  numbers_ready R h r = record { fits = h; slots = r; inside = omega (arith, parts_stand.end, sheet_long); short = parts_stand.short }

  pub kits_ready : (N : List ℕ) → nodes_length N ≡ true → nodes_needed c ≤ size N →
      KitsStand (place_bytes (length c.parts)) S (end_at S head_bytes (length c.parts) + two_bytes)
      (length c.kits) N
  kits_ready N h r =
      let e = kits_read_lem in
      record {
        width = version_width (length c.parts);
        parts = length c.parts;
        few = F.few_parts_lem;
        inside = rw first_record (omega (arith, records_stand.end, sheet_long));
        good = rw e F.kits_good;
        unlike = rw e F.tags_once;
        rises = rw e F.kits_rise;
        fits = h;
        room = rw e r;
      }

-- A sheet without a fault up to its kit count, as the judge tells it
pub record Salvageable (s : List ℕ) (f : Found) : Type 0 where
  pub saved : Salvage
  pub rest : List ℕ
  pub behind : ℕ
  pub read : salvage s ≡ item saved rest behind
  pub parts : f.sheet.parts ≡ length saved.kept.parts
  pub announced : f.sheet.kits ≡ saved.announced
  pub kits : f.run.kept ≡ length saved.kept.kits
  pub nodes : f.run.nodes ≡ nodes_needed saved.kept
  pub end : f.run.end ≡ saved.stopped

pub salvageable : (s : List ℕ) (f : Found) → Ok f ≡ judged_of (salvage s) → Salvageable s f
unfolding judged_of
salvageable s f e = go (salvage s) refl e
  where
    go : (m : Item Salvage) → salvage s ≡ m → Ok f ≡ judged_of m → Salvageable s f
    go (item x bs o) d q =
        let p : f ≡ record { sheet = sheet_of x; run = run_to x.kept.kits x.stopped } = cc in
        record {
          saved = x;
          rest = bs;
          behind = o;
          read = d;
          parts = ap (λ (y : Found). y.sheet.parts) p;
          announced = ap (λ (y : Found). y.sheet.kits) p;
          kits = ap (λ (y : Found). y.run.kept) p;
          nodes = ap (λ (y : Found). y.run.nodes) p;
          end = ap (λ (y : Found). y.run.end) p;
        }
    go (fault o) d q = absurd (let z : ◌≡◌ {A = Bool} true false = cc in cc)

pub is_torn : {s : List ℕ} {f : Found} (F : Salvageable s f) → Bytes s → (k : ℕ) × Torn s F.saved k F.rest
is_torn {s = s} F b = torn s b F.saved F.rest F.behind F.read

-- What taking it in promises
module _ {s : List ℕ} {f : Found} (F : Salvageable s f) (R N : List ℕ) where
  abbrev c : Contents
  c = F.saved.kept

  pub what_kept : rescued (salvage s) ≡ F.saved
  unfolding rescued
  what_kept = let e = F.read in rw e

  pub taking_slots : (n : ℕ) → n ≡ f.sheet.parts → slot_count R < n →
      Promise (taking_in (rescued (salvage s)).kept (tables R N)) (tables R N) (refused 12 n) (tables R N)
  unfolding taking_in room_refusals answer decide
  taking_slots n e h =
      let w = what_kept in
      let l = lt-ltb (slot_count R) (length c.parts) (omega (arith, F.parts)) in
      promise_refused (taking_in (rescued (salvage s)).kept (tables R N)) (tables R N) 12 n (rw (w, l) (ap (refused 12) (sym (e ∙ F.parts))))

  pub taking_nodes : f.sheet.parts ≤ slot_count R → size N < f.run.nodes →
      Promise (taking_in (rescued (salvage s)).kept (tables R N)) (tables R N) (refused 12 f.run.nodes) (tables R N)
  unfolding taking_in room_refusals answer decide
  taking_nodes slots h =
      let w = what_kept in
      let l = le-ltb (slot_count R) (length c.parts) (omega (arith, F.parts)) in
      let k = lt-ltb (size N) (nodes_needed c) (omega (arith, F.nodes)) in
      promise_refused (taking_in (rescued (salvage s)).kept (tables R N)) (tables R N) 12 f.run.nodes
      (rw (w, l, k) (ap (refused 12) (sym F.nodes)))

  -- with room for both: what stands in the sheet is what is kept
  module _ (b : Bytes s) (n m : ℕ) (parts : n ≡ f.sheet.parts) (kits : m ≡ f.run.kept) (slots : n ≤ slot_count R) (nodes : f.run.nodes ≤ size N) where
    again : torn_sheet F.saved.announced F.saved.kept F.rest ≡ s
    again = sym (is_torn F b).1.splits

    kept_fits : fits_sheet F.saved.kept ≡ true
    kept_fits = fit_fitting F.saved.kept (is_torn F b).1.fit

    part_count : n ≡ length F.saved.kept.parts
    part_count = parts ∙ F.parts

    kit_count : m ≡ length F.saved.kept.kits
    kit_count = kits ∙ F.kits

    pub numbers_stand : register_length R ≡ true → NumbersStand s n R
    numbers_stand h =
        let q = part_count in
        subst (λ (x : List ℕ). NumbersStand x n R) again
        (rw q (numbers_ready c kept_fits F.saved.announced F.rest R h (omega arith)))

    pub kits_stand : nodes_length N ≡ true → KitsStand (place_bytes n) s (end_at s head_bytes n + two_bytes) m N
    kits_stand h =
        let q = part_count in
        let p = kit_count in
        subst (λ (x : List ℕ). KitsStand (place_bytes n) x (end_at x head_bytes n + two_bytes) m N) again
        (rw (q, p) (kits_ready c kept_fits F.saved.announced F.rest N h (omega (arith, F.nodes))))

    parts_kept : numbers_at s head_bytes n ≡ F.saved.kept.parts
    parts_kept =
        let q = part_count in
        subst (λ (x : List ℕ). numbers_at x head_bytes n ≡ c.parts) again (rw q (parts_read c kept_fits F.saved.announced F.rest))

    kits_kept : kits_read (place_bytes n) s (end_at s head_bytes n + two_bytes) m ≡ F.saved.kept.kits
    kits_kept =
        let q = part_count in
        let p = kit_count in
        subst (λ (x : List ℕ). kits_read (place_bytes n) x (end_at x head_bytes n + two_bytes) m ≡ c.kits) again
        (rw (q, p) (kits_read_lem c kept_fits F.saved.announced F.rest))

    pub taking_done : (P Q : List ℕ) (v : ℕ) → P ≡ register_of (slot_count R) (numbers_at s head_bytes n) →
        v ≡ length (with_units (kits_read (place_bytes n) s (end_at s head_bytes n + two_bytes) m)) →
        Q ≡ enter_all (zeroed N) (with_units (kits_read (place_bytes n) s (end_at s head_bytes n + two_bytes) m)) →
        Promise (taking_in (rescued (salvage s)).kept (tables R N)) (tables R N) (done v) (tables P Q)
    unfolding taking_in room_refusals answer decide filling
    taking_done P Q v p i q =
        let w = what_kept in
        let l = le-ltb (slot_count R) (length c.parts) (omega (arith, F.parts)) in
        let k = le-ltb (size N) (nodes_needed c) (omega (arith, F.nodes)) in
        let x : P ≡ register_of (slot_count R) c.parts = p ∙ ap (register_of (slot_count R)) parts_kept in
        let z : v ≡ length (with_units c.kits) = i ∙ ap (λ (ks : List Kit). length (with_units ks)) kits_kept in
        let y : Q ≡ enter_all (zeroed N) (with_units c.kits) = q ∙ ap (λ (ks : List Kit). enter_all (zeroed N) (with_units ks)) kits_kept in
        promise_done (taking_in (rescued (salvage s)).kept (tables R N)) (tables R N) v (tables P Q)
        (rw (w, l, k) (ap done (sym z))) (rw (x, y, w) refl)
