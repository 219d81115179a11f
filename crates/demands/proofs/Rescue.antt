-- Request 12: salvage of a faultless sheet is reading it, and of a torn one, reading of a sheet with just the kits kept; what it reports.
use mathlib.Core.Path.{◌≡◌, refl, ap, sym, subst, ◌∙◌}
use mathlib.Core.Logic.{◌⊎◌, inl, inr, ⊎_elim}
use mathlib.Core.Bool.{Bool, true, false, cond, false≢true}
use mathlib.Core.List.{List, [], ◌++◌, append_assoc, append-nil}
use Prim.Native.Nat.{ℕ, ◌+◌, ◌^◌, ◌≤◌, ◌<◌}
use native.Mathlib.Omega.{arith}
use lib.ListN.{length, take}
use lib.Dec.{ltb}
use borrow.Author.Tests.{le-ltb, lt-ltb, ltb-false, ltb-true}
use Rattle.ground.specs.Lists.{concat}
use Rattle.ground.specs.Calls.{Plan, plan, Reply, done, refused, decide, answer, memory, number_of, value_of}
use Rattle.ground.specs.Tables.{Tables}
use Rattle.ground.proofs.Calls.{done_passes, leaves_done, refusal_keeps, decide_behind}
use Rattle.register.specs.Register.{register_length, slot_count}
use Rattle.nodes.specs.Nodes.{nodes_length, size}
use Rattle.nodes.specs.Held.{comes_before, some_unit}
use Rattle.nodes.proofs.Sorted.{rising_keep}
use Rattle.nodes.proofs.Ordered.{in_order_already}
use Rattle.sheet.specs.Bytes.{Bytes, two}
use Rattle.sheet.specs.Sheet.{Contents, without_empty, mark, version, number_items, record_items, encode, slots_needed, nodes_needed}
use Rattle.sheet.specs.Inner.{fits_sheet}
use Rattle.sheet.specs.Reading.{Item, item, fault, onward, Front, front, run_of, decode, is_fault, offset, said, Salvage, salvaged, salvage, rescued}
use Rattle.sheet.specs.Calls.{room_refusals, salvage_refusals, report_of}
use Rattle.sheet.proofs.Numbers.{bytes_take}
use Rattle.sheet.proofs.Emptied.{fits_without}
use Rattle.sheet.proofs.Laws.{decode_encode}
use Rattle.sheet.proofs.Torn.{salvage_of_fault, salvage_refused, rescued_torn, parted_at_stop, torn_or_whole}
use Rattle.sheet_read.specs.Filling.{Roomy}
use Rattle.sheet_read.specs.Inner.{reading_into, salvaging_into}
use Rattle.sheet_read.proofs.Reading.{contents_had, room_given, fault_exactly}
use Rattle.sheet_read.proofs.Rescued.{kept_fits, salvage_reads_rest, salvage_of_faultless, salvage_is_reading}
use Rattle.sheet_faults.specs.Faults.{front_items, kit_items, width_of, whole_items}
use Rattle.sheet_faults.proofs.Torn.{longest_run, salvaged_at_cut}
use Rattle.tables.specs.Lent.{lengths}
use Rattle.tables.proofs.Lent.{lengths_good}
use Rattle.catalogue.specs.Calls.{contents, reading, salvaging, salvage_sheet, plan_of}
use Rattle.demands.specs.Model.{has, listed_in}
use Rattle.demands.specs.Demand1.{LengthWrong, asks_of, the_lengths}
use Rattle.demands.specs.Rescue.{kept_from, sheet_kept, report_in, reports, SalvageIsReading, SalvageKeeps, SalvageExactly, SalvageHasKept}
use Rattle.demands.specs.Rescue.{ThirteenExactly, TwelveExactly, SalvageReports, ReportFits, KeepsLongest, FirstFault}
use Rattle.demands.specs.Rescue.{CutAnywhere, WrittenAfter, TornNotAccepted}
use Rattle.demands.proofs.Brought.{Brought, sheet_rises, front_faultless, rescue_behind, rescue_fits, rescue_lengths, what_was_rescued, rescue_kept}
use Rattle.demands.proofs.Damaged.{one_exactly}
use Rattle.demands.proofs.Sheets.{writes}
use Rattle.demands.proofs.Offsets.{stopped_near}
use Rattle.demands.proofs.Values.{salvaging_small}

------------------------------------------------------------------------
-- As plans: the lengths, and then the call that the laws of the sheet speak of

abbrev behind_lengths : Tables → Plan Tables → Plan Tables
behind_lengths T p = plan (lengths T ++ p.cases) p.value p.after

salvaging_is : (s : List ℕ) (T : Tables) → salvaging s T ≡ behind_lengths T (salvaging_into s T)
unfolding salvaging salvaging_into
salvaging_is s T = refl

reading_is : (s : List ℕ) (T : Tables) → reading s T ≡ behind_lengths T (reading_into s T)
unfolding reading reading_into
reading_is s T = refl

same_plan : (s x : List ℕ) (T : Tables) → salvaging_into s T ≡ reading_into x T → salvaging s T ≡ reading x T
same_plan s x T e = salvaging_is s T ∙ ap (behind_lengths T) e ∙ sym (reading_is x T)

past : (T : Tables) (p : Plan Tables) → (register_length T.register ≡ true) × (nodes_length T.nodes ≡ true) →
    answer (behind_lengths T p) ≡ answer p
unfolding answer
past T p r = decide_behind (lengths T) p.cases 0 p.value (lengths_good T.register T.nodes r.0 r.1)

-- the report, of either answer
reported_done : (s : List ℕ) (T : Tables) (k : ℕ) → answer (salvaging s T) ≡ done k →
    report_in s T ≡ reports k (rescued (salvage s)).announced (rescued (salvage s)).stopped
unfolding report_of
reported_done s T k e = ap (λ (r : Reply). report_of r (rescued (salvage s))) e

reported_none : (s : List ℕ) (T : Tables) (n v : ℕ) → answer (salvaging s T) ≡ refused n v → report_in s T ≡ reports 0 0 v
unfolding report_of
reported_none s T n v e = ap (λ (r : Reply). report_of r (rescued (salvage s))) e

reports_same : {k n m o p : ℕ} → n ≡ m → o ≡ p → reports k n o ≡ reports k m p
reports_same {k = k} e f = λ t. record { kept = k; announced = e t; third = f t }

pub salvage_as_reading : SalvageIsReading
salvage_as_reading s T h f =
    let p : salvaging s T ≡ reading s T = same_plan s s T (salvage_is_reading s h f T) in
    let a = salvage_of_faultless s h f in
    (ap answer p, ap (λ (q : Plan Tables). memory q T) p, λ k e. reported_done s T k (ap answer p ∙ e) ∙ reports_same a.announced a.stopped)

-- up to the kit count salvage finds the fault of the front
front_decides : (s : List ℕ) → is_fault (salvage s) ≡ is_fault (front s 0)
unfolding salvage onward is_fault
front_decides s = go (front s 0)
  where
    go : (m : Item Front) →
        is_fault (onward {B = Salvage} m (λ f bs o. item (salvaged f (run_of f bs o)) (run_of f bs o).rest (run_of f bs o).offset)) ≡ is_fault m
    go (item f bs o) = refl
    go (fault o) = refl

said_encoded : (c : Contents) → fits_sheet c ≡ true → (is_fault (decode (encode c)) ≡ false) × (said (decode (encode c)) ≡ c)
unfolding is_fault said
said_encoded c f = let d = decode_encode c f in (rw d, rw d)

module _ (s : List ℕ) (T : Tables) (h : Bytes s) (f : is_fault (front s 0) ≡ false) where
  no_fault : is_fault (salvage s) ≡ false
  no_fault = front_decides s ∙ f

  kept_said : (is_fault (decode (sheet_kept s)) ≡ false) × (said (decode (sheet_kept s)) ≡ kept_from s)
  kept_said = said_encoded (kept_from s) (kept_fits s h no_fault)

  as_kept : salvaging s T ≡ reading (sheet_kept s) T
  as_kept = same_plan s (sheet_kept s) T (salvage_reads_rest s h no_fault T)

pub salvage_keeps : SalvageKeeps
salvage_keeps s T h f =
    let p = as_kept s T h f in
    let d = kept_said s T h f in
    (ap answer p, ap (λ (q : Plan Tables). memory q T) p, d.0, d.1)

------------------------------------------------------------------------
-- When it is done, and when not

room_for : (s : List ℕ) (T : Tables) (k : ℕ) (h : Bytes s) (e : answer (salvaging s T) ≡ done k) →
    Roomy (kept_from s) T × (k ≡ length (without_empty (kept_from s)).kits)
unfolding answer salvaging_into salvage_refusals
room_for s T k h e =
    let l = rescue_lengths s T k h e in
    let r = room_given (kept_from s) _ _ _ k (done_passes _ _ _ _ (rescue_behind s T k h e)).1 in
    (record { register_fits = l.0; nodes_fit = l.1; slots = r.0; nodes = r.1 }, r.2)

with_room_lem : (s : List ℕ) (T : Tables) → is_fault (front s 0) ≡ false → Roomy (kept_from s) T →
    answer (salvaging s T) ≡ done (length (without_empty (kept_from s)).kits)
unfolding answer salvaging salvage_refusals room_refusals decide
with_room_lem s T f r =
    let n : is_fault (salvage s) ≡ false = front_decides s ∙ f in
    let slots = le-ltb (slot_count T.register) (slots_needed (kept_from s)) r.slots in
    let nodes = le-ltb (size T.nodes) (nodes_needed (kept_from s)) r.nodes in
    decide_behind (lengths T) _ 0 _ (lengths_good T.register T.nodes r.register_fits r.nodes_fit) ∙ rw (n, slots, nodes)

pub salvage_exactly : SalvageExactly
salvage_exactly s T k h = (
  λ e. let r = room_for s T k h e in (sym (front_decides s) ∙ front_faultless s T k h e, r.0, r.1),
  λ c. with_room_lem s T c.0 c.1 ∙ ap done (sym c.2),
)

-- the tables that a salvage leaves
rescued_in_place : (s : List ℕ) (T : Tables) (k : ℕ) → answer (salvaging s T) ≡ done k → memory (salvaging s T) T ≡ (salvaging s T).after
unfolding memory
rescued_in_place s T k e = leaves_done (answer (salvaging s T)) k T (salvaging s T).after e

pub salvage_has_kept : SalvageHasKept
salvage_has_kept s T k h e = ap contents (rescued_in_place s T k e) ∙ contents_had (what_was_rescued s T k h e)

both_right : (T : Tables) → (LengthWrong the_lengths T → ⊥) → (register_length T.register ≡ true) × (nodes_length T.nodes ≡ true)
both_right T w = (right (register_length T.register) (λ e. w (inl e)), right (nodes_length T.nodes) (λ e. w (inr e)))
  where
    right : (b : Bool) → (b ≡ false → ⊥) → b ≡ true
    right true n = refl
    right false n = absurd (n refl)

past_lengths : (s : List ℕ) (T : Tables) → (LengthWrong the_lengths T → ⊥) → answer (salvaging s T) ≡ answer (salvaging_into s T)
past_lengths s T w = ap answer (salvaging_is s T) ∙ past T (salvaging_into s T) (both_right T w)

not_wrong : (s : List ℕ) (T : Tables) (n v : ℕ) → 1 < n → answer (salvaging s T) ≡ refused n v → LengthWrong the_lengths T → ⊥
unfolding plan_of asks_of
not_wrong s T n v l e w =
    let a : number_of (answer (salvaging s T)) ≡ 1 = (one_exactly (salvage_sheet s) T).1 w in
    let b : number_of (answer (salvaging s T)) ≡ n = ap number_of e in
    omega (arith, a, b)

refused_there : (s : List ℕ) (T : Tables) (o : ℕ) → front s 0 ≡ fault o → answer (salvaging_into s T) ≡ refused 13 o
unfolding answer salvaging_into
refused_there s T o e = salvage_refused s o (salvage_of_fault s o e) (slot_count T.register) (size T.nodes) _

thirteen_there : (s : List ℕ) (T : Tables) (v : ℕ) → Bytes s → answer (salvaging_into s T) ≡ refused 13 v → front s 0 ≡ fault v
unfolding is_fault
thirteen_there s T v h e = go (front s 0) refl
  where
    go : (m : Item Front) → front s 0 ≡ m → m ≡ fault v
    go (fault o) d =
        let a = sym (refused_there s T o d) ∙ e in
        let z : o ≡ v = cc in
        ap fault z
    go (item f bs o) d =
        let g : is_fault (front s 0) ≡ false = rw d in
        let a = (fault_exactly (sheet_kept s) T v).0 (ap answer (sym (salvage_reads_rest s h (front_decides s ∙ g) T)) ∙ e) in
        absurd (false≢true (sym (kept_said s T h g).0 ∙ ap is_fault a))

pub thirteen_exactly : ThirteenExactly
thirteen_exactly s T v h = (
  λ e. let w = not_wrong s T 13 v (omega arith) e in (w, thirteen_there s T v h (sym (past_lengths s T w) ∙ e)),
  λ c. past_lengths s T c.0 ∙ refused_there s T v c.1,
)

-- 12, behind the lengths and the front
abbrev RoomLacks : List ℕ → Tables → ℕ → Type 0
RoomLacks s T v =
    ((slot_count T.register < slots_needed (kept_from s)) × (v ≡ slots_needed (kept_from s)))
    ⊎ ((slots_needed (kept_from s) ≤ slot_count T.register) × (size T.nodes < nodes_needed (kept_from s)) × (v ≡ nodes_needed (kept_from s)))

twelve_there : (s : List ℕ) (T : Tables) (v : ℕ) → answer (salvaging_into s T) ≡ refused 12 v → (is_fault (salvage s) ≡ false) × RoomLacks s T v
unfolding answer salvaging_into salvage_refusals room_refusals decide
twelve_there s T v e =
    go (is_fault (salvage s)) (ltb (slot_count T.register) (slots_needed (kept_from s))) refl (ltb (size T.nodes) (nodes_needed (kept_from s))) refl e
  where
    go : (f p : Bool) → ltb (slot_count T.register) (slots_needed (kept_from s)) ≡ p → (q : Bool) → ltb (size T.nodes) (nodes_needed (kept_from s)) ≡ q →
        cond f (refused 13 (offset (salvage s))) (cond p (refused 12 (slots_needed (kept_from s)))
        (cond q (refused 12 (nodes_needed (kept_from s))) (done (length (without_empty (kept_from s)).kits)))) ≡ refused 12 v →
        (f ≡ false) × RoomLacks s T v
    go true p i q j d = absurd (let z : ◌≡◌ {A = ℕ} 13 12 = cc in omega arith)
    go false true i q j d = let z : v ≡ slots_needed (kept_from s) = cc in (refl, inl (ltb-true _ _ i, z))
    go false false i true j d = let z : v ≡ nodes_needed (kept_from s) = cc in (refl, inr (ltb-false _ _ i, ltb-true _ _ j, z))
    go false false i false j d = absurd (let z : ◌≡◌ {A = ℕ} 0 1 = cc in omega arith)

room_lacks : (s : List ℕ) (T : Tables) (v : ℕ) → is_fault (salvage s) ≡ false → RoomLacks s T v → answer (salvaging_into s T) ≡ refused 12 v
unfolding answer salvaging_into salvage_refusals room_refusals decide
room_lacks s T v f (inl (l, e)) = let p = lt-ltb (slot_count T.register) (slots_needed (kept_from s)) l in rw (f, p, e)
room_lacks s T v f (inr (l, k, e)) =
    let p = le-ltb (slot_count T.register) (slots_needed (kept_from s)) l in
    let q = lt-ltb (size T.nodes) (nodes_needed (kept_from s)) k in
    rw (f, p, q, e)

pub twelve_exactly : TwelveExactly
twelve_exactly s T v = (
  λ e.
      let w = not_wrong s T 12 v (omega arith) e in
      let r = twelve_there s T v (sym (past_lengths s T w) ∙ e) in
      (w, sym (front_decides s) ∙ r.0, r.1),
  λ c. past_lengths s T c.0 ∙ room_lacks s T v (front_decides s ∙ c.1) c.2,
)

------------------------------------------------------------------------
-- The report

pub salvage_reports : SalvageReports
salvage_reports s T = (
  λ k e. reported_done s T k e,
  λ n v e. (reported_none s T n v e, refusal_keeps (salvaging s T) T n v e),
)

pub report_fits : ReportFits
unfolding report_of
report_fits s T h = go (answer (salvaging s T)) (salvaging_small s T h)
  where
    go : (r : Reply) → value_of r < 2 ^ 32 →
        let p = report_of r (rescued (salvage s)) in
        (p.kept < 2 ^ 32) × (p.announced < 2 ^ 32) × (p.third < 2 ^ 32)
    go (done v) b =
        let n : (rescued (salvage s)).announced < 4294967296 = omega (arith, (stopped_near s h).0) in
        let o : (rescued (salvage s)).stopped < 4294967296 = omega (arith, (stopped_near s h).1) in
        (b, n, o)
    go (refused n v) b = let z : 0 < 4294967296 = omega arith in (z, z, b)

-- what stands up to the offset
count_parted : (a b c d e f : List ℕ) → a ++ (b ++ (c ++ (d ++ (e ++ (f ++ []))))) ≡ (a ++ (b ++ (c ++ d))) ++ (e ++ f)
count_parted a b c d e f = rw append-nil (simp append_assoc)

pub keeps_longest : KeepsLongest
keeps_longest s h f =
    let n : is_fault (salvage s) ≡ false = front_decides s ∙ f in
    let t = rescued_torn s h n in
    let x = rescued (salvage s) in
    let ps = x.kept.parts in
    let v : ℕ = version (length ps) in
    let l = longest_run s h n in (
      (parted_at_stop x.announced x.kept t.1 x.stopped t.2.splits t.2.ends).0
          ∙ count_parted mark (two v) (two (length ps)) (number_items ps) (two x.announced) (record_items v x.kept.kits),
      l.0,
      l.1,
    )

pub first_fault : FirstFault
unfolding is_fault
first_fault s h f =
    let t = (rescued_torn s h (front_decides s ∙ f)).2 in
    ⊎_elim
    (λ d. (λ e. d, λ e. absurd (false≢true (sym e ∙ ap is_fault d))))
    (λ w. (λ e. absurd (false≢true (sym (ap is_fault w.2) ∙ e)), λ e. omega (arith, t.ends, w.1)))
    (torn_or_whole t)

------------------------------------------------------------------------
-- A sheet cut, and demand 3

pub cut_anywhere : CutAnywhere
cut_anywhere s n T h f =
    let c : Contents = said (decode s) in
    let o : ℕ = length (concat (front_items c.parts (length c.kits))) in
    let half : List ℕ = take (o + n) s in
    let b : Bytes half = bytes_take s (o + n) h in
    let a = salvaged_at_cut s n h f in
    let left : Contents = has c.parts (take (whole_items (kit_items (width_of c) c.kits) n) c.kits) in
    let k : kept_from half ≡ left = ap (λ (x : Salvage). x.kept) a.2 in
    let p : salvaging half T ≡ reading (encode left) T = same_plan half (sheet_kept half) T (salvage_reads_rest half b a.1 T)
    ∙ ap (λ (d : Contents). reading (encode d) T) k in (
      ap answer p,
      ap (λ (q : Plan Tables). memory q T) p,
      λ v e. reported_done half T v (ap answer p ∙ e)
          ∙ reports_same (ap (λ (x : Salvage). x.announced) a.2) (ap (λ (x : Salvage). x.stopped) a.2),
    )

pub written_after : WrittenAfter
written_after s T o k h e r =
    let c : Contents = kept_from s in
    let fits = rescue_fits s T k h e in
    let q : encode (listed_in (without_empty c)) ≡ encode (without_empty c) = ap encode
    (ap (has c.parts) (in_order_already comes_before (rising_keep some_unit c.kits (sheet_rises c fits)))) in
    let b : Brought (memory (salvaging s T) T) (without_empty c) = subst (λ (M : Tables). Brought M (without_empty c))
    (sym (rescued_in_place s T k e)) (rescue_kept s T k h e) in
    (rw q at (writes b o (rw q r)), (said_encoded (without_empty c) (fits_without c fits)).0)

pub torn_not_accepted : TornNotAccepted
torn_not_accepted s T k h e t =
    let o = (rescued (salvage s)).stopped in
    let d : decode s ≡ fault o = (first_fault s h (sym (front_decides s) ∙ front_faultless s T k h e)).0 t in
    ap answer (reading_is s T) ∙ past T (reading_into s T) (rescue_lengths s T k h e) ∙ (fault_exactly s T o).1 d
