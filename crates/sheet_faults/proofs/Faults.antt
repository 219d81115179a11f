-- Where a sheet is at fault that is cut, or has bytes behind its end.
use mathlib.Core.Path.{◌≡◌, refl, ap, sym, ◌∙◌}
use mathlib.Core.Bool.{false}
use mathlib.Core.List.{List, [], ◌∷◌, ◌++◌, map, reverse, append_assoc, append-nil}
use Prim.Native.Nat.{ℕ, ◌+◌, ◌^◌, ◌<◌}
use native.Mathlib.Omega.{arith}
use lib.ListN.{length, take, length-append}
use lib.Seq.{take-append-add}
use Rattle.ground.specs.Limits.{two_limit}
use Rattle.ground.specs.Lists.{concat}
use Rattle.ground.specs.Calls.{decide}
use Rattle.sheet.specs.Bytes.{in_bytes, two, Bytes}
use Rattle.sheet.specs.Sheet.{Contents, number_item, number_items, record_items, encode_as, encode}
use Rattle.sheet.specs.Reading.{Item, item, fault, Reading, onward, Run, stop, records, Front, front, run_of}
use Rattle.sheet.specs.Reading.{whole, decode, is_fault, offset, said}
use Rattle.sheet.specs.Calls.{sheet_refusals}
use Rattle.sheet.proofs.Widths.{version_room}
use Rattle.sheet.proofs.Written.{Fit}
use Rattle.sheet.proofs.Accepted.{decode_again}
use Rattle.sheet_faults.specs.Faults.{front_items, kit_items, width_of, announced_items, items_of, announcing, start_of_cut, run_to_cut}
use Rattle.sheet_faults.specs.Faults.{ItemsMakeSheet, FaultBehind, FaultAtCut, KeptAtCut, BehindRefused, CutRefused}
use Rattle.sheet_faults.proofs.Cuts.{concat_append, StopsAtCut, stops_behind}
use Rattle.sheet_faults.proofs.Fronts.{over_front}
use Rattle.sheet_faults.proofs.Runs.{records_to_cut, behind_kits, records_past, run_at_fault, records_stop}

pub items_make_sheet : ItemsMakeSheet
unfolding front_items encode encode_as number_items record_items concat in_bytes
items_make_sheet c =
    let P = map number_item c.parts in
    let T = two (length c.kits) ∷ [] in
    rw (concat_append (front_items c.parts (length c.kits)) (kit_items (width_of c) c.kits), concat_append P T) (simp append_assoc)

-- what is read behind the front
abbrev after_front : Front → Reading Contents
after_front f bs o = whole f.parts (run_of f bs o)

module _ (c : Contents) (f : Fit c) where
  room : length c.parts < 256 ^ width_of c
  room = version_room (length c.parts) f.few

  -- the whole items of a sheet that announces m kits more than it has are read, and the run goes on behind them
  pub decode_past : (m : ℕ) → length c.kits + m < two_limit → (bs : List ℕ) →
      let is = announced_items c (length c.kits + m) in
      let r = records (width_of c) m (length c.parts) (reverse c.kits) bs (length (concat is)) in
      decode (concat is ++ bs) ≡ whole c.parts (behind_kits c.kits r)
  unfolding decode run_of onward
  decode_past m l bs =
      let F = front_items c.parts (length c.kits + m) in
      let K = kit_items (width_of c) c.kits in
      let t = (over_front f.numbers_new f.few l).takes (concat K ++ bs) 0 in
      let r = records_past (width_of c) (length c.parts) room f.kits_new m bs (0 + length (concat F)) in
      let e : 0 + length (concat F) + length (concat K) ≡ length (concat F ++ concat K) = omega (arith, length-append (concat F) (concat K)) in
      rw (concat_append F K, append_assoc, t, r, e)

  pub decode_fault : (m : ℕ) → length c.kits + m < two_limit → (bs : List ℕ) (r : Run) →
      let is = announced_items c (length c.kits + m) in
      records (width_of c) m (length c.parts) (reverse c.kits) bs (length (concat is)) ≡ r →
      (r.missing ≡ 0 → length r.rest ≡ 0 → ⊥) → decode (concat is ++ bs) ≡ fault r.offset
  decode_fault m l bs r e more = decode_past m l bs ∙ (rw e (run_at_fault c.parts (behind_kits c.kits r) more))

  kits_stop : StopsAtCut (after_front (announcing c.parts (length c.kits))) (kit_items (width_of c) c.kits)
  unfolding run_of
  kits_stop = records_stop (width_of c) (length c.parts) room f.kits_new c.parts

  pub decode_cut : (n : ℕ) → n < length (concat (items_of c)) → (rest : List ℕ) →
      decode (take n (concat (items_of c) ++ rest)) ≡ fault (start_of_cut (items_of c) n)
  unfolding decode
  decode_cut n h rest =
      let t = over_front f.numbers_new f.few f.counted in
      stops_behind after_front (kit_items (width_of c) c.kits) t kits_stop n h rest 0 ∙ ap fault (omega arith)

  items_kept : (n : ℕ) → let f = announcing c.parts (length c.kits) in
      let o = length (concat (front_items c.parts (length c.kits))) in
      let bs = take n (concat (kit_items (width_of c) c.kits)) in
      (front (take (o + n) (concat (items_of c))) 0 ≡ item f bs o) × (run_of f bs o ≡ run_to_cut (width_of c) c.kits n bs o)
  unfolding run_of
  items_kept n =
      let F = front_items c.parts (length c.kits) in
      let K = kit_items (width_of c) c.kits in
      let w : take (length (concat F) + n) (concat F ++ concat K) ≡ concat F ++ take n (concat K) = take-append-add (concat F) (concat K) n in
      let t = (over_front f.numbers_new f.few f.counted).takes (take n (concat K)) 0 in
      let z : 0 + length (concat F) ≡ length (concat F) = omega arith in
      let r = records_to_cut (width_of c) (length c.parts) room f.kits_new [] n (length (concat F)) in
      (rw (concat_append F K, w) (rw z at t), rw append-nil at r)

-- an accepted sheet is the items of what it says
pub record IsItems (s : List ℕ) (c : Contents) : Type 0 where
  pub fit : Fit c
  pub is : concat (items_of c) ≡ s

pub accepted_items : (s : List ℕ) → Bytes s → is_fault (decode s) ≡ false → IsItems s (said (decode s))
unfolding is_fault said
accepted_items s h e = go (decode s) refl e
  where
    go : (m : Item Contents) → decode s ≡ m → is_fault m ≡ false → IsItems s (said m)
    go (item c rest o) d e = let a = decode_again s c rest o h d in record { fit = a.fit; is = items_make_sheet c ∙ sym a.is }
    go (fault o) d e = absurd (let z : ◌≡◌ {A = ℕ} 0 1 = cc in omega arith)

pub fault_behind : FaultBehind
unfolding records
fault_behind s x bs h e =
    let a = accepted_items s h e in
    let c : Contents = said (decode s) in
    let i : concat (items_of c) ≡ s = a.is in
    let z : length c.kits + 0 ≡ length c.kits = omega arith in
    let o : ℕ = length (concat (announced_items c (length c.kits + 0))) in
    rw (z, i) at (decode_fault c a.fit 0 (rw z a.fit.counted) (x ∷ bs) (stop 0 (x ∷ bs) o) refl (λ m r. omega arith))

pub fault_at_cut : FaultAtCut
fault_at_cut s n h e l =
    let a = accepted_items s h e in
    let c : Contents = said (decode s) in
    let i : concat (items_of c) ≡ s = a.is in
    rw (append-nil, i) at (decode_cut c a.fit n (rw i l) [])

pub kept_at_cut : KeptAtCut
kept_at_cut s n h e =
    let a = accepted_items s h e in
    let i : concat (items_of (said (decode s))) ≡ s = a.is in
    let k = items_kept (said (decode s)) a.fit n in
    (rw i at k.0, k.1)

pub behind_refused : BehindRefused
unfolding sheet_refusals decide is_fault offset
behind_refused s x bs slots nodes v h e = rw (fault_behind s x bs h e)

pub cut_refused : CutRefused
unfolding sheet_refusals decide is_fault offset
cut_refused s n slots nodes v h e l = rw (fault_at_cut s n h e l)
