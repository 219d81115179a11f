-- What is kept of a torn sheet: cut anywhere, the kits whose records are whole; and of any sheet, all that can be.
use mathlib.Core.Path.{◌≡◌, refl, ap, sym}
use mathlib.Core.Bool.{Bool, true, false, ◌&&◌, cond, false≢true}
use mathlib.Core.List.{List, [], ◌∷◌, ◌++◌, reverse, reverse_aux}
use Prim.Native.Nat.{ℕ, zero, suc, ◌+◌, ◌≤◌, ◌<◌}
use native.Mathlib.Omega.{arith}
use lib.ListN.{length, take, drop}
use lib.Dec.{leb}
use Rattle.ground.specs.Lists.{concat}
use Rattle.nodes.specs.Held.{Kit}
use Rattle.sheet.specs.Sheet.{Contents, place_bytes}
use Rattle.sheet.specs.Reading.{Item, item, fault, onward, one, record_size, kit_in, new_kit, Run, stop, also, unless, records, Front, front, run_of}
use Rattle.sheet.specs.Reading.{decode, is_fault, said, Salvage, salvaged, salvage, rescued}
use Rattle.sheet.proofs.Written.{Fit}
use Rattle.sheet.proofs.Accepted.{Stands, run_again}
use Rattle.sheet.proofs.Torn.{salvage_of_fault, parted_at_stop}
use Rattle.sheet_faults.specs.Faults.{front_items, kit_items, width_of, items_of, announcing, start_of_cut, whole_items, run_to_cut, record_at_fault}
use Rattle.sheet_faults.specs.Faults.{SalvagedAtCut, LongestRun}
use Rattle.sheet_faults.proofs.Cuts.{concat_append, start_left, start_right}
use Rattle.sheet_faults.proofs.Fronts.{over_front}
use Rattle.sheet_faults.proofs.Faults.{accepted_items, kept_at_cut}

------------------------------------------------------------------------
-- Cut

salvage_run : (s : List ℕ) (f : Front) (bs : List ℕ) (o : ℕ) (r : Run) → front s 0 ≡ item f bs o → run_of f bs o ≡ r →
    salvage s ≡ item (salvaged f r) r.rest r.offset
unfolding salvage onward
salvage_run s f bs o r e d = rw (e, d)

salvaged_is : (s : List ℕ) (x y : Salvage) (rest : List ℕ) (o : ℕ) → salvage s ≡ item x rest o → x ≡ y →
    (is_fault (salvage s) ≡ false) × (rescued (salvage s) ≡ y)
unfolding is_fault rescued
salvaged_is s x y rest o e f = (rw e, rw e f)

front_cut : (c : Contents) → Fit c → (n : ℕ) → n < length (concat (front_items c.parts (length c.kits))) →
    salvage (take n (concat (items_of c))) ≡ fault (start_of_cut (items_of c) n)
front_cut c f n h =
    let F = front_items c.parts (length c.kits) in
    let K = kit_items (width_of c) c.kits in
    let e = (over_front f.numbers_new f.few f.counted).stops n h (concat K) 0 in
    let z : 0 + start_of_cut F n ≡ start_of_cut F n = omega arith in
    rw (concat_append F K, start_left F K n h) (salvage_of_fault (take n (concat F ++ concat K)) (start_of_cut F n) (rw z at e))

pub salvaged_at_cut : SalvagedAtCut
unfolding salvaged
salvaged_at_cut s n h e =
    let a = accepted_items s h e in
    let c : Contents = said (decode s) in
    let F = front_items c.parts (length c.kits) in
    let K = kit_items (width_of c) c.kits in
    let o : ℕ = length (concat F) in
    let f = announcing c.parts (length c.kits) in
    let bs : List ℕ = take n (concat K) in
    let k = kept_at_cut s n h e in
    let r = run_to_cut (width_of c) c.kits n bs o in
    let p = salvaged_is (take (o + n) s) (salvaged f r) _ r.rest r.offset (salvage_run (take (o + n) s) f bs o r k.0 k.1)
    (ap (λ (x : ℕ). record {
      kept = record { parts = c.parts; kits = take (whole_items K n) c.kits };
      announced = length c.kits;
      stopped = x;
    }) (sym (start_right F K n))) in
    let i : concat (items_of c) ≡ s = a.is in
    (λ l. rw i at (front_cut c a.fit n l), p.0, p.1)

------------------------------------------------------------------------
-- The longest run

fault_anywhere : (size : List ℕ → ℕ) (good : List ℕ → Bool) (bs : List ℕ) (o p : ℕ) → one size good bs o ≡ fault p → is_fault (one size good bs 0) ≡ true
unfolding one is_fault
fault_anywhere size good bs o p e = go (leb (size bs) (length bs) && good (take (size bs) bs)) e
  where
    go : (x : Bool) → cond x (item (take (size bs) bs) (drop (size bs) bs) (o + size bs)) (fault o) ≡ fault p →
        is_fault (cond x (item (take (size bs) bs) (drop (size bs) bs) (0 + size bs)) (fault 0)) ≡ true
    go true d = absurd (let z : ◌≡◌ {A = ℕ} 0 1 = cc in omega arith)
    go false d = refl

-- where records are missing, the next is at fault behind those in the run
stops_at_fault : (w m n : ℕ) (seen : List Kit) (bs : List ℕ) (o : ℕ) → let r = records w m n seen bs o in
    0 < r.missing → is_fault (one (record_size w) (new_kit w n (reverse_aux r.kits seen)) r.rest 0) ≡ true
unfolding records unless
stops_at_fault w zero n seen bs o h = absurd (omega arith)
stops_at_fault w (suc m) n seen bs o h =
    go (one (record_size w) (new_kit w n seen) bs o) refl h (λ b rest o'. stops_at_fault w m n (kit_in w b ∷ seen) rest o')
  where
    go : (x : Item (List ℕ)) → one (record_size w) (new_kit w n seen) bs o ≡ x →
        let r = unless x (stop (suc m) bs o) (λ b rest o'. also (kit_in w b) (records w m n (kit_in w b ∷ seen) rest o')) in
        0 < r.missing →
        ((b rest : List ℕ) (o' : ℕ) → let q = records w m n (kit_in w b ∷ seen) rest o' in
        0 < q.missing → is_fault (one (record_size w) (new_kit w n (reverse_aux q.kits (kit_in w b ∷ seen))) q.rest 0) ≡ true) →
        is_fault (one (record_size w) (new_kit w n (reverse_aux r.kits seen)) r.rest 0) ≡ true
    go (fault p) e h f = fault_anywhere (record_size w) (new_kit w n seen) bs o p e
    go (item b rest o') e h f = f b rest o' h

next_fault : (f : Front) (bs : List ℕ) (o : ℕ) → let r = run_of f bs o in
    let w = place_bytes (length f.parts) in
    0 < r.missing → is_fault (one (record_size w) (new_kit w (length f.parts) (reverse r.kits)) r.rest 0) ≡ true
unfolding run_of
next_fault f bs o = stops_at_fault (place_bytes (length f.parts)) f.announced (length f.parts) [] bs o

module _ {s : List ℕ} {f : Front} {r : Run} (S : Stands s f r) where
  abbrev kept : Contents
  kept = record { parts = f.parts; kits = r.kits }

  run_longest : (0 < r.missing →
      is_fault (one (record_size (width_of kept)) (new_kit (width_of kept) (length f.parts) (reverse r.kits)) r.rest 0) ≡ true) →
      (length r.kits ≤ f.announced) × (length r.kits < f.announced → record_at_fault kept (drop r.offset s) ≡ true)
  unfolding record_at_fault
  run_longest e =
      let d = (parted_at_stop f.announced kept r.rest r.offset S.splits S.ends).1 in
      (omega (arith, S.counted), λ h. rw d (e (omega (arith, S.counted))))

pub longest_run : LongestRun
unfolding salvage onward rescued salvaged is_fault
longest_run s b e = go (front s 0) refl e
  where
    go : (m : Item Front) → front s 0 ≡ m →
        let y = onward {B = Salvage} m (λ f bs o. item (salvaged f (run_of f bs o)) (run_of f bs o).rest (run_of f bs o).offset) in
        is_fault y ≡ false → let x = rescued y in
        (length x.kept.kits ≤ x.announced)
        × (length x.kept.kits < x.announced → record_at_fault x.kept (drop x.stopped s) ≡ true)
    go (item f bs o) d e = run_longest (run_again s f bs o b d) (next_fault f bs o)
    go (fault o) d e = absurd (false≢true (sym e))
