-- Kit records: cut, the run ends where the cut record starts, and has the kits whose records are whole.
use mathlib.Core.Path.{◌≡◌, refl, ◌∙◌}
use mathlib.Core.Logic.{⊎_elim}
use mathlib.Core.Bool.{Bool, true, false, ◌&&◌, cond}
use mathlib.Core.List.{List, [], ◌∷◌, ◌++◌, reverse_aux, append_assoc, append-nil}
use Prim.Native.Nat.{ℕ, suc, ◌+◌, ◌*◌, ◌-◌, ◌^◌, ◌≤◌, ◌<◌}
use native.Mathlib.Omega.{arith}
use lib.ListN.{length, take, get_or, length-append, length-map}
use lib.Seq.{take-append-add, drop-append-add, get_or-take}
use borrow.Author.Tests.{eqb-true}
use Rattle.ground.specs.Lists.{anyb, concat, is_zero}
use Rattle.ground.proofs.Laws.{below_or}
use Rattle.nodes.specs.Held.{Kit}
use Rattle.sheet.specs.Sheet.{Contents, record_item, line_bytes, count_at, lines_at}
use Rattle.sheet.specs.Inner.{good_kit}
use Rattle.sheet.specs.Reading.{Item, item, fault, record_size, has_tag, follows, new_kit, Run, stop, also, unless, records, whole}
use Rattle.sheet.proofs.Written.{one_good, NewKits, record_size_lem, kit_new, kit_back}
use Rattle.sheet_faults.specs.Faults.{kit_items, start_of_cut, whole_items, run_to_cut}
use Rattle.sheet_faults.proofs.Cuts.{InOrPast, in_it, past_it, in_or_past, start_in, start_past, whole_in, whole_past, whole_few}
use Rattle.sheet_faults.proofs.Cuts.{one_cut, StopsAtCut}

-- the bytes that are left of a record are fewer than its line count says, or have none
record_cut_short : (w n : ℕ) → n < 256 ^ w → (k : Kit) → good_kit n k ≡ true → (m : ℕ) → m < length (record_item w k) →
    m < record_size w (take m (record_item w k))
unfolding record_size
record_cut_short w n room k g m h = ⊎_elim (λ (l : m < lines_at). omega arith) (λ (l : lines_at ≤ m). counted l) (below_or m lines_at)
  where
    b : List ℕ
    b = record_item w k

    counted : lines_at ≤ m → m < lines_at + get_or (take m b) count_at 0 * line_bytes w
    counted l =
        let e : get_or (take m b) count_at 0 ≡ get_or b count_at 0 = get_or-take m b count_at 0 (omega arith) in
        let s : lines_at + get_or b count_at 0 * line_bytes w ≡ length b = rw append-nil at (record_size_lem w n room k g []) in
        rw e (omega arith)

-- a record that the reader takes, in front of any others
module _ (w n : ℕ) (room : n < 256 ^ w) (seen : List Kit) (k : Kit) (g : good_kit n k ≡ true) (h : anyb (has_tag k.tag) seen ≡ false)
    (f : follows k.row seen ≡ true) where
  pub records_step : (m : ℕ) (rest : List ℕ) (o : ℕ) →
      records w (suc m) n seen (record_item w k ++ rest) o ≡ also k (records w m n (k ∷ seen) rest (o + length (record_item w k)))
  unfolding records unless
  records_step m rest o =
      let e = one_good (record_size w) (new_kit w n seen) (record_item w k) rest o (record_size_lem w n room k g rest) (kit_new w n room k g seen h f) in
      rw (e, kit_back w n room k g)

  records_cut : (m : ℕ) (rest : List ℕ) (j o : ℕ) → j < length (record_item w k) →
      records w (suc m) n seen (take j (record_item w k ++ rest)) o ≡ stop (suc m) (take j (record_item w k ++ rest)) o
  unfolding records unless
  records_cut m rest j o l =
      rw (one_cut (record_size w) (new_kit w n seen) (record_item w k) rest j o l (record_cut_short w n room k g j l))

-- a run, of which the first record is cut, or one behind it
module _ (w : ℕ) (k : Kit) (ks : List Kit) (o : ℕ) where
  cut_first : (m : ℕ) (bs : List ℕ) → m < length (record_item w k) → stop (suc (length ks)) bs o ≡ run_to_cut w (k ∷ ks) m bs o
  cut_first m bs h =
      let a = start_in (record_item w k) (kit_items w ks) m h in
      let b = whole_in (record_item w k) (kit_items w ks) m h in
      let e : o + 0 ≡ o = omega arith in
      let d : length (k ∷ ks) - 0 ≡ suc (length ks) = omega arith in
      rw (a, b, e, d)

  cut_behind : (m : ℕ) (bs : List ℕ) →
      also k (run_to_cut w ks m bs (o + length (record_item w k))) ≡ run_to_cut w (k ∷ ks) (length (record_item w k) + m) (record_item w k ++ bs) o
  cut_behind m bs =
      let a = start_past (record_item w k) (kit_items w ks) m in
      let b = whole_past (record_item w k) (kit_items w ks) m in
      let x = start_of_cut (kit_items w ks) m in
      let y = whole_items (kit_items w ks) m in
      let e : o + (length (record_item w k) + x) ≡ o + length (record_item w k) + x = omega arith in
      let d : length (k ∷ ks) - suc y ≡ length ks - y = omega arith in
      rw (a, b, drop-append-add (record_item w k) bs x, e, d)

-- the records of kits, and whatever follows, cut anywhere
pub records_to_cut : (w n : ℕ) → n < 256 ^ w → {seen ks : List Kit} → NewKits n seen ks → (rest : List ℕ) (m o : ℕ) →
    let bs = take m (concat (kit_items w ks) ++ rest) in records w (length ks) n seen bs o ≡ run_to_cut w ks m bs o
unfolding concat records start_of_cut whole_items
records_to_cut w n room NewKits.no_more rest m o = let e : o + 0 ≡ o = omega arith in rw e
records_to_cut w n room (NewKits.another {seen = seen} {ks = ks} {k = k} g h f gs) rest m o =
    rw append_assoc (go m (in_or_past (record_item w k) m) (records_to_cut w n room gs rest))
  where
    all : List ℕ
    all = concat (kit_items w ks) ++ rest

    go : (m : ℕ) → InOrPast (record_item w k) m →
        ((j o : ℕ) → records w (length ks) n (k ∷ seen) (take j all) o ≡ run_to_cut w ks j (take j all) o) →
        let bs = take m (record_item w k ++ all) in records w (length (k ∷ ks)) n seen bs o ≡ run_to_cut w (k ∷ ks) m bs o
    go m (in_it l) u = records_cut w n room seen k g h f (length ks) all m o l ∙ cut_first w k ks o m (take m (record_item w k ++ all)) l
    go m (past_it j) u =
        let e = records_step w n room seen k g h f (length ks) (take j all) o in
        rw (take-append-add (record_item w k) all j, e, u j (o + length (record_item w k))) (cut_behind w k ks o j (take j all))

-- a run with these kits in front
abbrev pub behind_kits : List Kit → Run → Run
behind_kits ks r = record { kits = ks ++ r.kits; rest = r.rest; offset = r.offset; missing = r.missing }

-- whole, and perhaps more records announced: the run goes on behind them
pub records_past : (w n : ℕ) → n < 256 ^ w → {seen ks : List Kit} → NewKits n seen ks → (m : ℕ) (rest : List ℕ) (o : ℕ) →
    records w (length ks + m) n seen (concat (kit_items w ks) ++ rest) o ≡
    behind_kits ks (records w m n (reverse_aux ks seen) rest (o + length (concat (kit_items w ks))))
unfolding concat
records_past w n room NewKits.no_more m rest o =
    let e : o + 0 ≡ o = omega arith in
    let z : 0 + m ≡ m = omega arith in
    rw (e, z)
records_past w n room (NewKits.another {seen = seen} {ks = ks} {k = k} g h f gs) m rest o =
    let C : List ℕ = concat (kit_items w ks) in
    let e : suc (length ks) + m ≡ suc (length ks + m) = omega arith in
    let l : o + length (record_item w k) + length C ≡ o + length (record_item w k ++ C) = omega (arith, length-append (record_item w k) C) in
    let s = records_step w n room seen k g h f (length ks + m) (C ++ rest) o in
    rw (e, append_assoc, s, records_past w n room gs m rest (o + length (record_item w k)), l)

-- a run with a record missing, or bytes behind it, is at fault where it ends
pub run_at_fault : (ps : List (List ℕ)) (r : Run) → (r.missing ≡ 0 → length r.rest ≡ 0 → ⊥) → whole ps r ≡ fault r.offset
unfolding whole
run_at_fault ps r more = go (is_zero r.missing) refl (is_zero (length r.rest)) refl
  where
    go : (x : Bool) → is_zero r.missing ≡ x → (y : Bool) → is_zero (length r.rest) ≡ y →
        cond {A = Item Contents} (x && y) (item (record { parts = ps; kits = r.kits }) r.rest r.offset) (fault r.offset) ≡ fault r.offset
    go true e true g = absurd (more (eqb-true r.missing 0 e) (eqb-true (length r.rest) 0 g))
    go true e false g = refl
    go false e y g = refl

-- so the records of kits, cut, are at fault where the cut one starts
pub records_stop : (w n : ℕ) → n < 256 ^ w → {seen ks : List Kit} → NewKits n seen ks → (ps : List (List ℕ)) →
    StopsAtCut (λ bs o. whole ps (records w (length ks) n seen bs o)) (kit_items w ks)
records_stop w n room {seen} {ks} new ps m h rest o =
    let few : whole_items (kit_items w ks) m < length ks = rw (length-map ks (record_item w)) at (whole_few (kit_items w ks) m h) in
    let bs : List ℕ = take m (concat (kit_items w ks) ++ rest) in
    rw (records_to_cut w n room new rest m o) (run_at_fault ps (run_to_cut w ks m bs o) (λ e g. omega arith))
