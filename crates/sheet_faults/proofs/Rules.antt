-- An item at fault behind whole ones, whatever it is against: at fault where it starts.
use mathlib.Core.Path.{◌≡◌, refl, ap, sym, ◌∙◌}
use mathlib.Core.Bool.{Bool, true, false, ◌&&◌, cond}
use mathlib.Core.List.{List, [], ◌++◌, map, reverse, reverse_aux, append_assoc}
use Prim.Native.Nat.{ℕ, suc, ◌+◌, ◌-◌, ◌≤◌}
use native.Mathlib.Omega.{arith}
use lib.ListN.{length, take, drop, length-append}
use lib.Dec.{leb}
use Rattle.ground.specs.Limits.{most_parts}
use Rattle.ground.specs.Lists.{concat, eq_list}
use Rattle.ground.proofs.Laws.{eq_list_refl}
use Rattle.sheet.specs.Bytes.{in_bytes, from_bytes, two, two_bytes}
use Rattle.sheet.specs.Sheet.{Contents, mark, mark_bytes, version, number_item}
use Rattle.sheet.specs.Reading.{item, fault, onward, one, bytes, is_version, good_part_count, number_size, new_number, numbers, record_size}
use Rattle.sheet.specs.Reading.{new_kit, stop, unless, records, front, decode, is_fault, said}
use Rattle.sheet.proofs.Numbers.{two_back, two_length}
use Rattle.sheet.proofs.Widths.{version_back, version_good, count_good}
use Rattle.sheet.proofs.Written.{one_good, NewNumbers, no_more, another, number_new, number_as_long}
use Rattle.sheet_faults.specs.Faults.{part_items, width_of, announced_items, number_at_fault, record_at_fault}
use Rattle.sheet_faults.specs.Faults.{FaultAtOpening, FaultAtNumber, FaultAtRecord}
use Rattle.sheet_faults.proofs.Fronts.{after_numbers, after_version, after_mark}
use Rattle.sheet_faults.proofs.Faults.{decode_fault, accepted_items}

-- wherever it stands
one_at_fault : (size : List ℕ → ℕ) (good : List ℕ → Bool) (bs : List ℕ) (o : ℕ) → is_fault (one size good bs 0) ≡ true →
    one size good bs o ≡ fault o
unfolding one is_fault
one_at_fault size good bs o e = go (leb (size bs) (length bs) && good (take (size bs) bs)) e
  where
    go : (x : Bool) → is_fault (cond x (item (take (size bs) bs) (drop (size bs) bs) (0 + size bs)) (fault 0)) ≡ true →
        cond x (item (take (size bs) bs) (drop (size bs) bs) (o + size bs)) (fault o) ≡ fault o
    go true e = absurd (let z : ◌≡◌ {A = ℕ} 0 1 = cc in omega arith)
    go false e = refl

------------------------------------------------------------------------
-- Mark, version, part count

decode_front : (s : List ℕ) (o : ℕ) → front s 0 ≡ fault o → decode s ≡ fault o
unfolding decode onward
decode_front s o e = rw e

mark_first : (bs : List ℕ) → front (mark ++ bs) 0 ≡ after_mark mark bs 3
unfolding front onward bytes
mark_first bs = rw (one_good (bytes mark_bytes) (eq_list mark) mark bs 0 refl (eq_list_refl mark))

version_second : (p : ℕ) (bs : List ℕ) → front (mark ++ (two (version p) ++ bs)) 0 ≡ after_version (two (version p)) bs 5
unfolding onward bytes
version_second p bs =
    let v = version p in
    mark_first (two v ++ bs)
    ∙ (rw (one_good (bytes two_bytes) is_version (two v) bs 3 (sym (two_length v)) (version_good p), two_length v))

count_third : (n : ℕ) → n ≤ most_parts → (bs : List ℕ) → front (mark ++ (two (version n) ++ (two n ++ bs))) 0 ≡ onward (numbers n [] bs 7) after_numbers
unfolding onward bytes
count_third n h bs =
    let b : from_bytes (two n) ≡ n = two_back n (omega arith) in
    let good = good_part_count (from_bytes (two (version n))) in
    version_second n (two n ++ bs)
    ∙ (rw (one_good (bytes two_bytes) good (two n) bs 5 (sym (two_length n)) (count_good n h), two_length n, b))

pub fault_at_opening : FaultAtOpening
unfolding front onward
fault_at_opening p bs =
    let v = version p in
    let good = good_part_count (from_bytes (two v)) in (
      λ e. decode_front bs 0 (rw (one_at_fault (bytes mark_bytes) (eq_list mark) bs 0 e)),
      λ e. decode_front (mark ++ bs) 3 (mark_first bs ∙ (rw (one_at_fault (bytes two_bytes) is_version bs 3 e))),
      λ e. let g : is_fault (one (bytes two_bytes) good bs 0) ≡ true = rw (version_back p) e in
          decode_front (mark ++ (two v ++ bs)) 5 (version_second p bs ∙ (rw (one_at_fault (bytes two_bytes) good bs 5 g)))
          ∙ ap fault (omega (arith, two_length v)),
    )

------------------------------------------------------------------------
-- Numbers

pub numbers_fault : {seen ns : List (List ℕ)} → NewNumbers seen ns → (m : ℕ) (bs : List ℕ) (o : ℕ) →
    is_fault (one number_size (new_number (reverse_aux ns seen)) bs 0) ≡ true →
    numbers (length ns + suc m) seen (concat (map number_item ns) ++ bs) o ≡ fault (o + length (concat (map number_item ns)))
unfolding numbers concat onward number_item
numbers_fault (no_more {seen = seen}) m bs o e =
    let z : 0 + suc m ≡ suc m = omega arith in
    let x : o + 0 ≡ o = omega arith in
    rw (z, x, one_at_fault number_size (new_number seen) bs o e)
numbers_fault (another {seen = seen} {ns = ns} {n = n} g h gs) m bs o e =
    let C : List ℕ = concat (map number_item ns) in
    let k : suc (length ns) + suc m ≡ suc (length ns + suc m) = omega arith in
    let i = one_good number_size (new_number seen) (number_item n) (C ++ bs) o (number_as_long n (C ++ bs)) (number_new seen n g h) in
    let l : o + length (number_item n) + length C ≡ o + length (number_item n ++ C) = omega (arith, length-append (number_item n) C) in
    rw (k, append_assoc, i, numbers_fault gs m bs (o + length (number_item n)) e, l)

parts_fault : (ps : List (List ℕ)) → NewNumbers [] ps → (m : ℕ) → length ps + suc m ≤ most_parts → (bs : List ℕ) →
    number_at_fault ps bs ≡ true → let is = part_items (length ps + suc m) ps in decode (concat is ++ bs) ≡ fault (length (concat is))
unfolding concat number_at_fault onward in_bytes
parts_fault ps new m h bs b =
    let N : ℕ = length ps + suc m in
    let C : List ℕ = concat (map number_item ps) in
    let f : numbers N [] (C ++ bs) 7 ≡ fault (7 + length C) = numbers_fault new m bs 7 b in
    let a : front (mark ++ (two (version N) ++ (two N ++ (C ++ bs)))) 0 ≡ fault (7 + length C) = count_third N h (C ++ bs) ∙ (rw f) in
    decode_front (mark ++ (two (version N) ++ (two N ++ (C ++ bs)))) (7 + length C) a ∙ ap fault (omega arith)

pub fault_at_number : FaultAtNumber
fault_at_number s n bs h e k l b =
    let a = accepted_items s h e in
    let ps : List (List ℕ) = (said (decode s)).parts in
    let m : ℕ = n - suc (length ps) in
    let z : length ps + suc m ≡ n = omega arith in
    rw z at (parts_fault ps a.fit.numbers_new m (rw z l) bs b)

------------------------------------------------------------------------
-- Records

pub fault_at_record : FaultAtRecord
unfolding records unless record_at_fault
fault_at_record s n bs h e k l b =
    let a = accepted_items s h e in
    let c : Contents = said (decode s) in
    let m : ℕ = n - suc (length c.kits) in
    let z : length c.kits + suc m ≡ n = omega arith in
    let o : ℕ = length (concat (announced_items c (length c.kits + suc m))) in
    let f = one_at_fault (record_size (width_of c)) (new_kit (width_of c) (length c.parts) (reverse c.kits)) bs o b in
    rw z at (decode_fault c a.fit (suc m) (rw z l) bs (stop (suc m) bs o) (rw f) (λ m r. omega arith))
