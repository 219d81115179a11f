-- Request 10: a sheet that is not of version 2 is read as a program from before reads it, and one of version 2 it refuses at the version.
use mathlib.Core.Path.{◌≡◌, refl, ap}
use mathlib.Core.Bool.{Bool, true, false, cond, ◌&&◌, and-false, or-false}
use mathlib.Core.List.{List, [], ◌∷◌, ◌++◌}
use Prim.Native.Nat.{ℕ, zero, suc, ◌+◌, ◌≤◌, ◌<◌}
use native.Mathlib.Omega.{arith}
use lib.ListN.{length, take, drop}
use lib.Dec.{leb, eqb}
use borrow.Author.Tests.{leb-true, le-leb, lt-leb, eqb-true, ne_eqb}
use Rattle.ground.specs.Limits.{most_parts}
use Rattle.ground.specs.Lists.{anyb, every, eq_list}
use Rattle.sheet.specs.Bytes.{in_bytes, value_from, from_bytes, two, two_bytes}
use Rattle.sheet.specs.Sheet.{mark, mark_bytes, most_narrow, version, encode_as, encode}
use Rattle.sheet.specs.Reading.{Item, item, fault, Reading, onward, one, bytes, any_two, is_version, good_part_count, number_size, new_number}
use Rattle.sheet.specs.Reading.{numbers, records, Front, front, run_of, whole, decode}
use Rattle.sheet.proofs.Written.{one_good, one_bad}
use Rattle.sheet.proofs.Widths.{Versioned, narrow, wide, versioned}
use Rattle.demands.specs.Versions.{is_first, few_parts, front_first, decode_first, FirstRead, FirstWritten, FirstRefuses}

------------------------------------------------------------------------
-- Readings

-- what is known of whatever was read, and of the bytes behind it
data Reads {A : Type 0} (P : A → List ℕ → Type 0) : Item A → Type 0 where
  reads : {a : A} {bs : List ℕ} {o : ℕ} → P a bs → Reads P (item a bs o)
  faulty : {o : ℕ} → Reads P (fault o)

module _ {A B : Type 0} {P : A → List ℕ → Type 0} where
  onward_reads : {Q : B → List ℕ → Type 0} {m : Item A} (f : A → Reading B) → Reads P m →
      ((a : A) (bs : List ℕ) (o : ℕ) → P a bs → Reads Q (f a bs o)) → Reads Q (onward m f)
  unfolding onward
  onward_reads f (reads {a = a} {bs = bs} {o = o} p) g = g a bs o p
  onward_reads f (faulty {o = o}) g = faulty {o = o}

  onward_same : {m : Item A} (f g : A → Reading B) → Reads P m → ((a : A) (bs : List ℕ) (o : ℕ) → P a bs → f a bs o ≡ g a bs o) →
      onward m f ≡ onward m g
  unfolding onward
  onward_same f g (reads {a = a} {bs = bs} {o = o} p) h = h a bs o p
  onward_same f g (faulty {o = o}) h = refl

-- an item: it is good, and the others stand behind its bytes
record Here (size : ℕ) (good : List ℕ → Bool) (bs b rest : List ℕ) : Type 0 where
  is_good : good b ≡ true
  others : rest ≡ drop size bs

one_reads : (size : List ℕ → ℕ) (good : List ℕ → Bool) (bs : List ℕ) (o : ℕ) → Reads (Here (size bs) good bs) (one size good bs o)
unfolding one
one_reads size good bs o = go (leb (size bs) (length bs)) (good (take (size bs) bs)) refl
  where
    go : (x y : Bool) → good (take (size bs) bs) ≡ y →
        Reads (Here (size bs) good bs) (cond (x && y) (item (take (size bs) bs) (drop (size bs) bs) (o + size bs)) (fault o))
    go true true e = reads (record { is_good = e; others = refl })
    go true false e = faulty {o = o}
    go false y e = faulty {o = o}

one_same : (size : List ℕ → ℕ) (good other : List ℕ → Bool) (bs : List ℕ) (o : ℕ) → good (take (size bs) bs) ≡ other (take (size bs) bs) →
    one size good bs o ≡ one size other bs o
unfolding one
one_same size good other bs o e = rw e

-- so many numbers are so many
abbrev Many : ℕ → List (List ℕ) → List ℕ → Type 0
Many n ns rest = length ns ≡ n

numbers_many : (n : ℕ) (seen : List (List ℕ)) (bs : List ℕ) (o : ℕ) → Reads (Many n) (numbers n seen bs o)
unfolding numbers
numbers_many zero seen bs o = reads {o = o} refl
numbers_many (suc n) seen bs o =
    onward_reads _ (one_reads number_size (new_number seen) bs o) (λ b rest p _.
    onward_reads _ (numbers_many n (drop 1 b ∷ seen) rest p) (λ ns last q e. reads {o = q} (ap suc e)))

------------------------------------------------------------------------
-- The rules of version 1

version_first : (b : List ℕ) → (from_bytes b ≡ 2 → ⊥) → is_version b ≡ is_first b
unfolding is_version is_first anyb
version_first b h = rw (ne_eqb (from_bytes b) 2 h) (or-false (eqb (from_bytes b) 1))

is_first_lem : (v : List ℕ) → is_first v ≡ true → from_bytes v ≡ 1
unfolding is_first
is_first_lem v e = eqb-true (from_bytes v) 1 e

count_first : (v p : List ℕ) → from_bytes v ≡ 1 → good_part_count (from_bytes v) p ≡ few_parts p
unfolding good_part_count few_parts every
count_first v p e = rw e (go (from_bytes p) (versioned (from_bytes p)))
  where
    go : (n : ℕ) → Versioned n (version n) → (leb n most_parts && (eqb 1 (version n) && true)) ≡ leb n most_narrow
    go n (narrow h i) = rw (i, le-leb n most_parts (omega arith), le-leb n most_narrow h)
    go n (wide h i) = rw (i, lt-leb n most_narrow h) (and-false (leb n most_parts))

few_first : (p : List ℕ) → few_parts p ≡ true → from_bytes p ≤ most_narrow
unfolding few_parts
few_first p e = leb-true (from_bytes p) most_narrow e

-- up to 255 parts
version_narrow : (n : ℕ) → n ≤ most_narrow → version n ≡ 1
unfolding version
version_narrow n h = rw (le-leb n most_narrow h)

version_wide : (n : ℕ) → most_narrow < n → version n ≡ 2
unfolding version
version_wide n h = rw (lt-leb n most_narrow h)

------------------------------------------------------------------------
-- The front, and the sheet

front_first_lem : (s : List ℕ) → (from_bytes (take two_bytes (drop mark_bytes s)) ≡ 2 → ⊥) → front s 0 ≡ front_first s 0
unfolding front front_first bytes
front_first_lem s h =
    onward_same _ _ (one_reads (bytes mark_bytes) (eq_list mark) s 0) (λ m r1 o1 t1.
    let e : is_version (take two_bytes r1) ≡ is_first (take two_bytes r1) = version_first (take two_bytes r1) (rw t1.others h) in
    rw (one_same (bytes two_bytes) is_version is_first r1 o1 e)
    (onward_same _ _ (one_reads (bytes two_bytes) is_first r1 o1) (λ v r2 o2 t2.
    let g = good_part_count (from_bytes v) in
    rw (one_same (bytes two_bytes) g few_parts r2 o2 (count_first v (take two_bytes r2) (is_first_lem v t2.is_good))) refl)))

abbrev Narrow : Front → List ℕ → Type 0
Narrow f bs = length f.parts ≤ most_narrow

front_narrow : (s : List ℕ) → Reads Narrow (front_first s 0)
unfolding front_first
front_narrow s =
    onward_reads _ (one_reads (bytes mark_bytes) (eq_list mark) s 0) (λ m r1 o1 _.
    onward_reads _ (one_reads (bytes two_bytes) is_first r1 o1) (λ v r2 o2 _.
    onward_reads _ (one_reads (bytes two_bytes) few_parts r2 o2) (λ p r3 o3 t.
    onward_reads _ (numbers_many (from_bytes p) [] r3 o3) (λ ns r4 o4 e.
    onward_reads _ (one_reads (bytes two_bytes) any_two r4 o4) (λ k r5 o5 _.
    reads {o = o5} (omega (arith, few_first p t.is_good)))))))

run_first : (f : Front) (bs : List ℕ) (o : ℕ) → length f.parts ≤ most_narrow →
    whole f.parts (run_of f bs o) ≡ whole f.parts (records 1 f.announced (length f.parts) [] bs o)
unfolding run_of
run_first f bs o h = rw (version_narrow (length f.parts) h)

pub first_read : FirstRead
unfolding decode decode_first
first_read s h = rw (front_first_lem s h) (onward_same _ _ (front_narrow s) run_first)

pub first_written : FirstWritten
unfolding encode
first_written c = (
  λ h. ap (λ (v : ℕ). encode_as v c) (version_narrow (length c.parts) h),
  λ h. ap (λ (v : ℕ). encode_as v c) (version_wide (length c.parts) h),
)

not_first : (bs : List ℕ) → is_first (take two_bytes (two 2 ++ bs)) ≡ false
unfolding is_first value_from in_bytes
not_first bs = refl

pub first_refuses : FirstRefuses
unfolding decode_first front_first onward bytes eq_list
first_refuses bs =
    let e = one_good (bytes mark_bytes) (eq_list mark) mark (two 2 ++ bs) 0 refl refl in
    rw (e, one_bad (bytes two_bytes) is_first (two 2 ++ bs) 3 (not_first bs))
