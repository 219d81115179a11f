-- How far a faulty item can stand from the start of a sheet, however long the sheet is.
use mathlib.Core.Path.{◌≡◌, refl}
use mathlib.Core.Bool.{Bool, true, false, ◌&&◌, cond}
use mathlib.Core.List.{List, [], ◌∷◌}
use Prim.Native.Nat.{ℕ, zero, suc, ◌+◌, ◌*◌, ◌≤◌, ◌<◌}
use native.Mathlib.Omega.{arith}
use lib.ListN.{length, drop, get_or}
use borrow.Author.Tests.{leb-true}
use Rattle.ground.specs.Limits.{two_limit, most_parts}
use Rattle.ground.specs.Lists.{eq_list, is_zero}
use Rattle.ground.proofs.Laws.{every_at}
use Rattle.nodes.specs.Held.{Kit}
use Rattle.sheet.specs.Bytes.{from_bytes, Bytes}
use Rattle.sheet.specs.Sheet.{Contents, mark}
use Rattle.sheet.specs.Inner.{Width}
use Rattle.sheet.specs.Reading.{Item, item, fault, bytes, is_version, good_part_count, any_two, number_size, new_number}
use Rattle.sheet.specs.Reading.{numbers, record_size, new_kit, kit_in, Run, stop, also, unless, records, Front, front, run_of, whole, decode}
use Rattle.sheet.specs.Reading.{offset, Salvage, salvaged, salvage, rescued}
use Rattle.sheet.proofs.Numbers.{from_less}
use Rattle.sheet.proofs.Widths.{lines_most, version_width}
use Rattle.sheet.proofs.Accepted.{Taken, item_bytes, rest_bytes}
use Rattle.sheet.proofs.Reach.{Read, read, stopped, Any, onward_read, Took, one_read, bytes_read, offset_within}

-- the numbers: each takes at most 256 bytes
abbrev Behind : {A : Type 0} → A → List ℕ → ℕ → Type 0
Behind a bs o = Bytes bs

numbers_read : (n : ℕ) (seen : List (List ℕ)) (bs : List ℕ) (o : ℕ) → Bytes bs → Read Behind (o + n * 256) (numbers n seen bs o)
unfolding numbers number_size
numbers_read zero seen bs o h = read {o = o} h (omega arith)
numbers_read (suc n) seen bs o h =
    onward_read _ (one_read number_size (new_number seen) bs o (o + 256) (omega arith) (λ b rest p t. omega (arith, t.next, h 0))) (omega arith)
    (λ b rest p t l. onward_read _ (numbers_read n (drop 1 b ∷ seen) rest p (rest_bytes t h)) (omega arith) (λ ns last q v k.
    read {o = q} v (omega arith)))

-- the front: mark, version, part count, at most 4,000 numbers, kit count
abbrev front_most : ℕ
front_most = 1024009

record Announced (f : Front) (bs : List ℕ) (o : ℕ) : Type 0 where
  few : f.announced < two_limit
  behind : Bytes bs

count_few : (v : ℕ) (b : List ℕ) → good_part_count v b ≡ true → from_bytes b ≤ most_parts
unfolding good_part_count
count_few v b e = leb-true (from_bytes b) most_parts (every_at _ 0 e)

front_read : (s : List ℕ) → Bytes s → Read Announced front_most (front s 0)
unfolding front bytes
front_read s h =
    onward_read _ (bytes_read 3 (eq_list mark) s 0 3 (omega arith)) (omega arith) (λ m r1 o1 t1 l1.
    onward_read _ (bytes_read 2 is_version r1 o1 5 (omega arith)) (omega arith) (λ v r2 o2 t2 l2.
    onward_read _ (bytes_read 2 (good_part_count (from_bytes v)) r2 o2 7 (omega arith)) (omega arith) (λ p r3 o3 t3 l3.
    let few = count_few (from_bytes v) p t3.is_good in
    onward_read _ (numbers_read (from_bytes p) [] r3 o3 (rest_bytes t3 (rest_bytes t2 (rest_bytes t1 h)))) (omega arith) (λ ns r4 o4 h4 l4.
    onward_read _ (bytes_read 2 any_two r4 o4 front_most (omega arith)) (omega arith) (λ k r5 o5 t5 l5.
    read {o = o5} (record { few = from_less 2 k t5.long (item_bytes t5 h4); behind = rest_bytes t5 h4 }) l5)))))

-- the kit records: each takes at most 768 bytes
module _ (w : ℕ) (width : Width w) where
  record_far : (bs : List ℕ) → Bytes bs → record_size w bs ≤ 768
  unfolding record_size
  record_far bs h = omega (arith, lines_most width (get_or bs 2 0) 255 (omega (arith, h 2)))

  records_far : (n parts : ℕ) (seen : List Kit) (bs : List ℕ) (o : ℕ) → Bytes bs → (records w n parts seen bs o).offset ≤ o + n * 768
  unfolding records unless
  records_far zero parts seen bs o h = omega arith
  records_far (suc n) parts seen bs o h =
      go (one_read (record_size w) (new_kit w parts seen) bs o (o + 768) (omega arith) (λ b rest p t. omega (arith, t.next, record_far bs h)))
      (λ b rest p t l. records_far n parts (kit_in w b ∷ seen) rest p (rest_bytes t h))
    where
      go : {m : Item (List ℕ)} → Read (Took (record_size w) (new_kit w parts seen) bs o) (o + 768) m →
          ((b rest : List ℕ) (p : ℕ) → Taken (record_size w) (new_kit w parts seen) bs b rest o p → p ≤ o + 768 →
          (records w n parts (kit_in w b ∷ seen) rest p).offset ≤ p + n * 768)
          → (unless m (stop (suc n) bs o) (λ b rest p. also (kit_in w b) (records w n parts (kit_in w b ∷ seen) rest p))).offset ≤ o + suc n * 768
      go (read {a = b} {bs = rest} {o = p} t l) f = omega (arith, f b rest p t l)
      go (stopped l) f = omega arith

-- the sheet
abbrev pub farthest : ℕ
farthest = 51354889

run_far : (f : Front) (bs : List ℕ) (o : ℕ) → Announced f bs o → o ≤ front_most → (run_of f bs o).offset ≤ farthest
unfolding run_of
run_far f bs o a l =
    let n = length f.parts in
    omega (arith, records_far _ (version_width n) f.announced n [] bs o a.behind, a.few)

whole_read : (ps : List (List ℕ)) (r : Run) → r.offset ≤ farthest → Read Any farthest (whole ps r)
unfolding whole
whole_read ps r h = go (is_zero r.missing && is_zero (length r.rest))
  where
    go : (b : Bool) → Read {A = Contents} Any farthest (cond b (item (record { parts = ps; kits = r.kits }) r.rest r.offset) (fault r.offset))
    go true = read {o = r.offset} refl h
    go false = stopped {o = r.offset} h

decode_read : (s : List ℕ) → Bytes s → Read Any farthest (decode s)
unfolding decode
decode_read s h = onward_read _ (front_read s h) (omega arith) (λ f bs o w l. whole_read f.parts (run_of f bs o) (run_far f bs o w l))

-- "13's value is the offset where the first faulty item starts"
pub fault_near : (s : List ℕ) → Bytes s → offset (decode s) ≤ farthest
fault_near s h = offset_within (decode_read s h)

-- and so of salvage: its faults, where the run stops, and the kits announced
record Near (x : Salvage) (bs : List ℕ) (o : ℕ) : Type 0 where
  few : x.announced < two_limit
  near : x.stopped ≤ farthest

salvage_read : (s : List ℕ) → Bytes s → Read Near farthest (salvage s)
unfolding salvage salvaged
salvage_read s h = onward_read _ (front_read s h) (omega arith) (λ f bs o w l.
    let d = run_far f bs o w l in
    read {o = (run_of f bs o).offset} (record { few = w.few; near = d }) d)

pub salvage_fault_near : (s : List ℕ) → Bytes s → offset (salvage s) ≤ farthest
salvage_fault_near s h = offset_within (salvage_read s h)

stop_near : {m : Item Salvage} → Read Near farthest m → ((rescued m).announced < two_limit) × ((rescued m).stopped ≤ farthest)
unfolding rescued
stop_near (read p h) = (p.few, p.near)
stop_near (stopped h) = (omega arith, omega arith)

pub stopped_near : (s : List ℕ) → Bytes s → ((rescued (salvage s)).announced < two_limit) × ((rescued (salvage s)).stopped ≤ farthest)
stopped_near s h = stop_near (salvage_read s h)
