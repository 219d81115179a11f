-- The sheet of two sound tables: its items one behind the other, and how many bytes they take.
use mathlib.Core.Path.{◌≡◌, refl, ap, sym}
use mathlib.Core.Logic.{⊎_elim, ◌≢◌}
use mathlib.Core.List.{List, ◌++◌, append_assoc}
use Prim.Native.Nat.{ℕ, suc, ◌+◌, ◌*◌, ◌≤◌}
use native.Mathlib.Omega.{arith}
use lib.ListN.{length, length-append}
use Rattle.ground.specs.Lists.{from}
use Rattle.ground.proofs.Laws.{length_from}
use Rattle.kits.specs.Kits.{most_place}
use Rattle.register.specs.Register.{parts_of}
use Rattle.register.specs.Inner.{Ready}
use Rattle.register.proofs.Sound.{ready_holds, holds_parts}
use Rattle.nodes.specs.Nodes.{tag, child, next, size, nodes_of, most_nodes, is_used, used_nodes}
use Rattle.nodes.specs.Inner.{Shape, Used, Live, walk, walk_all}
use Rattle.nodes.specs.Held.{listed}
use Rattle.nodes.proofs.Beginnings.{used_walk}
use Rattle.nodes.proofs.Units.{listed_is_walk}
use Rattle.nodes.proofs.Lists.{same_or}
use Rattle.nodes.proofs.Sorted.{keep_short}
use Rattle.nodes.proofs.Walk.{ind, walk_some, root_child}
use Rattle.sheet.specs.Bytes.{two}
use Rattle.sheet.specs.Sheet.{contents_of, mark, version, place_bytes, number_items, record_items, encode_as, encode}
use Rattle.sheet.specs.Inner.{Width, most_record}
use Rattle.sheet.proofs.Numbers.{two_length}
use Rattle.sheet_write.specs.Inner.{head_items, numbers_from, kits_at, records_at, own_record, records_from, all_records}
use Rattle.sheet_write.proofs.Records.{own_none, own_length, row_most, from_none, from_some}

module _ (w : ℕ) (N : List ℕ) where
  listed_records : Shape most_place N → record_items w (listed N) ≡ all_records w N
  unfolding records_at kits_at
  listed_records S = ap (record_items w) (listed_is_walk S)

-- no record takes more than 195 bytes, and there are no more than nodes
module _ {w : ℕ} (width : Width w) (N : List ℕ) (S : Shape most_place N) where
  own_most : (i : ℕ) → Used N i → length (own_record w N i) ≤ most_record
  own_most i u = ⊎_elim
      (λ (e : tag N i ≡ 0). omega (arith, ap length (own_none w N i e)))
      (λ (f : tag N i ≢ 0). omega (arith, own_length N S i u width (tag N i) refl f, row_most N S i u width))
      (same_or (tag N i) 0)

  walk_most : (i : ℕ) → Live N i → length (records_from w N i) ≤ most_record * length (walk N i)
  walk_most =
      ind S (λ (i : ℕ). length (records_from w N i) ≤ most_record * length (walk N i))
      (omega (arith, ap length (from_none w N S)))
      (λ i u h k. omega (
        arith,
        h,
        k,
        own_most i u,
        ap length (from_some w N S i u),
        length-append (own_record w N i) (records_from w N (child N i) ++ records_from w N (next N i)),
        length-append (records_from w N (child N i)) (records_from w N (next N i)),
        ap length (walk_some S i u),
        length-append (walk N (child N i)) (walk N (next N i)),
      ))

  walk_few : suc (length (walk N (child N 0))) ≤ most_nodes
  unfolding walk_all used_nodes nodes_of
  walk_few = omega (arith, used_walk S, keep_short (is_used N) (from 0 (size N)), length_from 0 (size N), S.sized.most)

  pub records_most : length (all_records w N) ≤ most_record * most_nodes
  records_most = omega (arith, walk_most (child N 0) (root_child S), walk_few)

module _ (R : List ℕ) (ready : Ready R) where
  pub parts_numbers : number_items (parts_of R) ≡ numbers_from R 0 (length (parts_of R))
  unfolding numbers_from
  parts_numbers = ap number_items (holds_parts R (length (parts_of R)) (ready_holds R ready))

-- the items of the sheet
module _ (R N : List ℕ) (ready : Ready R) (n m : ℕ) (parts : n ≡ length (parts_of R)) (kits : m ≡ length (listed N)) where
  pub sheet_items : Shape most_place N →
      encode (contents_of R N) ≡ head_items n ++ (numbers_from R 0 n ++ (two m ++ all_records (place_bytes n) N))
  unfolding encode encode_as head_items
  sheet_items S =
      let p = length (parts_of R) in
      let e = parts_numbers R ready in
      let f = listed_records (place_bytes p) N S in
      let A = numbers_from R 0 p in
      let B = two (length (listed N)) ++ all_records (place_bytes p) N in
      rw (parts, kits, e, f) (ap (λ (x : List ℕ). mark ++ x) (sym (append_assoc (two (version p)) (two p) (A ++ B))))

  pub sheet_size : Shape most_place N →
      length (encode (contents_of R N)) ≡ 7 + length (numbers_from R 0 n) + 2 + length (all_records (place_bytes n) N)
  unfolding encode encode_as
  sheet_size S =
      let P = number_items (parts_of R) in
      let k = length (listed N) in
      let p = length (parts_of R) in
      let K = record_items (place_bytes p) (listed N) in
      let e : length P ≡ length (numbers_from R 0 n) = rw parts (ap length (parts_numbers R ready)) in
      let f : length K ≡ length (all_records (place_bytes n) N) = rw parts (ap length (listed_records (place_bytes p) N S)) in
      omega (
        arith,
        e,
        f,
        two_length (version p),
        two_length p,
        two_length k,
        length-append (two (version p))
            (two p ++ (P ++ (two k ++ K))),
        length-append (two p) (P ++ (two k ++ K)),
        length-append P (two k ++ K),
        length-append (two k) K,
      )
