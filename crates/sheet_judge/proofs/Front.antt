-- Laws of the head of a sheet: mark, version and part count, and what follows them.
use mathlib.Core.Path.{◌≡◌, refl}
use mathlib.Core.Bool.{Bool, true, false, ◌&&◌, and-true}
use mathlib.Core.List.{List, []}
use Prim.Native.Nat.{ℕ, ◌≤◌, ◌<◌}
use native.Mathlib.Omega.{arith}
use lib.ListN.{length, take, drop}
use lib.Dec.{leb, eqb}
use borrow.Author.Tests.{leb-true}
use Rattle.ground.specs.Limits.{most_parts}
use Rattle.ground.specs.Lists.{anyb, every, eq_list}
use Rattle.ground.proofs.Laws.{and_left}
use Rattle.sheet.specs.Bytes.{from_bytes, two_bytes}
use Rattle.sheet.specs.Sheet.{mark, version, mark_bytes}
use Rattle.sheet.specs.Inner.{head_bytes, version_at, parts_at}
use Rattle.sheet.specs.Reading.{Item, item, fault, Reading, onward, one, bytes, any_two, versions, is_version, good_part_count, numbers}
use Rattle.sheet.specs.Reading.{Front, front, Salvage, salvage}
use Rattle.sheet.proofs.Written.{one_bad}
use Rattle.sheet.proofs.Items.{one_short, one_ok, bytes_short, bytes_bad, bytes_ok}
use Rattle.sheet_judge.specs.Inner.{behind_front, behind_numbers, Headed}

onward_item : {A B : Type 0} (a : A) (bs : List ℕ) (o : ℕ) (f : A → Reading B) → onward (item a bs o) f ≡ f a bs o
unfolding onward
onward_item a bs o f = refl

-- What follows the numbers
abbrev counted : List (List ℕ) → List ℕ → Front
counted ns k = record { parts = ns; announced = from_bytes k }

behind_all : (m : Item (List (List ℕ))) →
    onward (onward m (λ ns bs o. onward (one (bytes two_bytes) any_two bs o) (λ k rest p. item (counted ns k) rest p))) behind_front ≡ onward m behind_numbers
unfolding onward behind_numbers
behind_all (fault o) = refl
behind_all (item ns bs o) = go (one (bytes two_bytes) any_two bs o)
  where
    go : (x : Item (List ℕ)) →
        onward {B = Salvage} (onward x (λ k rest p. item (counted ns k) rest p)) behind_front ≡ onward x (λ k. behind_front (counted ns k))
    go (item k rest p) = refl
    go (fault p) = refl

-- The head of a sheet
module _ (s : List ℕ) where
  mark_item : mark_bytes ≤ length s → eq_list mark (take mark_bytes s) ≡ true →
      one (bytes mark_bytes) (eq_list mark) s 0 ≡ item (take mark_bytes s) (drop version_at s) version_at
  unfolding bytes
  mark_item h e = one_ok (bytes mark_bytes) (eq_list mark) s 0 h e

  pub no_mark : length s < mark_bytes → salvage s ≡ fault 0
  unfolding salvage front onward bytes
  no_mark h = let e = one_short (bytes mark_bytes) (eq_list mark) s 0 h in rw e

  pub bad_mark : eq_list mark (take mark_bytes s) ≡ false → salvage s ≡ fault 0
  unfolding salvage front onward bytes
  bad_mark f = let e = one_bad (bytes mark_bytes) (eq_list mark) s 0 f in rw e

  module _ (h : mark_bytes ≤ length s) (m : eq_list mark (take mark_bytes s) ≡ true) where
    version_fault : one (bytes two_bytes) is_version (drop version_at s) version_at ≡ fault version_at → salvage s ≡ fault version_at
    unfolding salvage front onward
    version_fault e = let f = mark_item h m in rw (f, e)

    pub no_version : length s < parts_at → salvage s ≡ fault version_at
    no_version k = version_fault (bytes_short two_bytes is_version s version_at h (omega arith))

    -- the version v, as it was read
    module _ (v : ℕ) (read : v ≡ from_bytes (take two_bytes (drop version_at s))) where
      known : {x : Bool} → anyb (eqb v) versions ≡ x → is_version (take two_bytes (drop version_at s)) ≡ x
      unfolding is_version
      known e = rw (← read) e

      pub bad_version : anyb (eqb v) versions ≡ false → salvage s ≡ fault version_at
      bad_version f = version_fault (bytes_bad two_bytes is_version s version_at (known f))

      module _ (k : parts_at ≤ length s) (g : anyb (eqb v) versions ≡ true) where
        version_item : one (bytes two_bytes) is_version (drop version_at s) version_at ≡ item (take two_bytes (drop version_at s)) (drop parts_at s) parts_at
        version_item = bytes_ok two_bytes is_version s version_at k (known g)

        count_fault : one (bytes two_bytes) (good_part_count v) (drop parts_at s) parts_at ≡ fault parts_at → salvage s ≡ fault parts_at
        unfolding salvage front onward
        count_fault e =
            let f = mark_item h m in
            let i = version_item in
            rw (f, i, ← read, e)

        pub no_count : length s < head_bytes → salvage s ≡ fault parts_at
        no_count l = count_fault (bytes_short two_bytes (good_part_count v) s parts_at k (omega arith))

        -- the part count n, as it was read
        module _ (n : ℕ) (count : n ≡ from_bytes (take two_bytes (drop parts_at s))) where
          count_told : {x : Bool} → (leb n most_parts && eqb v (version n)) ≡ x → good_part_count v (take two_bytes (drop parts_at s)) ≡ x
          unfolding good_part_count every
          count_told e = rw (← count, and-true) e

          pub bad_count : (leb n most_parts && eqb v (version n)) ≡ false → salvage s ≡ fault parts_at
          bad_count f = count_fault (bytes_bad two_bytes (good_part_count v) s parts_at (count_told f))

          module _ (l : head_bytes ≤ length s) (b : (leb n most_parts && eqb v (version n)) ≡ true) where
            count_item : one (bytes two_bytes) (good_part_count v) (drop parts_at s) parts_at
                ≡ item (take two_bytes (drop parts_at s)) (drop head_bytes s) head_bytes
            count_item = bytes_ok two_bytes (good_part_count v) s parts_at l (count_told b)

            numbers_next : salvage s ≡ onward (numbers n [] (drop head_bytes s) head_bytes) behind_numbers
            unfolding salvage front
            numbers_next =
                let f = mark_item h m in
                let i = version_item in
                let j = count_item in
                rw (f, onward_item, i, onward_item, ← read, j, onward_item, ← count) (behind_all (numbers n [] (drop head_bytes s) head_bytes))

            pub headed : (r : ℕ) → r ≡ n → Headed s r
            headed r e = rw e (record {
              inside = l;
              few = leb-true n most_parts (and_left (leb n most_parts) (eqb v (version n)) b);
              goes = numbers_next;
            })
