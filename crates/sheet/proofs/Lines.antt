-- A kit record: how many bytes it takes, and the lines set down behind the tag and the line count.
use mathlib.Core.Path.{◌≡◌, refl, ap, ◌∙◌}
use mathlib.Core.Bool.{Bool, true, false, cond}
use mathlib.Core.List.{List, [], ◌∷◌, ◌++◌}
use Prim.Native.Nat.{ℕ, suc, ◌+◌, ◌*◌, ◌/◌, ◌≤◌}
use native.Mathlib.Omega.{arith}
use lib.ListN.{length, set}
use lib.Dec.{eqb}
use Rattle.ground.specs.Laid.{Put}
use Rattle.ground.proofs.Put.{Rest, rest_start, rest_put, rest_byte, put_one}
use Rattle.kits.specs.Kits.{most_place, lines_from, list_of}
use Rattle.kits.specs.Inner.{GoodRow}
use Rattle.kits.proofs.Good.{good_lines_lem}
use Rattle.kits.proofs.Units.{row_list_good}
use Rattle.sheet.specs.Bytes.{in_bytes, two}
use Rattle.sheet.specs.Sheet.{line_bytes, line_words, count_at, lines_at, line_items, record_item}
use Rattle.sheet.specs.Inner.{Width, kit_of, record_bytes}
use Rattle.sheet.proofs.Widths.{lines_over}
use Rattle.sheet.proofs.Written.{items_length}

few_from : (p q : ℕ) (us : List ℕ) → length (lines_from p q us) ≤ 2 + 2 * length us
unfolding lines_from
few_from p q [] = omega arith
few_from p q (x ∷ us) = go (eqb x p) (few_from p (suc q) us) (few_from x 1 us)
  where
    go : (t : Bool) → length (lines_from p (suc q) us) ≤ 2 + 2 * length us → length (lines_from x 1 us) ≤ 2 + 2 * length us →
        length (cond t (lines_from p (suc q) us) (p ∷ q ∷ lines_from x 1 us)) ≤ 2 + 2 * suc (length us)
    go true a b = omega arith
    go false a b = omega arith

-- a row of at most 64 units has at most 64 lines
pub lines_few : (us : List ℕ) → length (list_of us) ≤ 2 * length us
unfolding list_of
lines_few [] = omega arith
lines_few (x ∷ us) = omega (arith, few_from x 1 us)

module _ (w : ℕ) (r : List ℕ) (t : ℕ) (g : GoodRow most_place r) where
  pub record_size_lem : length (record_item w (kit_of r t)) ≡ lines_at + length (list_of r) / line_words * line_bytes w
  unfolding record_item in_bytes
  record_size_lem = omega (arith, items_length (good_lines_lem most_place (list_of r) (row_list_good most_place r g)) w)

  -- the record of a row is its tag and the bytes of its lines
  pub record_bytes_lem : Width w → record_bytes w t (line_items w (list_of r)) ≡ record_item w (kit_of r t)
  unfolding record_bytes record_item
  record_bytes_lem h =
      let ls = line_items w (list_of r) in
      let n = length (list_of r) / line_words in
      let long : length ls ≡ n * line_bytes w = items_length (good_lines_lem most_place (list_of r) (row_list_good most_place r g)) w in
      let e : length ls / line_bytes w ≡ n = ap (λ (m : ℕ). m / line_bytes w) long ∙ lines_over h n in
      ap (λ (n : ℕ). two t ++ (n ∷ ls)) e

pub record_long : (w t : ℕ) (ls : List ℕ) → length (record_bytes w t ls) ≡ lines_at + length ls
unfolding record_bytes in_bytes
record_long w t ls = omega arith

-- the tag and the line count are set down, and the lines are to come
pub kit_going : {l m : List ℕ} {r : ℕ} (w : ℕ) (ls : List ℕ) (t n : ℕ) → Put l 0 (two t) r m → n ≡ length ls / line_bytes w →
    length (record_bytes w t ls) ≤ length l → Rest l 0 (record_bytes w t ls) (set m count_at n) lines_at ls
unfolding record_bytes in_bytes
kit_going {l} {m} w ls t n p e h =
    let all = record_bytes w t ls in
    let t = rest_put (rest_start l 0 all (omega arith)) refl (put_at p) in
    rest_byte t refl e (put_one m count_at n)
  where
    put_at : {r : ℕ} → Put l 0 (two t) r m → Put l 0 (two t) count_at m
    put_at p = record { behind = refl; lies = p.lies }
