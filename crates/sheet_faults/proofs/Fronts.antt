-- The front of a sheet, mark to kit count, and its numbers: taken whole, whatever follows; cut, at fault where the cut item starts.
use mathlib.Core.Path.{◌≡◌, refl, sym}
use mathlib.Core.Bool.{Bool, true, false}
use mathlib.Core.List.{List, [], ◌∷◌, ◌++◌, map}
use Prim.Native.Nat.{ℕ, zero, suc, ◌≤◌, ◌<◌}
use native.Mathlib.Omega.{arith}
use lib.ListN.{length, take, drop}
use Rattle.ground.specs.Limits.{most_parts, two_limit}
use Rattle.ground.specs.Lists.{anyb, eq_list}
use Rattle.ground.proofs.Laws.{eq_list_refl}
use Rattle.register.specs.Number.{good_number}
use Rattle.sheet.specs.Bytes.{from_bytes, two, two_bytes}
use Rattle.sheet.specs.Sheet.{mark, mark_bytes, version, number_item}
use Rattle.sheet.specs.Reading.{Reading, ◌>>=◌, give, one, bytes, any_two, is_version, good_part_count, number_size, new_number, numbers, Front, front}
use Rattle.sheet.proofs.Numbers.{two_back, two_length}
use Rattle.sheet.proofs.Widths.{version_good, count_good}
use Rattle.sheet.proofs.Written.{NewNumbers, no_more, another, number_new, number_as_long, any_good}
use Rattle.sheet_faults.specs.Faults.{front_items, announcing}
use Rattle.sheet_faults.proofs.Cuts.{GoesOver, over_one, over_none, over_behind, over_given}

-- a number with its length
number_cut_short : (n : List ℕ) (k : ℕ) → k < length (number_item n) → k < number_size (take k (number_item n))
unfolding number_size number_item
number_cut_short n zero h = omega arith
number_cut_short n (suc k) h = omega arith

over_number : (seen : List (List ℕ)) (n : List ℕ) → good_number n ≡ true → anyb (eq_list n) seen ≡ false →
    GoesOver (one number_size (new_number seen)) (number_item n ∷ []) (number_item n)
over_number seen n g h = over_one number_size (new_number seen) (number_item n) (number_as_long n) (number_cut_short n) (number_new seen n g h)

-- numbers behind those seen
abbrev after_number : ℕ → List (List ℕ) → List ℕ → Reading (List (List ℕ))
after_number k seen b = ◌>>=◌ (numbers k (drop 1 b ∷ seen)) (λ ns. give (drop 1 b ∷ ns))

pub over_numbers : {seen ns : List (List ℕ)} → NewNumbers seen ns → GoesOver (numbers (length ns) seen) (map number_item ns) ns
unfolding numbers number_item
over_numbers no_more = over_none []
over_numbers (another {seen = seen} {ns = ns} {n = n} g h gs) =
    over_behind (after_number (length ns) seen) (map number_item ns) (over_number seen n g h) (over_given (◌∷◌ n) (over_numbers gs))

-- an item of so many bytes
over_fixed : (w : ℕ) (good : List ℕ → Bool) (b : List ℕ) → length b ≡ w → good b ≡ true → GoesOver (one (bytes w) good) (b ∷ []) b
unfolding bytes
over_fixed w good b e g = over_one (bytes w) good b (λ rest. sym e) (λ n h. omega arith) g

over_two : (good : List ℕ → Bool) (n : ℕ) → good (two n) ≡ true → GoesOver (one (bytes two_bytes) good) (two n ∷ []) (two n)
over_two good n g = over_fixed two_bytes good (two n) (two_length n) g

------------------------------------------------------------------------
-- The front

-- what is read behind each of its items
abbrev pub after_numbers : List (List ℕ) → Reading Front
after_numbers ps = ◌>>=◌ (one (bytes two_bytes) any_two) (λ k. give (announcing ps (from_bytes k)))

abbrev pub after_count : List ℕ → Reading Front
after_count p = ◌>>=◌ (numbers (from_bytes p) []) after_numbers

abbrev pub after_version : List ℕ → Reading Front
after_version v = ◌>>=◌ (one (bytes two_bytes) (good_part_count (from_bytes v))) after_count

abbrev pub after_mark : List ℕ → Reading Front
after_mark m = ◌>>=◌ (one (bytes two_bytes) is_version) after_version

module _ {ps : List (List ℕ)} {n : ℕ} (new : NewNumbers [] ps) (few : length ps ≤ most_parts) (counted : n < two_limit) where
  over_kit_count : GoesOver (after_numbers ps) (two n ∷ []) (announcing ps n)
  over_kit_count = rw (two_back n counted) at (over_given (λ k. announcing ps (from_bytes k)) (over_two any_two n (any_good (two n))))

  over_parts : GoesOver (after_count (two (length ps))) (map number_item ps ++ (two n ∷ [])) (announcing ps n)
  over_parts =
      let e : from_bytes (two (length ps)) ≡ length ps = two_back (length ps) (omega arith) in
      rw e (over_behind after_numbers (two n ∷ []) (over_numbers new) over_kit_count)

  pub over_front : GoesOver front (front_items ps n) (announcing ps n)
  unfolding front front_items
  over_front =
      let n = length ps in
      let v = version n in
      over_behind after_mark _ (over_fixed mark_bytes (eq_list mark) mark refl (eq_list_refl mark))
      (over_behind after_version _ (over_two is_version v (version_good n))
      (over_behind after_count _ (over_two (good_part_count (from_bytes (two v))) n (count_good n few)) over_parts))
