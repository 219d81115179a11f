-- What stands in a sheet from a place on: bytes, numbers, and kit records with their lists.
use mathlib.Core.Path.{◌≡◌, refl, ap, sym, ◌∙◌}
use mathlib.Core.Bool.{Bool, true, false, cond}
use Rattle.std.specs.Prelude.{Some, None}
use mathlib.Core.List.{List, [], ◌∷◌, ◌++◌, append_assoc}
use Prim.Native.Nat.{ℕ, zero, suc, ◌+◌, ◌-◌, ◌*◌, ◌≤◌, ◌<◌}
use native.Mathlib.Nat.{add-zero, suc-mul}
use native.Mathlib.Numerals.{add-one}
use native.Mathlib.Omega.{arith}
use lib.ListN.{length, take, drop, get_or, set, replicate, length-drop, length-append, length-replicate}
use lib.Dec.{leb}
use lib.Seq.{take_at, take-nil, drop-drop, get_or-drop, get_or-take, take-take, drop-cons}
use borrow.Author.Tests.{le-leb, lt-leb, leb-true}
use Rattle.ground.specs.Limits.{byte_limit}
use Rattle.ground.specs.Laid.{laid}
use Rattle.ground.proofs.Laid.{laid_front, laid_set}
use Rattle.repeats.specs.Inner.{number_here, next_place}
use Rattle.kits.specs.Kits.{units}
use Rattle.sheet.specs.Bytes.{value_from, from_bytes, two_bytes}
use Rattle.sheet.specs.Sheet.{line_bytes, line_words, count_at, lines_at}
use Rattle.sheet.specs.Inner.{record_words, numbers_at, end_at, record_at, record_end, line_count, lines_size, list_at, WholeAt}
use Rattle.sheet.specs.Reading.{number_size, record_size, lines_read, list_in, kit_in}

-- what is dropped of what was taken
pub drop_taken : (n m : ℕ) (l : List ℕ) → drop n (take (n + m) l) ≡ take m (drop n l)
drop_taken zero m l = let e : zero + m ≡ m = omega arith in rw e
drop_taken (suc n) m [] = let e : suc n + m ≡ suc (n + m) = omega arith in rw e (sym (take-nil m))
drop_taken (suc n) m (x ∷ l) = let e : suc n + m ≡ suc (n + m) = omega arith in rw e (drop_taken n m l)

------------------------------------------------------------------------
-- One byte and two

pub two_value : (s : List ℕ) (at : ℕ) → at + two_bytes ≤ length s → from_bytes (take two_bytes (drop at s)) ≡ get_or s at 0 * byte_limit + get_or s (at + 1) 0
unfolding value_from
two_value s at h =
    let d : drop at s ≡ get_or s at 0 ∷ get_or s (suc at) 0 ∷ drop (suc (suc at)) s = drop-cons s at 0 (omega arith) ∙ rw
    (drop-cons s (suc at) 0 (omega arith)) refl in
    rw (d, add-one at) (omega arith)

pub one_value : (s : List ℕ) (at : ℕ) → at < length s → from_bytes (take 1 (drop at s)) ≡ get_or s at 0
unfolding value_from
one_value s at h =
    let d : drop at s ≡ get_or s at 0 ∷ drop (suc at) s = drop-cons s at 0 h in
    rw d (omega arith)

------------------------------------------------------------------------
-- Numbers

module _ (s : List ℕ) where
  pub end_last : (j k : ℕ) → end_at s j (suc k) ≡ next_place s (end_at s j k)
  unfolding end_at
  end_last j zero = refl
  end_last j (suc k) = end_last (next_place s j) k

  pub numbers_at_last : (j k : ℕ) → numbers_at s j (suc k) ≡ numbers_at s j k ++ (number_here s (end_at s j k) ∷ [])
  unfolding numbers_at end_at
  numbers_at_last j zero = refl
  numbers_at_last j (suc k) = ap (◌∷◌ (number_here s j)) (numbers_at_last (next_place s j) k)

  pub numbers_many : (j k : ℕ) → length (numbers_at s j k) ≡ k
  unfolding numbers_at
  numbers_many j zero = refl
  numbers_many j (suc k) = ap suc (numbers_many (next_place s j) k)

-- The number at a place
module _ (s : List ℕ) (at : ℕ) where
  pub size_here : number_size (drop at s) ≡ 1 + get_or s at 0
  unfolding number_size
  size_here = rw (get_or-drop at s 0 0, add-zero)

  pub size_some : 0 < number_size (drop at s)
  size_some = omega (arith, size_here)

  pub read_here : drop 1 (take (number_size (drop at s)) (drop at s)) ≡ number_here s at
  read_here = rw (size_here) (drop_taken 1 (get_or s at 0) (drop at s) ∙ rw (drop-drop) refl)

------------------------------------------------------------------------
-- Kit records

-- The lines of a record, whose places take w bytes
module _ (w : ℕ) where
  pub lines_count : (n : ℕ) (bs : List ℕ) → length (lines_read w n bs) ≡ n * line_words
  unfolding lines_read
  lines_count zero bs = omega arith
  lines_count (suc n) bs = omega (arith, lines_count n (drop (line_bytes w) bs))

  -- they are read from their own bytes alone
  lines_taken : (n : ℕ) (bs : List ℕ) → lines_read w n (take (n * line_bytes w) bs) ≡ lines_read w n bs
  unfolding lines_read
  lines_taken zero bs = refl
  lines_taken (suc n) bs =
      let m = n * line_bytes w in
      let e : suc n * line_bytes w ≡ line_bytes w + m = suc-mul n (line_bytes w) ∙ (omega arith) in
      let t : take w (take (line_bytes w + m) bs) ≡ take w bs = take-take w (line_bytes w + m) bs (omega arith) in
      let q : get_or (take (line_bytes w + m) bs) w 0 ≡ get_or bs w 0 = get_or-take (line_bytes w + m) bs w 0 (omega arith) in
      rw (e, t, q, drop_taken (line_bytes w) m bs, lines_taken n (drop (line_bytes w) bs))

  -- and one line more stands behind those before it
  pub lines_next : (n : ℕ) (bs : List ℕ) → lines_read w (suc n) bs ≡ lines_read w n bs
      ++ (from_bytes (take w (drop (n * line_bytes w) bs)) ∷ get_or bs (n * line_bytes w + w) 0 ∷ [])
  unfolding lines_read
  lines_next zero bs =
      let e : 0 * line_bytes w ≡ 0 = omega arith in
      let z : 0 + w ≡ w = omega arith in
      rw (e, z) refl
  lines_next (suc n) bs =
      let m = n * line_bytes w in
      let e : suc n * line_bytes w ≡ line_bytes w + m = suc-mul n (line_bytes w) ∙ (omega arith) in
      let q : get_or (drop (line_bytes w) bs) (m + w) 0 ≡ get_or bs (line_bytes w + m + w) 0 = get_or-drop (line_bytes w) bs (m + w) 0 ∙ ap
      (λ (i : ℕ). get_or bs i 0) (omega arith) in
      ap (λ (l : List ℕ). from_bytes (take w bs) ∷ get_or bs w 0 ∷ l) (lines_next n (drop (line_bytes w) bs) ∙ rw (e, q, drop-drop) refl)

-- The record at a place
module _ (w : ℕ) (s : List ℕ) (at : ℕ) where
  pub size_at : record_size w (drop at s) ≡ lines_at + lines_size w s at
  unfolding record_size
  size_at = rw (get_or-drop at s count_at 0)

  pub end_cut : at ≤ length s → length s - at < lines_at + lines_size w s at → None ≡ record_end w s at
  unfolding record_end
  end_cut h k = rw (lt-leb (record_size w (drop at s)) (length (drop at s)) (omega (arith, size_at, length-drop at s)))

  pub end_whole : WholeAt w s at → Some (at + record_size w (drop at s)) ≡ record_end w s at
  unfolding record_end
  end_whole h = rw (le-leb (record_size w (drop at s)) (length (drop at s)) (omega (arith, size_at, length-drop at s)))

  module _ (inside : at ≤ length s) where
    pub end_moved : (r : ℕ) → Some r ≡ record_end w s at → WholeAt w s at × (r ≡ at + record_size w (drop at s))
    unfolding record_end
    end_moved r e = go (leb (record_size w (drop at s)) (length (drop at s))) refl e
      where
        go : (x : Bool) → leb (record_size w (drop at s)) (length (drop at s)) ≡ x →
            Some r ≡ cond x (Some (at + record_size w (drop at s))) None → WholeAt w s at × (r ≡ at + record_size w (drop at s))
        go true l g = (omega (arith, leb-true (record_size w (drop at s)) (length (drop at s)) l, size_at, length-drop at s), cc)
        go false l g = absurd (let z : ◌≡◌ {A = Bool} true false = cc in cc)

  pub list_is : list_in w (record_at w s at) ≡ list_at w s at
  unfolding list_in
  list_is =
      let n = line_count s at in
      let c : get_or (record_at w s at) count_at 0 ≡ n = get_or-take (record_size w (drop at s)) (drop at s) count_at 0
      (omega (arith, size_at)) ∙ get_or-drop at s count_at 0 in
      let d : drop lines_at (record_at w s at) ≡ take (lines_size w s at) (drop (at + lines_at) s) = ap
      (λ (m : ℕ). drop lines_at (take m (drop at s))) size_at ∙ drop_taken lines_at (lines_size w s at) (drop at s) ∙ rw (drop-drop) refl in
      rw (c, d) (lines_taken w n (drop (at + lines_at) s))

  pub tag_is : (kit_in w (record_at w s at)).tag ≡ from_bytes (take two_bytes (drop at s))
  unfolding kit_in
  tag_is = ap from_bytes (take-take two_bytes (record_size w (drop at s)) (drop at s) (omega (arith, size_at)))

  pub row_is : (kit_in w (record_at w s at)).row ≡ units (list_at w s at)
  unfolding kit_in
  row_is = ap units list_is

  pub list_long : length (list_at w s at) ≡ line_count s at * line_words
  list_long = lines_count w (line_count s at) (drop (at + lines_at) s)

-- The words of a list, with zeros behind
abbrev pub words_of : List ℕ → List ℕ
words_of xs = laid (replicate record_words 0) 0 xs

module _ (xs : List ℕ) where
  pub words_part : length xs ≤ record_words → (n : ℕ) → length xs ≡ n → take n (words_of xs) ≡ xs
  words_part few n e =
      rw (laid_front (replicate record_words 0) xs (simp length-replicate few)) (take_at xs (drop (length xs) (replicate record_words 0)) n e)

  -- two words more
  pub words_on : (i x y : ℕ) → i ≡ length xs → set (set (words_of xs) i x) (i + 1) y ≡ words_of (xs ++ (x ∷ y ∷ []))
  words_on i x y e =
      let zs = replicate {A = ℕ} record_words 0 in
      let z : i ≡ 0 + length xs = omega arith in
      let a : set (words_of xs) i x ≡ words_of (xs ++ (x ∷ [])) = ap (λ (j : ℕ). set (words_of xs) j x) z ∙ laid_set zs 0 xs x in
      let j : i + 1 ≡ 0 + length (xs ++ (x ∷ [])) = omega (arith, length-append xs (x ∷ [])) in
      rw (a, j) (laid_set zs 0 (xs ++ (x ∷ [])) y ∙ ap words_of (append_assoc xs (x ∷ []) (y ∷ [])))

-- of the words that were read, as many as it has are lent
pub lent_list_lem : (w : ℕ) (s : List ℕ) (at : ℕ) {n : ℕ} {l : List ℕ} → n ≡ line_count s at * line_words → n ≤ record_words → l ≡ words_of (list_at w s at) →
    take n l ≡ list_at w s at
lent_list_lem w s at {n} e k f = rw f (words_part (list_at w s at) (omega (arith, list_long w s at)) n (omega (arith, list_long w s at)))
