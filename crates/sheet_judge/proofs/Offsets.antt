-- The numbers at the offsets where those of a sheet start are these numbers: they end inside, and one more is told from them.
use mathlib.Core.Path.{◌≡◌, ap, refl, sym, ◌∙◌}
use mathlib.Core.Bool.{Bool}
use mathlib.Core.List.{List, ◌∷◌, map}
use Prim.Native.Nat.{ℕ, zero, suc, ◌+◌, ◌-◌, ◌≤◌, ◌<◌}
use native.Mathlib.Omega.{arith}
use lib.ListN.{length}
use Rattle.ground.specs.Lists.{anyb, eq_list, from}
use Rattle.ground.proofs.Laws.{map_from}
use Rattle.repeats.specs.Inner.{number_here, next_place, most_entries, entry_of, first_entries, is_repeat, EntriesInside}
use Rattle.repeats.proofs.Repeats.{Offsets, offsets_inside, offsets_entry}
use Rattle.sheet.specs.Inner.{numbers_at, end_at}
use Rattle.sheet.proofs.Places.{end_last}

module _ (s : List ℕ) (j : ℕ) where
  end_more : (k d : ℕ) → end_at s j k ≤ end_at s j (k + d)
  end_more k zero = let e : k + 0 ≡ k = omega arith in rw e (omega arith)
  end_more k (suc d) =
      let e : k + suc d ≡ suc (k + d) = omega arith in
      rw (e, end_last s j (k + d)) (omega (arith, end_more k d))

  -- where the last number ends inside, the others do
  item_inside : (k i : ℕ) → next_place s (end_at s j k) ≤ length s → i < k + 1 → next_place s (end_at s j i) ≤ length s
  item_inside k i h u =
      let d : suc i + (k - i) ≡ suc k = omega arith in
      let g : end_at s j (suc i) ≤ end_at s j (suc k) = rw d at (end_more (suc i) (k - i)) in
      omega (arith, end_last s j i, end_last s j k)

numbers_from_lem : (s : List ℕ) (j a k : ℕ) → map (λ i. number_here s (end_at s j i)) (from a k) ≡ numbers_at s (end_at s j a) k
unfolding numbers_at from
numbers_from_lem s j a zero = refl
numbers_from_lem s j a (suc k) = ap (◌∷◌ (number_here s (end_at s j a))) (numbers_from_lem s j (suc a) k ∙ rw (end_last s j a))

-- the number behind k others, from a place on
module _ (s a : List ℕ) (j k at : ℕ) (t : Offsets (end_at s j) a (k + 1)) (ends : at ≡ end_at s j k) where
  pub items_inside : k < most_entries → next_place s at ≤ length s → EntriesInside s a (k + 1)
  items_inside u h = offsets_inside s t (k + 1) (omega arith) (omega arith) (λ i v. item_inside s j k i (rw (← ends) h) v)

  items_are : first_entries (entry_of s a) k ≡ numbers_at s j k
  unfolding end_at
  items_are =
      map_from (entry_of s a) (λ i. number_here s (end_at s j i)) 0 k (λ i l v. offsets_entry s t (k + 1) (omega arith) i (omega arith))
      ∙ numbers_from_lem s j 0 k

  pub told_among : (b : Bool) → b ≡ is_repeat (entry_of s a) k → anyb (eq_list (number_here s at)) (numbers_at s j k) ≡ b
  told_among b told =
      let e : entry_of s a k ≡ number_here s at = offsets_entry s t (k + 1) (omega arith) k (omega arith) ∙ ap (number_here s) (sym ends) in
      sym (told ∙ rw (e, items_are))
