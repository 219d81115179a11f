-- The numbers at the offsets of the slots are those of the slots.
use mathlib.Core.Path.{◌≡◌, ap, sym, ◌∙◌}
use mathlib.Core.List.{List, map}
use Prim.Native.Nat.{ℕ, ◌*◌, ◌≤◌}
use native.Mathlib.Omega.{arith}
use Rattle.ground.specs.Limits.{most_parts}
use Rattle.ground.specs.Lists.{distinct, eq_list, from}
use Rattle.ground.proofs.Laws.{map_from}
use Rattle.repeats.specs.Inner.{entry_of, first_entries, EntriesInside}
use Rattle.repeats.proofs.Repeats.{Offsets, offsets_inside, offsets_entry}
use Rattle.register.specs.Register.{slot_bytes, number_at}
use Rattle.register.specs.Inner.{Short}
use Rattle.register.proofs.Slots.{number_read}

abbrev pub slot_start : ℕ → ℕ
slot_start k = k * slot_bytes

module _ (R a : List ℕ) (k m : ℕ) (t : Offsets slot_start a k) (u : m ≤ k) (S : Short R m) where
  pub slots_inside : m ≤ most_parts → EntriesInside R a m
  slots_inside f = offsets_inside R t m u (omega arith) (λ i v. omega (arith, S.inside, S.short i v))

  pub slots_same : distinct eq_list (first_entries (entry_of R a) m) ≡ distinct eq_list (map (number_at R) (from 0 m))
  slots_same =
      ap (distinct eq_list)
      (map_from (entry_of R a) (number_at R) 0 m
      (λ i l v. offsets_entry R t m u i (omega arith) ∙ sym (number_read R i (S.short i (omega arith)))))
