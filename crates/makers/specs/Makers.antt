-- Request 8, "The maker's number beside ours": the maker's table, which has the register's layout, and what makes it sound.
use Rattle.std.specs.Prelude.{Bool, ◌||◌, List, [], ◌∷◌, ℕ, eqb, ltb}
use Rattle.ground.specs.Lists.{allb, every, is_zero}
use Rattle.register.specs.Register.{slot_at, slot_count, slot_good, slots_of, register_length}

-- [3.12] "A second table of the same layout and slot count stands beside the register"
unfoldable pub makers_length : List ℕ → List ℕ → Bool
makers_length R M = every (register_length M ∷ eqb (slot_count M) (slot_count R) ∷ [])

-- It is sound when:
-- [3.13] "each slot is all zeros or a good number followed by zeros"
unfoldable pub zero_or_good : List ℕ → ℕ → Bool
zero_or_good M k = allb is_zero (slot_at M k) || slot_good (slot_at M k)

-- [3.14] "slots beyond the registered parts are all zeros"
unfoldable pub beyond_zero : ℕ → List ℕ → ℕ → Bool
beyond_zero parts M k = ltb k parts || allb is_zero (slot_at M k)

-- [3.15] "It is sound when" both hold; "gaps and repeated numbers are allowed"
unfoldable pub makers_sound : ℕ → List ℕ → Bool
makers_sound parts M = every (allb (zero_or_good M) (slots_of M) ∷ allb (beyond_zero parts M) (slots_of M) ∷ [])
