-- Request 8: the calls that are lent the register and the maker's table, each as the list of its refusals, its value, and the maker's table
-- that it leaves. The register stays as it is.
use Rattle.std.specs.Prelude.{Bool, false, cond, not, List, [], ◌∷◌, ◌++◌, ℕ, ◌+◌, ◌-◌, ◌*◌, length, get_or, replicate}
use Rattle.ground.specs.Laid.{laid, zeroed}
use Rattle.ground.specs.Calls.{Case, given, Plan, plan, answer, leaves}
use Rattle.register.specs.Number.{good_number}
use Rattle.register.specs.Register.{slot_bytes, slot_of, register_length, register_sound, parts_of, used_at}
use Rattle.register.specs.Calls.{no_part}
use Rattle.makers.specs.Makers.{makers_length, makers_sound}

-- [9.8] "the register and then the second table, both lent"
pub record Beside : Type 0 where
  pub register : List ℕ
  pub makers : List ℕ

abbrev pub beside : List ℕ → List ℕ → Beside
beside R M = record { register = R; makers = M }

-- how many parts are registered
abbrev pub parts_beside : Beside → ℕ
parts_beside B = length (parts_of B.register)

-- [8.1, 9.8] "1 for each, for the second also where slot counts differ"
unfoldable pub beside_lengths : Beside → List Case
beside_lengths B = given (not (register_length B.register)) 1 0 ∷ given (not (makers_length B.register B.makers)) 1 0 ∷ []

-- [8.2, 9.8] "then 2 for each"
unfoldable pub lent_beside : Beside → List Case
lent_beside B = beside_lengths B ++ (given (not (register_sound B.register)) 2 0 ∷ given (not (makers_sound (parts_beside B) B.makers)) 2 0 ∷ [])

-- [8.11, 9.8] "then 11 for a place not registered"
unfoldable pub place_refusals : ℕ → Beside → List Case
place_refusals p B = lent_beside B ++ (given (no_part (parts_beside B) p) 11 0 ∷ [])

-- [9.9] "One call zeroes it whole", "zeroing giving 1 only"
unfoldable pub zeroing_makers : Beside → Plan (List ℕ)
zeroing_makers B = plan (beside_lengths B) 0 (zeroed B.makers)

-- the maker's table with other bytes in the slot of place p
abbrev pub slot_set : ℕ → List ℕ → List ℕ → List ℕ
slot_set p M s = laid M ((p - 1) * slot_bytes) s

-- [8.3, 9.10, 9.15] "Set .. a slot": "then 3 for a bad maker's number"
unfoldable pub setting_maker : ℕ → List ℕ → Beside → Plan (List ℕ)
setting_maker p n B = plan (place_refusals p B ++ (given (not (good_number n)) 3 0 ∷ [])) 0 (slot_set p B.makers (slot_of n))

-- [9.11] ".. or clear a slot"
unfoldable pub clearing_maker : ℕ → Beside → Plan (List ℕ)
clearing_maker p B = plan (place_refusals p B) 0 (slot_set p B.makers (replicate slot_bytes 0))

-- [9.12] "show for a place the maker's number if set and otherwise ours": the answer number, which the second call gives
unfoldable pub showing_label : ℕ → Beside → Plan (List ℕ)
showing_label p B = plan (place_refusals p B) 0 B.makers

-- [9.13, 9.14] "as the stretch of whichever of the two tables holds it": whether that is the maker's table; the register, "where refused"
unfoldable pub is_makers : ℕ → Beside → Bool
is_makers p B = leaves (answer (showing_label p B)) false (used_at B.makers (p - 1))

-- [9.13] the one of two, as the lent bytes or as what they hold
abbrev pub holder : {A : Type 0} → ℕ → Beside → A → A → A
holder p B register makers = cond (is_makers p B) makers register

-- [9.13, 9.14] where the stretch starts in it
unfoldable pub label_from : ℕ → Beside → ℕ
label_from p B = leaves (answer (showing_label p B)) 0 ((p - 1) * slot_bytes + 1)

-- [9.13, 9.14] and how long it is: "empty stretch as before"
unfoldable pub label_size : ℕ → Beside → ℕ
label_size p B = leaves (answer (showing_label p B)) 0 (get_or (holder p B B.register B.makers) ((p - 1) * slot_bytes) 0)

-- A call, with what is lent to it besides the two tables
pub data MakerCall : Type 0 where
  zero_makers : MakerCall
  set_maker : ℕ → List ℕ → MakerCall
  clear_maker show_label : ℕ → MakerCall

unfoldable pub plan_of_maker : MakerCall → Beside → Plan (List ℕ)
plan_of_maker zero_makers B = zeroing_makers B
plan_of_maker (set_maker p n) B = setting_maker p n B
plan_of_maker (clear_maker p) B = clearing_maker p B
plan_of_maker (show_label p) B = showing_label p B
