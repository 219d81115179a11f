-- REQUEST 6: "A torn label gave us a number with a hyphen at its end, and nobody could find the part. Registration refuses a number whose first or
-- last byte is a hyphen, full stop or slash. Lookup, soundness and sheets stay as they are." The law that proves a statement stands behind
-- "Proof", in proofs/Torn.
use Rattle.std.specs.Prelude.{◌≡◌, true, List, [], ℕ, ◌-◌, ◌≤◌, ◌<◌, length, get_or}
use Rattle.ground.specs.Calls.{done, refused, answer}
use Rattle.register.specs.Number.{good_number, punctuation_at_end}
use Rattle.catalogue.specs.Calls.{register_part, look_up, show_at, plan_of}
use Rattle.demands.specs.Model.{Allowed, Catalogue, entered, tables_of}

-- [14.24] from any list of calls, such a number is 16 on registration, whether it is held or not and however full the register is. Proof:
-- `torn_refused`
abbrev pub TornRefused : Type 0
TornRefused =
    (a : Catalogue) (n : List ℕ) → Allowed a → good_number n ≡ true → punctuation_at_end n ≡ true →
    answer (plan_of (register_part n) (tables_of a)) ≡ refused 16 0

-- [14.24] and every number that is held, whatever stands at its ends, is found at its place and shown. Proof: `held_found`
abbrev pub HeldFound : Type 0
HeldFound =
    (a : Catalogue) (p : ℕ) → Allowed a → 0 < p → p ≤ length (entered a).parts →
    (answer (plan_of (look_up (get_or (entered a).parts (p - 1) [])) (tables_of a)) ≡ done p) × (answer (plan_of (show_at p) (tables_of a)) ≡ done 0)
