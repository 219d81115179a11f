-- Demand 1 of any tables: a call is done, or refused with one of the numbers laid down for it.
use mathlib.Core.Path.{◌≡◌, refl}
use mathlib.Core.Logic.{◌⊎◌, inl, inr}
use mathlib.Core.Bool.{true}
use mathlib.Core.List.{List, [], ◌∷◌}
use Prim.Native.Nat.{ℕ, suc}
use lib.Dec.{eqb}
use Rattle.ground.specs.Lists.{anyb}
use Rattle.ground.specs.Calls.{Case, Reply, refused, number_of, decide, answer, set_down, set_both}
use Rattle.ground.specs.Tables.{Tables}
use Rattle.ground.proofs.Laws.{by_cond}
use Rattle.register.specs.Register.{parts_of}
use Rattle.register.specs.Calls.{lent_register, number_refusals, registering, looking_up, showing}
use Rattle.kits.specs.Kits.{line_faults, lines_faults, list_faults}
use Rattle.nodes.proofs.Sorted.{Every, none, also, every_append}
use Rattle.index.specs.Index.{entry_refusals, missing_refusals}
use Rattle.pages.specs.Pages.{turn_page}
use Rattle.sheet.specs.Calls.{sheet_refusals, room_refusals, salvage_refusals}
use Rattle.card.specs.Card.{NamedLine}
use Rattle.card.specs.Reading.{decode_card, said_card}
use Rattle.card.specs.Calls.{card_refusals, unknown_refusals}
use Rattle.tables.specs.Lent.{part_count, lengths, lent_both, lent_list}
use Rattle.catalogue.specs.Calls.{Call, empty_both, register_part, look_up, show_at, insert_kit, find_kit, delete_kit, any_within, any_containing}
use Rattle.catalogue.specs.Calls.{all_within, all_containing, all_almost, write_sheet, read_sheet, salvage_sheet, plan_of, emptying, inserting, finding}
use Rattle.catalogue.specs.Calls.{count_kits, turn_within, turn_containing, deleting, counting, any_kit, all_kits, almost_kits, turning, writing, reading, salvaging}
use Rattle.catalogue.specs.Calls.{read_card, reading_card, write_card, writing_card}
use Rattle.demands.specs.Demand1.{numbers_given, NumbersLaidDown}

-- its number is among some
abbrev pub NumberIn : List ℕ → Case → Type 0
NumberIn ns c = anyb (eqb c.number) ns ≡ true

pub decided_in : (ns : List ℕ) (cs : List Case) (v : ℕ) → Every (NumberIn ns) cs →
    (number_of (decide cs v) ≡ 0) ⊎ (anyb (eqb (number_of (decide cs v))) ns ≡ true)
unfolding decide
decided_in ns [] v none = inl refl
decided_in ns (c ∷ cs) v (also i is) =
    by_cond (λ (r : Reply). (number_of r ≡ 0) ⊎ (anyb (eqb (number_of r)) ns ≡ true)) c.test (refused c.number c.value) (decide cs v)
    (λ _. inr i) (λ _. decided_in ns cs v is)

-- the refusals of a list, where 4, 5 and 6 are among the numbers
module _ (ns : List ℕ) (four : anyb (eqb 4) ns ≡ true) (five : anyb (eqb 5) ns ≡ true) (six : anyb (eqb 6) ns ≡ true) where
  lines_in : (n prev k : ℕ) (l : List ℕ) → Every (NumberIn ns) (lines_faults n prev k l)
  unfolding line_faults lines_faults
  lines_in n prev k [] = none
  lines_in n prev k (p ∷ []) = none
  lines_in n prev k (p ∷ q ∷ l) = also four (also five (also six (lines_in n p (suc k) l)))

  pub list_in_lem : (n : ℕ) (l : List ℕ) → Every (NumberIn ns) (list_faults n l)
  unfolding list_faults
  list_in_lem n l = also four (lines_in n 0 1 l)

-- and of a card's numbers, where 11 is
pub unknown_in : (ns : List ℕ) → anyb (eqb 11) ns ≡ true → (ps : List (List ℕ)) (k : ℕ) (xs : List NamedLine) →
    Every (NumberIn ns) (unknown_refusals ps k xs)
unfolding unknown_refusals
unknown_in ns eleven ps k [] = none
unknown_in ns eleven ps k (x ∷ xs) = also eleven (unknown_in ns eleven ps (suc k) xs)

-- call by call
cases_in : (c : Call) (T : Tables) → Every (NumberIn (numbers_given c)) (plan_of c T).cases
unfolding anyb numbers_given plan_of lent_register lengths lent_both lent_list emptying registering number_refusals looking_up showing inserting
    entry_refusals finding deleting missing_refusals counting any_kit all_kits almost_kits set_both turning turn_page writing set_down reading
    sheet_refusals room_refusals salvaging salvage_refusals writing_card reading_card card_refusals
cases_in empty_both T = also refl (also refl none)
cases_in (register_part n) T = also refl (also refl (also refl (also refl (also refl (also refl none)))))
cases_in (look_up n) T = also refl (also refl (also refl (also refl none)))
cases_in (show_at p) T = also refl (also refl (also refl none))
cases_in (insert_kit l t) T = also refl (also refl (also refl (also refl (also refl
    (every_append (list_in_lem (numbers_given (insert_kit l t)) refl refl refl (part_count T) l)
    (also refl (also refl (also refl (also refl (also refl none))))))))))
cases_in (find_kit l) T =
    also refl (also refl (also refl (also refl (every_append (list_in_lem (numbers_given (find_kit l)) refl refl refl (part_count T) l) (also refl none)))))
cases_in (delete_kit l) T =
    also refl (also refl (also refl (also refl (every_append (list_in_lem (numbers_given (delete_kit l)) refl refl refl (part_count T) l) (also refl none)))))
cases_in (count_kits l) T = also refl (also refl (also refl (also refl (list_in_lem (numbers_given (count_kits l)) refl refl refl (part_count T) l))))
cases_in (any_within l) T = also refl (also refl (also refl (also refl (list_in_lem (numbers_given (any_within l)) refl refl refl (part_count T) l))))
cases_in (any_containing l) T = also refl (also refl (also refl (also refl (list_in_lem (numbers_given (any_containing l)) refl refl refl (part_count T) l))))
cases_in (all_within l o) T =
    also refl (also refl (also refl (also refl (every_append (list_in_lem (numbers_given (all_within l o)) refl refl refl (part_count T) l) (also refl none)))))
cases_in (all_containing l o) T =
    also refl (also refl (also refl (also refl (every_append (list_in_lem (numbers_given (all_containing l o)) refl refl refl (part_count T) l) (also refl none)))))
cases_in (all_almost d l o) T = also refl (also refl (also refl (also refl
    (every_append (every_append (list_in_lem (numbers_given (all_almost d l o)) refl refl refl (part_count T) l) (also refl none)) (also refl none)))))
cases_in (turn_within l b) T =
    also refl (also refl (also refl (also refl (every_append (list_in_lem (numbers_given (turn_within l b)) refl refl refl (part_count T) l) (also refl none)))))
cases_in (turn_containing l b) T =
    also refl (also refl (also refl (also refl (every_append (list_in_lem (numbers_given (turn_containing l b)) refl refl refl (part_count T) l) (also refl none)))))
cases_in (write_sheet o) T = also refl (also refl (also refl (also refl (also refl none))))
cases_in (read_sheet s) T = also refl (also refl (also refl (also refl (also refl none))))
cases_in (salvage_sheet s) T = also refl (also refl (also refl (also refl (also refl none))))
cases_in (write_card l o) T = also refl (also refl (also refl (also refl
    (every_append (every_append (list_in_lem (numbers_given (write_card l o)) refl refl refl (part_count T) l) (also refl none)) (also refl none)))))
cases_in (read_card s) T = also refl (also refl (also refl (also refl (also refl (every_append
    (unknown_in (numbers_given (read_card s)) refl (parts_of T.register) 1 (said_card (decode_card s)).lines)
    (also refl (also refl (also refl (also refl none)))))))))

pub numbers_laid_down : NumbersLaidDown
unfolding answer
numbers_laid_down c T = decided_in (numbers_given c) (plan_of c T).cases (plan_of c T).value (cases_in c T)
