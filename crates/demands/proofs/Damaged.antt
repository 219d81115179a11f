-- Demand 1 of any tables at all: 1 exactly where a length is wrong, 2 exactly where the lengths are right and a table is not sound.
use mathlib.Core.Path.{◌≡◌, refl, sym, ap, ◌∙◌}
use mathlib.Core.Logic.{◌↔◌, ◌⊎◌, inl, inr, ⊎_elim}
use mathlib.Core.Bool.{Bool, true, false, not, false≢true}
use mathlib.Core.List.{List, [], ◌∷◌, ◌++◌}
use Prim.Native.Nat.{ℕ, suc, ◌<◌}
use native.Mathlib.Omega.{arith}
use lib.Dec.{ltb}
use borrow.Author.Tests.{ltb-true}
use Rattle.ground.specs.Calls.{Case, given, Reply, refused, number_of, decide, answer, set_down, set_both}
use Rattle.ground.proofs.Laws.{by_cond}
use Rattle.ground.specs.Tables.{Tables}
use Rattle.register.specs.Register.{parts_of, register_length, register_sound}
use Rattle.register.specs.Calls.{lent_register, number_refusals, registering, looking_up, showing}
use Rattle.kits.specs.Kits.{line_faults, lines_faults, list_faults}
use Rattle.nodes.specs.Nodes.{nodes_length}
use Rattle.nodes.specs.Sound.{nodes_sound}
use Rattle.nodes.proofs.Sorted.{Every, none, also, every_append}
use Rattle.index.specs.Index.{entry_refusals, missing_refusals}
use Rattle.pages.specs.Pages.{turn_page}
use Rattle.sheet.specs.Calls.{sheet_refusals, room_refusals, salvage_refusals}
use Rattle.card.specs.Card.{NamedLine}
use Rattle.card.specs.Reading.{decode_card, said_card}
use Rattle.card.specs.Calls.{card_refusals, unknown_refusals}
use Rattle.tables.specs.Lent.{part_count, lengths, lent_both, lent_list}
use Rattle.catalogue.specs.Calls.{Call, empty_both, register_part, look_up, show_at, insert_kit, find_kit, delete_kit, any_within, any_containing}
use Rattle.catalogue.specs.Calls.{all_within, all_containing, all_almost, write_sheet, read_sheet, salvage_sheet, plan_of, emptying, inserting, finding}
use Rattle.catalogue.specs.Calls.{count_kits, turn_within, turn_containing, deleting, counting, any_kit, all_kits, almost_kits, turning, writing, reading, salvaging}
use Rattle.catalogue.specs.Calls.{read_card, reading_card, write_card, writing_card}
use Rattle.demands.specs.Demand1.{TablesAsked, the_register, the_lengths, both_tables, asks_of, LengthWrong, TableUnsound, OneExactly, TwoExactly}

------------------------------------------------------------------------
-- What is asked of the tables comes first, and every refusal behind it has a number above 2

-- its number is above m
abbrev pub Above : ℕ → Case → Type 0
Above m c = ltb m c.number ≡ true

pub behind_above : (m : ℕ) (ds : List Case) (v k : ℕ) → Every (Above m) ds → number_of (decide ds v) ≡ suc k → m < suc k
unfolding decide
behind_above m [] v k none e = absurd (let z : ◌≡◌ {A = ℕ} 0 (suc k) = e in omega arith)
behind_above m (d ∷ ds) v k (also a q) e =
    by_cond (λ (r : Reply). number_of r ≡ suc k → m < suc k) d.test (refused d.number d.value) (decide ds v)
    (λ _ f. let z : d.number ≡ suc k = f in omega (arith, ltb-true m d.number a)) (λ _ f. behind_above m ds v k q f) e

-- the refusals of a call: two lengths and two tables, right or not, and then the others
unfoldable pub tables_then : Bool → Bool → Bool → Bool → List Case → List Case
tables_then r n s m ds = given (not r) 1 0 ∷ given (not n) 1 0 ∷ given (not s) 2 0 ∷ given (not m) 2 0 ∷ ds

pub wrong : {A : Type 0} → true ≡ false → A
wrong e = absurd (false≢true (sym e))

not_two : ◌≡◌ {A = ℕ} 2 1 → ⊥
not_two e = omega arith

pub one_front : (r n s m : Bool) (ds : List Case) (v : ℕ) → Every (Above 2) ds →
    (number_of (decide (tables_then r n s m ds) v) ≡ 1) ↔ ((r ≡ false) ⊎ (n ≡ false))
unfolding decide tables_then
one_front false n s m ds v q = (λ _. inl refl, λ _. refl)
one_front true false s m ds v q = (λ _. inr refl, λ _. refl)
one_front true true false m ds v q = (λ e. absurd (not_two e), λ h. ⊎_elim wrong wrong h)
one_front true true true false ds v q = (λ e. absurd (not_two e), λ h. ⊎_elim wrong wrong h)
one_front true true true true ds v q = (λ e. absurd (let z = behind_above 2 ds v 0 q e in omega arith), λ h. ⊎_elim wrong wrong h)

pub two_front : (r n s m : Bool) (ds : List Case) (v : ℕ) → Every (Above 2) ds →
    (number_of (decide (tables_then r n s m ds) v) ≡ 2) ↔ (((r ≡ false) ⊎ (n ≡ false) → ⊥) × ((s ≡ false) ⊎ (m ≡ false)))
unfolding decide tables_then
two_front false n s m ds v q = (λ e. absurd (not_two (sym e)), λ h. absurd (h.0 (inl refl)))
two_front true false s m ds v q = (λ e. absurd (not_two (sym e)), λ h. absurd (h.0 (inr refl)))
two_front true true false m ds v q = (λ _. (λ h. ⊎_elim wrong wrong h, inl refl), λ _. refl)
two_front true true true false ds v q = (λ _. (λ h. ⊎_elim wrong wrong h, inr refl), λ _. refl)
two_front true true true true ds v q = (λ e. absurd (let z = behind_above 2 ds v 1 q e in omega arith), λ h. ⊎_elim wrong wrong h.1)

------------------------------------------------------------------------
-- The refusals behind, call by call

lines_above : (n prev k : ℕ) (l : List ℕ) → Every (Above 2) (lines_faults n prev k l)
unfolding line_faults lines_faults
lines_above n prev k [] = none
lines_above n prev k (p ∷ []) = none
lines_above n prev k (p ∷ q ∷ l) = also refl (also refl (also refl (lines_above n p (suc k) l)))

list_above : (n : ℕ) (l : List ℕ) → Every (Above 2) (list_faults n l)
unfolding list_faults
list_above n l = also refl (lines_above n 0 1 l)

unknown_above : (ps : List (List ℕ)) (k : ℕ) (xs : List NamedLine) → Every (Above 2) (unknown_refusals ps k xs)
unfolding unknown_refusals
unknown_above ps k [] = none
unknown_above ps k (x ∷ xs) = also refl (unknown_above ps (suc k) xs)

-- what a call finds of the tables, right where it does not ask
nodes_fit : TablesAsked → Tables → Bool
nodes_fit the_register T = true
nodes_fit the_lengths T = nodes_length T.nodes
nodes_fit both_tables T = nodes_length T.nodes

register_is : TablesAsked → Tables → Bool
register_is the_register T = register_sound T.register
register_is the_lengths T = true
register_is both_tables T = register_sound T.register

nodes_are : TablesAsked → Tables → Bool
nodes_are the_register T = true
nodes_are the_lengths T = true
nodes_are both_tables T = nodes_sound (part_count T) T.nodes

what_is_asked : TablesAsked → Tables → List Case
what_is_asked the_register T = lent_register T.register
what_is_asked the_lengths T = lengths T
what_is_asked both_tables T = lent_both T

asked_front : (a : TablesAsked) (T : Tables) (ds : List Case) (v : ℕ) →
    decide (what_is_asked a T ++ ds) v ≡ decide (tables_then (register_length T.register) (nodes_fit a T) (register_is a T) (nodes_are a T) ds) v
unfolding decide what_is_asked tables_then nodes_fit register_is nodes_are lent_register lengths lent_both
asked_front the_register T ds v = refl
asked_front the_lengths T ds v = refl
asked_front both_tables T ds v = refl

record Fronted (c : Call) (T : Tables) : Type 0 where
  rest : List Case
  cases : (plan_of c T).cases ≡ what_is_asked (asks_of c) T ++ rest
  above : Every (Above 2) rest

fronted : (c : Call) (T : Tables) → Fronted c T
unfolding plan_of what_is_asked asks_of lent_register lengths lent_both lent_list emptying registering number_refusals looking_up showing inserting
    entry_refusals finding deleting missing_refusals counting any_kit all_kits almost_kits set_both turning turn_page writing set_down reading
    sheet_refusals room_refusals salvaging salvage_refusals writing_card reading_card card_refusals
fronted empty_both T = record { rest = []; cases = refl; above = none }
fronted (register_part n) T = record { rest = _; cases = refl; above = also refl (also refl (also refl (also refl none))) }
fronted (look_up n) T = record { rest = _; cases = refl; above = also refl (also refl none) }
fronted (show_at p) T = record { rest = _; cases = refl; above = also refl none }
fronted (insert_kit l t) T = record {
  rest = _;
  cases = refl;
  above = also refl (every_append (list_above (part_count T) l) (also refl (also refl (also refl (also refl (also refl none))))));
}
fronted (find_kit l) T = record { rest = _; cases = refl; above = every_append (list_above (part_count T) l) (also refl none) }
fronted (delete_kit l) T = record { rest = _; cases = refl; above = every_append (list_above (part_count T) l) (also refl none) }
fronted (count_kits l) T = record { rest = _; cases = refl; above = list_above (part_count T) l }
fronted (any_within l) T = record { rest = _; cases = refl; above = list_above (part_count T) l }
fronted (any_containing l) T = record { rest = _; cases = refl; above = list_above (part_count T) l }
fronted (all_within l o) T = record { rest = _; cases = refl; above = every_append (list_above (part_count T) l) (also refl none) }
fronted (all_containing l o) T = record { rest = _; cases = refl; above = every_append (list_above (part_count T) l) (also refl none) }
fronted (all_almost d l o) T = record {
  rest = _;
  cases = refl;
  above = every_append (every_append (list_above (part_count T) l) (also refl none)) (also refl none);
}
fronted (turn_within l b) T = record { rest = _; cases = refl; above = every_append (list_above (part_count T) l) (also refl none) }
fronted (turn_containing l b) T = record { rest = _; cases = refl; above = every_append (list_above (part_count T) l) (also refl none) }
fronted (write_sheet o) T = record { rest = _; cases = refl; above = also refl none }
fronted (read_sheet s) T = record { rest = _; cases = refl; above = also refl (also refl (also refl none)) }
fronted (salvage_sheet s) T = record { rest = _; cases = refl; above = also refl (also refl (also refl none)) }
fronted (write_card l o) T = record {
  rest = _;
  cases = refl;
  above = every_append (every_append (list_above (part_count T) l) (also refl none)) (also refl none);
}
fronted (read_card s) T = record {
  rest = _;
  cases = refl;
  above = also refl (every_append (unknown_above (parts_of T.register) 1 (said_card (decode_card s)).lines)
      (also refl (also refl (also refl (also refl none)))));
}

------------------------------------------------------------------------
-- The statements

length_asked : (a : TablesAsked) (T : Tables) → ((register_length T.register ≡ false) ⊎ (nodes_fit a T ≡ false)) ↔ LengthWrong a T
unfolding nodes_fit
length_asked the_register T = (λ h. ⊎_elim (λ e. e) wrong h, λ e. inl e)
length_asked the_lengths T = (λ h. h, λ h. h)
length_asked both_tables T = (λ h. h, λ h. h)

sound_asked : (a : TablesAsked) (T : Tables) → ((register_is a T ≡ false) ⊎ (nodes_are a T ≡ false)) ↔ TableUnsound a T
unfolding register_is nodes_are
sound_asked the_register T = (λ h. ⊎_elim (λ e. e) wrong h, λ e. inl e)
sound_asked the_lengths T = (λ h. ⊎_elim wrong wrong h, λ e. absurd e)
sound_asked both_tables T = (λ h. h, λ h. h)

module _ (c : Call) (T : Tables) where
  -- the number that is answered, by what is asked of the tables
  number_is :
      number_of (answer (plan_of c T)) ≡ number_of
      (decide
      (tables_then (register_length T.register) (nodes_fit (asks_of c) T) (register_is (asks_of c) T) (nodes_are (asks_of c) T) (fronted c T).rest)
      (plan_of c T).value)
  unfolding answer
  number_is =
      let v = (plan_of c T).value in
      ap (λ (cs : List Case). number_of (decide cs v)) (fronted c T).cases
      ∙ ap number_of (asked_front (asks_of c) T (fronted c T).rest v)

pub one_exactly : OneExactly
one_exactly c T =
    let w = length_asked (asks_of c) T in
    let o = one_front _ _ _ _ (fronted c T).rest (plan_of c T).value (fronted c T).above in
    (λ e. w.0 (o.0 (sym (number_is c T) ∙ e)), λ h. number_is c T ∙ o.1 (w.1 h))

pub two_exactly : TwoExactly
two_exactly c T =
    let w = length_asked (asks_of c) T in
    let u = sound_asked (asks_of c) T in
    let o = two_front _ _ _ _ (fronted c T).rest (plan_of c T).value (fronted c T).above in (
      λ e. let h = o.0 (sym (number_is c T) ∙ e) in (λ x. h.0 (w.1 x), u.0 h.1),
      λ h. number_is c T ∙ o.1 (λ x. h.0 (w.0 x), u.1 h.1),
    )
