-- Request 5: reading a card is inserting the list that it says, with its tag, once the card is faultless and its numbers are registered.
use mathlib.Core.Path.{◌≡◌, refl, sym, ap, ◌∙◌}
use mathlib.Core.Bool.{Bool, true, false}
use mathlib.Core.List.{List, [], ◌∷◌, ◌++◌, Memᴰ}
use Prim.Native.Nat.{ℕ, suc}
use native.Mathlib.Omega.{arith}
use lib.ListN.{length}
use lib.Dec.{ltb}
use borrow.Author.Tests.{le-ltb, ne_eqb}
use Rattle.ground.specs.Lists.{is_zero}
use Rattle.ground.specs.Calls.{Case, done, given, is_refused, decide, answer, leaves, memory}
use Rattle.ground.specs.Tables.{Tables}
use Rattle.ground.proofs.Calls.{decide_behind, first_refuses, whole_passes}
use Rattle.register.specs.Register.{parts_of, place_in}
use Rattle.kits.specs.Kits.{list_faults, most_units, units}
use Rattle.kits.proofs.Checks.{checked_good}
use Rattle.sheet.specs.Reading.{is_fault}
use Rattle.card.specs.Card.{NamedLine}
use Rattle.card.specs.Reading.{decode_card, said_card}
use Rattle.card.specs.Calls.{card_refusals, unknown_refusals}
use Rattle.tables.specs.Lent.{lent_both, part_count}
use Rattle.tables.specs.Inner.{SoundTables}
use Rattle.tables.proofs.Lent.{both_passed, sound_passes}
use Rattle.catalogue.specs.Calls.{inserting, list_said, reading_card, tag_said}
use Rattle.catalogue.proofs.Kept.{done_parts}
use Rattle.catalogue.proofs.Cards.{Known, card_passed, list_good, list_short, some_tag_lem}

------------------------------------------------------------------------
-- "13 .., then 11 for an unregistered number": a card that passes is faultless, and its numbers are registered

known_pass : (ps : List (List ℕ)) (k : ℕ) (xs : List NamedLine) → Known ps xs → decide (unknown_refusals ps k xs) 0 ≡ done 0
unfolding unknown_refusals decide
known_pass ps k [] h = refl
known_pass ps k (x ∷ xs) h =
    let t : is_zero (place_in x.number ps) ≡ false = ne_eqb (place_in x.number ps) 0 (λ e. omega (arith, h x (Memᴰ.head refl))) in
    rw t (known_pass ps (suc k) xs (λ y m. h y (Memᴰ.tail m)))

module _ (ps : List (List ℕ)) (s : List ℕ) where
  pub card_passes : is_fault (decode_card s) ≡ false → Known ps (said_card (decode_card s)).lines → decide (card_refusals ps s) 0 ≡ done 0
  unfolding card_refusals decide
  card_passes f known = rw f (known_pass ps 1 (said_card (decode_card s)).lines known)

------------------------------------------------------------------------
-- Such a card says a tag and a list that insertion takes

module _ (s : List ℕ) (T : Tables) (f : is_fault (decode_card s) ≡ false) (known : Known (parts_of T.register) (said_card (decode_card s)).lines) where
  module _ (S : SoundTables T) where
    pub faults_pass : decide (list_faults (part_count T) (list_said s T)) 0 ≡ done 0
    faults_pass =
        let g = list_good s T f known S in
        let cs = list_faults (part_count T) (list_said s T) in
        whole_passes (decide cs 0) cs 0 0 refl (checked_good (part_count T) (list_said s T) ∙ rw g refl)

    -- what insertion asks of a tag and of a list is not given
    list_passes : (ds : List Case) (v : ℕ) →
        decide (given (is_zero (tag_said s)) 8 0
        ∷ (list_faults (part_count T) (list_said s T) ++ (given (ltb most_units (length (units (list_said s T)))) 7 0 ∷ ds))) v ≡ decide ds v
    unfolding decide
    list_passes ds v =
        let tag_8 : is_zero (tag_said s) ≡ false = ne_eqb (tag_said s) 0 (λ e. omega (arith, some_tag_lem s T f known)) in
        let units-7 = le-ltb most_units (length (units (list_said s T))) (list_short s T f known S) in
        rw tag_8 (decide_behind (list_faults (part_count T) (list_said s T)) _ 0 _ faults_pass ∙ rw units-7 refl)

  pub same_answer : answer (reading_card s T) ≡ answer (inserting (list_said s T) (tag_said s) T)
  unfolding answer reading_card inserting
  same_answer = go (is_refused (decide (lent_both T) 0)) refl
    where
      go : (b : Bool) → is_refused (decide (lent_both T) 0) ≡ b → answer (reading_card s T) ≡ answer (inserting (list_said s T) (tag_said s) T)
      go true e = sym (first_refuses (decide (lent_both T) 0) (lent_both T) _ 0 _ refl e) ∙ first_refuses (decide (lent_both T) 0) (lent_both T) _ 0 _ refl e
      go false e =
          let S = both_passed T.register T.nodes e in
          let lent = sound_passes T.register T.nodes S in
          decide_behind (lent_both T) _ 0 _ lent
          ∙ decide_behind (card_refusals (parts_of T.register) s) _ 0 _ (card_passes (parts_of T.register) s f known)
          ∙ sym (decide_behind (lent_both T) _ 0 _ lent ∙ list_passes S _ _)

  pub same_memory : memory (reading_card s T) T ≡ memory (inserting (list_said s T) (tag_said s) T) T
  unfolding memory reading_card inserting
  same_memory = ap (λ r. leaves r T (reading_card s T).after) same_answer

------------------------------------------------------------------------
-- A card that was read

module _ (s : List ℕ) (T : Tables) (v : ℕ) (e : answer (reading_card s T) ≡ done v) where
  -- it was faultless, and its numbers were registered
  pub card_was : (is_fault (decode_card s) ≡ false) × Known (parts_of T.register) (said_card (decode_card s)).lines
  unfolding answer reading_card
  card_was =
      let behind = done_parts (lent_both T) _ 0 _ v e in
      card_passed (parts_of T.register) s (done_parts (card_refusals (parts_of T.register) s) _ 0 _ v behind.1).0

  pub card_inserts : answer (inserting (list_said s T) (tag_said s) T) ≡ done v
  card_inserts = sym (same_answer s T card_was.0 card_was.1) ∙ e
