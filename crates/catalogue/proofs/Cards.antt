-- What the calls of a card answer: writing one behind what finding its list answers, reading one behind the tables and the card itself.
use mathlib.Core.Path.{◌≡◌, sym, ap, subst, ◌∙◌}
use mathlib.Core.Bool.{true, false}
use mathlib.Core.List.{List, [], ◌++◌, Memᴰ}
use Prim.Native.Nat.{ℕ, ◌≤◌, ◌<◌}
use native.Mathlib.Omega.{arith}
use lib.ListN.{length}
use Rattle.ground.specs.Calls.{Case, Reply, done, is_refused, value_of, plan, decide, answer, Promise, set_down}
use Rattle.ground.specs.Tables.{Tables, tables}
use Rattle.ground.proofs.Calls.{passed_done, done_passes, whole_passes, promise_front, promise_behind, promise_part, set_down_behind}
use Rattle.register.specs.Register.{parts_of, place_in}
use Rattle.register.proofs.Laws.{sound_once}
use Rattle.kits.specs.Kits.{most_units, most_place, units, good_list}
use Rattle.nodes.specs.Held.{held, tag_in}
use Rattle.index_insert.specs.Enter.{enter, lacks}
use Rattle.index.specs.Index.{entry_refusals, missing_refusals}
use Rattle.index.specs.Inner.{inserting_row}
use Rattle.sheet.specs.Reading.{is_fault}
use Rattle.card.specs.Card.{NamedLine, NamedKit, GoodCard, card_of, encode_card, list_on}
use Rattle.card.specs.Reading.{decode_card, said_card}
use Rattle.card.specs.Calls.{card_refusals}
use Rattle.card.proofs.Orders.{list_on_good, units_on}
use Rattle.card.proofs.Codec.{said_lines_good}
use Rattle.card_read.proofs.Placing.{all_known}
use Rattle.tables.specs.Lent.{part_count, lent_both, lent_list}
use Rattle.tables.specs.Inner.{SoundTables}
use Rattle.tables.proofs.Lent.{few_parts_lem, good_most, sound_passes}
use Rattle.catalogue.specs.Calls.{finding, writing_card, reading_card, list_said, tag_said}
use Rattle.catalogue.proofs.Kept.{Found, found}

------------------------------------------------------------------------
-- Writing: "those of finding a list, then 12 with the bytes needed"

module _ (R N l o : List ℕ) (r : Reply) (is : r ≡ answer (finding l (tables R N))) where
  abbrev not_found : List Case
  not_found = lent_list (tables R N) l ++ missing_refusals (units l) N

  pub write_card_refused : is_refused r ≡ true → Promise (writing_card l (tables R N) o) o r o
  unfolding writing_card finding set_down answer
  write_card_refused e = promise_front not_found _ _ _ o r (tag_in (units l) (held N)) is e

  module _ (e : is_refused r ≡ false) (v : ℕ) (f : v ≡ value_of r) where
    pub list_found : Found l (tables R N) v
    list_found = found l (tables R N) v (sym is ∙ passed_done r e ∙ ap done (sym f))

    pub write_card_done : (q : Reply) (w : List ℕ) → Promise (set_down [] (encode_card (card_of (parts_of R) l v)) o) o q w →
        Promise (writing_card l (tables R N) o) o q w
    unfolding writing_card finding answer
    write_card_done q w p =
        set_down_behind not_found 0 _ o (whole_passes r not_found (tag_in (units l) (held N)) 0 is e)
        (subst (λ (t : ℕ). Promise (set_down [] (encode_card (card_of (parts_of R) l t)) o) o q w) (sym list_found.has) p)

------------------------------------------------------------------------
-- "13 .., then 11 for an unregistered number": a card that passes is faultless, and its numbers are registered

-- the numbers of some lines have places among the parts ps
abbrev pub Known : List (List ℕ) → List NamedLine → Type 0
Known ps xs = (x : NamedLine) → Memᴰ x xs → 0 < place_in x.number ps

pub card_passed : (ps : List (List ℕ)) (s : List ℕ) → decide (card_refusals ps s) 0 ≡ done 0 →
    (is_fault (decode_card s) ≡ false) × Known ps (said_card (decode_card s)).lines
unfolding card_refusals
card_passed ps s e = let a = done_passes _ _ _ _ e in (a.0, all_known ps 1 0 (said_card (decode_card s)).lines a.1)

-- such a card says a tag and a list that insertion takes
module _ (s : List ℕ) (T : Tables) (f : is_fault (decode_card s) ≡ false) (known : Known (parts_of T.register) (said_card (decode_card s)).lines) where
  -- its lines with another tag are a good card still, and say the same list
  abbrev lines_alone : NamedKit
  lines_alone = record { tag = 1; lines = (said_card (decode_card s)).lines }

  good : GoodCard lines_alone
  good = (said_lines_good s f).0

  pub some_tag_lem : 0 < tag_said s
  some_tag_lem = (said_lines_good s f).1

  module _ (S : SoundTables T) where
    pub list_good : good_list (part_count T) (list_said s T) ≡ true
    unfolding list_on
    list_good = list_on_good (parts_of T.register) (sound_once T.register S.ready) lines_alone good known

    pub list_short : length (units (list_said s T)) ≤ most_units
    unfolding list_on
    list_short = omega (arith, units_on (parts_of T.register) (sound_once T.register S.ready) lines_alone good known, good.few_units)

------------------------------------------------------------------------
-- Reading: "1 and 2 for the tables, then 13 .., then 11 .., then insertion's"

module _ (R N s : List ℕ) where
  pub read_card_lent : (r : Reply) → r ≡ decide (lent_both (tables R N)) 0 → is_refused r ≡ true →
      Promise (reading_card s (tables R N)) (tables R N) r (tables R N)
  unfolding reading_card
  read_card_lent r is e = promise_front (lent_both (tables R N)) _ _ _ (tables R N) r 0 is e

  module _ (S : SoundTables (tables R N)) where
    -- the list that the card says
    abbrev said : List ℕ
    said = list_said s (tables R N)

    -- behind the checks of the tables
    behind_tables : (q : Reply) (M : Tables) →
        Promise (plan (card_refusals (parts_of R) s ++ entry_refusals (units said) (tag_said s) N) (lacks N 0 (units said))
        (tables R (enter N (units said) (tag_said s)))) (tables R N) q M →
        Promise (reading_card s (tables R N)) (tables R N) q M
    unfolding reading_card
    behind_tables q M p = promise_behind (lent_both (tables R N)) _ _ _ (tables R N) q M 0 (ap is_refused (sound_passes R N S)) p

    module _ (q : Reply) (is : q ≡ decide (card_refusals (parts_of R) s) 0) where
      pub read_card_refused : is_refused q ≡ true → Promise (reading_card s (tables R N)) (tables R N) q (tables R N)
      read_card_refused e = behind_tables q _ (promise_front (card_refusals (parts_of R) s) _ _ _ (tables R N) q 0 is e)

      module _ (e : is_refused q ≡ false) where
        passed : (is_fault (decode_card s) ≡ false) × Known (parts_of R) (said_card (decode_card s)).lines
        passed = card_passed (parts_of R) s (whole_passes q (card_refusals (parts_of R) s) 0 0 is e)

        pub said_list_good : good_list most_place (list_said s (tables R N)) ≡ true
        said_list_good = good_most (length (parts_of R)) said (few_parts_lem R S.ready) (list_good s (tables R N) passed.0 passed.1 S)

        pub said_list_short : length (units (list_said s (tables R N))) ≤ most_units
        said_list_short = list_short s (tables R N) passed.0 passed.1 S

        pub said_some_tag : 0 < tag_said s
        said_some_tag = some_tag_lem s (tables R N) passed.0 passed.1

        pub read_card_done : (us : List ℕ) (t : ℕ) (p : Reply) (N' : List ℕ) → us ≡ units (list_said s (tables R N)) → t ≡ tag_said s →
            Promise (inserting_row us t N) N p N' → Promise (reading_card s (tables R N)) (tables R N) p (tables R N')
        unfolding inserting_row
        read_card_done us t p N' row tag i =
            behind_tables p (tables R N') (promise_behind (card_refusals (parts_of R) s) _ _ _ (tables R N) p (tables R N') 0
            (ap is_refused (sym is) ∙ e)
            (promise_part (tables R) (inserting_row (units said) (tag_said s) N) N p N' (rw (row, tag) at i)))
