-- Request 5: what is written of a list that is found, what reading a card answers, and that a card carries a kit from one catalogue to another.
use mathlib.Core.Path.{◌≡◌, refl, sym, ap, subst, ◌∙◌}
use mathlib.Core.Logic.{⊎_elim}
use mathlib.Core.Bool.{Bool, true, false, cond}
use mathlib.Core.List.Memᴰ
use mathlib.Core.List.{List, [], ◌∷◌, ◌++◌, Memᴰ}
use Prim.Native.Nat.{ℕ, zero, suc, ◌+◌, ◌-◌, ◌≤◌, ◌<◌}
use native.Mathlib.Omega.{arith}
use lib.ListN.{length, get_or}
use lib.Dec.{eqb}
use borrow.Author.Tests.{eqb-true, eqb-false, ne_eqb}
use Rattle.ground.specs.Lists.{anyb, is_zero, order_by}
use Rattle.ground.specs.Calls.{Case, Plan, given, done, refused, is_refused, value_of, decide, answer, memory, set_down}
use Rattle.ground.specs.Tables.{Tables}
use Rattle.ground.proofs.Laid.{laid_front}
use Rattle.ground.proofs.Calls.{decide_behind, done_passes, first_refuses, whole_passes, set_down_behind, set_down_done, set_down_full}
use Rattle.register.specs.Register.{parts_of, place_in}
use Rattle.register.proofs.Places.{number_good}
use Rattle.register.proofs.Laws.{sound_once}
use Rattle.kits.specs.Kits.{good_list, list_faults, units}
use Rattle.nodes.specs.Held.{Kit, held}
use Rattle.nodes.proofs.Lists.{zero_or}
use Rattle.nodes.proofs.Sorted.{Every, none, also, every_append}
use Rattle.nodes.proofs.Ordered.{mem_order}
use Rattle.nodes.proofs.Listing.{tag_from}
use Rattle.nodes.proofs.Held.{held_good, held_tagged}
use Rattle.index_insert.specs.Enter.{lacks}
use Rattle.index.specs.Index.{entry_refusals, missing_refusals}
use Rattle.sheet.specs.Reading.{Item, item, fault, is_fault, offset}
use Rattle.sheet_read.proofs.RoundTrip.{words_small}
use Rattle.card.specs.Card.{GoodCard, NamedKit, NamedLine, card_of, encode_card, list_on, placed, place_first}
use Rattle.card.specs.Reading.{decode_card, said_card}
use Rattle.card.specs.Calls.{card_refusals, unknown_refusals}
use Rattle.card.proofs.Orders as orders
use Rattle.card.proofs.Orders.{card_good, list_comes_back, times_carried}
use Rattle.card.proofs.Codec as codec
use Rattle.card.proofs.Codec.{decode_encode_card, said_lines_good}
use Rattle.tables.specs.Lent.{lent_both, lent_list, part_count}
use Rattle.tables.specs.Inner.{SoundTables}
use Rattle.tables.proofs.Lent.{both_passed, list_passed}
use Rattle.catalogue.specs.Calls.{deleting, finding, inserting, list_said, reading_card, tag_of, tag_said, writing_card}
use Rattle.catalogue.proofs.Cards.{Known, card_passed}
use Rattle.catalogue.proofs.Kept.{done_parts, kept_by, insertion}
use Rattle.demands.specs.Model.{Words}
use Rattle.demands.specs.Demand2.{Asked}
use Rattle.demands.specs.AtOnce.{inserted}
use Rattle.demands.specs.Cards.{card_in, Lent, CardExactly, OneCard, CardWritten, CardNotWritten, CardSaysKit, CardThirteen, line_of}
use Rattle.demands.specs.Cards.{CardEleven, CardNineteen, CardIsInsertion, part_numbers, times, CardCarries, CardComesBack}
use Rattle.demands.proofs.Questions.{asked_tables}
use Rattle.demands.proofs.AtOnce.{undone_at_once}
use Rattle.demands.proofs.LaidDown.{NumberIn, unknown_in}
use Rattle.demands.proofs.NoKit.{pass_one, pass_all, not_among, both_in, nineteen_exactly}
use Rattle.demands.proofs.AsInsertion.{faults_pass, same_answer, same_memory, card_was, card_inserts}

------------------------------------------------------------------------
-- The card and its bytes

pub card_exactly : CardExactly
card_exactly = codec.card_exactly

pub one_card : OneCard
one_card = codec.one_card

------------------------------------------------------------------------
-- Writing: a list that is found

module _ (T : Tables) (l : List ℕ) (t : ℕ) (e : answer (finding l T) ≡ done t) where
  abbrev refusals : List Case
  refusals = lent_list T l ++ missing_refusals (units l) T.nodes

  find_passes : decide refusals 0 ≡ done 0
  unfolding answer finding
  find_passes = whole_passes (answer (finding l T)) refusals (tag_of T l) 0 refl (ap is_refused e)

  found_tag : tag_of T l ≡ t
  unfolding answer finding
  found_tag = ap value_of (sym (whole_passes (answer (finding l T)) refusals (tag_of T l) (tag_of T l) refl (ap is_refused e)) ∙ e)

  asked : Asked T l
  asked = (done_parts (lent_list T l) _ 0 0 0 find_passes).0

  sound : SoundTables T
  sound = asked_tables T l asked

  list_good : good_list (part_count T) l ≡ true
  unfolding lent_list
  list_good = list_passed (part_count T) l (ap is_refused (done_parts (lent_both T) (list_faults (part_count T) l) 0 0 0 asked).1)

  -- the kit that is held with this list
  found_kit : (k : Kit) × Memᴰ k (held T.nodes) × (k.row ≡ units l) × (k.tag ≡ tag_of T l)
  unfolding missing_refusals
  found_kit = tag_from (units l) (held T.nodes) (eqb-false (tag_of T l) 0 (done_passes _ _ _ _ (done_parts (lent_list T l) _ 0 0 0 find_passes).1).0)

  pub card_of_found : Words T → GoodCard (card_of (parts_of T.register) l t)
  card_of_found words =
      let shape = sound.sound.shape in
      let k = found_kit.0 in
      let is_held_lem = found_kit.1 in
      card_good (parts_of T.register) (sound_once T.register sound.ready) l list_good (number_good T.register sound.ready)
      (omega (arith, (held_good shape k is_held_lem).short, ap length found_kit.2)) t
      (omega (arith, held_tagged shape k is_held_lem, found_kit.3, found_tag))
      (omega (arith, words_small shape words k is_held_lem, found_kit.3, found_tag))

  written_is : (o : List ℕ) → writing_card l T o ≡ set_down refusals (card_in T l t) o
  unfolding writing_card
  written_is o = ap (λ (u : ℕ). set_down refusals (card_in T l u) o) found_tag

pub card_written : CardWritten
card_written T l o t e h =
    let p = set_down_behind (refusals T l t e) 0 (card_in T l t) o (find_passes T l t e) (set_down_done (card_in T l t) o h) in
    let w = written_is T l t e o in
    (ap answer w ∙ sym p.answers, ap (λ (q : Plan (List ℕ)). memory q o) w ∙ sym p.lent ∙ laid_front o (card_in T l t) h)

not_found : (T : Tables) (l o : List ℕ) (n v : ℕ) → answer (finding l T) ≡ refused n v → answer (writing_card l T o) ≡ refused n v
unfolding answer finding writing_card set_down
not_found T l o n v e =
    sym (first_refuses (answer (finding l T)) (lent_list T l ++ missing_refusals (units l) T.nodes) _ (tag_of T l) _ refl (ap is_refused e)) ∙ e

pub card_not_written : CardNotWritten
card_not_written T l o = (
  not_found T l o,
  λ t e h. ap answer (written_is T l t e o)
      ∙ sym (set_down_behind (refusals T l t e) 0 (card_in T l t) o (find_passes T l t e) (set_down_full (card_in T l t) o h)).answers,
)

pub card_says_kit : CardSaysKit
card_says_kit T l t words e = decode_encode_card (card_of (parts_of T.register) l t) (card_of_found T l t e words)

------------------------------------------------------------------------
-- Reading: 13 and 11

-- what insertion may answer of a row
abbrev of_row : List ℕ
of_row = 19 ∷ 9 ∷ 10 ∷ 12 ∷ []

entry_in : (r : List ℕ) (t : ℕ) (N : List ℕ) → Every (NumberIn of_row) (entry_refusals r t N)
unfolding anyb entry_refusals
entry_in r t N = also refl (also refl (also refl (also refl none)))

module _ (s : List ℕ) (T : Tables) where
  abbrev ps : List (List ℕ)
  ps = parts_of T.register

  abbrev rest : List Case
  rest = entry_refusals (units (list_said s T)) (tag_said s) T.nodes

  abbrev taken : ℕ
  taken = lacks T.nodes 0 (units (list_said s T))

  -- a number above 2 comes from behind the tables
  read_behind : (n v : ℕ) → anyb (eqb n) (1 ∷ 2 ∷ []) ≡ false → answer (reading_card s T) ≡ refused n v →
      Lent T × (decide (card_refusals ps s ++ rest) taken ≡ refused n v)
  unfolding answer reading_card
  read_behind n v out e = pass_all (1 ∷ 2 ∷ []) (lent_both T) _ _ n v (both_in T) out e

  behind_read : Lent T → answer (reading_card s T) ≡ decide (card_refusals ps s ++ rest) taken
  unfolding answer reading_card
  behind_read lent = decide_behind (lent_both T) _ 0 _ lent

  fault_there : (v : ℕ) → decide (card_refusals ps s ++ rest) taken ≡ refused 13 v → decode_card s ≡ fault v
  unfolding anyb card_refusals entry_refusals decide is_fault offset said_card
  fault_there v e = go (decode_card s) e
    where
      go : (m : Item NamedKit) →
          decide (given (is_fault m) 13 (offset m) ∷ (unknown_refusals ps 1 (said_card m).lines ++ rest)) taken ≡ refused 13 v → m ≡ fault v
      go (fault o) f = ap fault (ap value_of f)
      go (item c b o) f = absurd (not_among (11 ∷ of_row) (unknown_refusals ps 1 c.lines ++ rest) taken 13 v
          (every_append (unknown_in (11 ∷ of_row) refl ps 1 c.lines) (also refl (also refl (also refl (also refl none))))) refl f)

  there_fault : (v : ℕ) → decode_card s ≡ fault v → decide (card_refusals ps s ++ rest) taken ≡ refused 13 v
  unfolding card_refusals decide is_fault offset
  there_fault v d =
      let f : is_fault (decode_card s) ≡ true = ap is_fault d in
      let o : offset (decode_card s) ≡ v = ap offset d in
      rw (f, o) refl

pub card_thirteen : CardThirteen
unfolding anyb
card_thirteen s T v = (
  λ e. let b = read_behind s T 13 v refl e in (b.0, fault_there s T v b.1),
  λ c. behind_read s T c.0 ∙ there_fault s T v c.1,
)

-- line i of some lines, counted from 0
abbrev line_at : List NamedLine → ℕ → NamedLine
line_at xs i = get_or xs i (record { number = []; quantity = 0 })

-- the first line that is not registered among the parts is line i
record FirstUnknown (ps : List (List ℕ)) (xs : List NamedLine) (i : ℕ) : Type 0 where
  inside : i < length xs
  unknown : place_in (line_at xs i).number ps ≡ 0
  known_before : (j : ℕ) → j < i → 0 < place_in (line_at xs j).number ps

module _ (ps : List (List ℕ)) (ds : List Case) (w : ℕ) where
  unknown_first : (k : ℕ) (xs : List NamedLine) (n : ℕ) → Every (NumberIn of_row) ds → decide (unknown_refusals ps k xs ++ ds) w ≡ refused 11 n →
      (i : ℕ) × (n ≡ k + i) × FirstUnknown ps xs i
  unfolding anyb unknown_refusals decide
  unknown_first k [] n is e = absurd (not_among of_row ds w 11 n is refl e)
  unknown_first k (x ∷ xs) n is e = go (is_zero (place_in x.number ps)) refl e (unknown_first (suc k) xs n is)
    where
      go : (b : Bool) → is_zero (place_in x.number ps) ≡ b → cond b (refused 11 k) (decide (unknown_refusals ps (suc k) xs ++ ds) w) ≡ refused 11 n →
          (decide (unknown_refusals ps (suc k) xs ++ ds) w ≡ refused 11 n → (i : ℕ) × (n ≡ suc k + i) × FirstUnknown ps xs i) →
          (i : ℕ) × (n ≡ k + i) × FirstUnknown ps (x ∷ xs) i
      go true t f later = (
        0,
        omega (arith, ap value_of f),
        record { inside = omega arith; unknown = eqb-true (place_in x.number ps) 0 t; known_before = λ j h. absurd (omega arith) },
      )
      go false t f later =
          let r = later f in
          let first : (j : ℕ) → j < suc r.0 → 0 < place_in (line_at (x ∷ xs) j).number ps = before_it r.0 r.2.known_before t in
          (suc r.0, omega (arith, r.1), record { inside = omega (arith, r.2.inside); unknown = r.2.unknown; known_before = first })
        where
          before_it : (i : ℕ) → ((j : ℕ) → j < i → 0 < place_in (line_at xs j).number ps) → is_zero (place_in x.number ps) ≡ false →
              (j : ℕ) → j < suc i → 0 < place_in (line_at (x ∷ xs) j).number ps
          before_it i g t zero h = omega (arith, eqb-false (place_in x.number ps) 0 t)
          before_it i g t (suc j) h = g j (omega arith)

  first_unknown : (k : ℕ) (xs : List NamedLine) (i : ℕ) → FirstUnknown ps xs i → decide (unknown_refusals ps k xs ++ ds) w ≡ refused 11 (k + i)
  unfolding unknown_refusals decide
  first_unknown k [] i u = absurd (let z = u.inside in omega arith)
  first_unknown k (x ∷ xs) zero u =
      let z : place_in x.number ps ≡ 0 = u.unknown in
      rw z (ap (refused 11) (let q : k ≡ k + 0 = omega arith in q))
  first_unknown k (x ∷ xs) (suc i) u =
      let t : is_zero (place_in x.number ps) ≡ false = ne_eqb (place_in x.number ps) 0 (λ e. omega (arith, u.known_before 0 (omega arith))) in
      rw t (first_unknown (suc k) xs i (record {
        inside = omega (arith, u.inside);
        unknown = u.unknown;
        known_before = λ j h. u.known_before (suc j) (omega arith);
      }) ∙ ap (refused 11) (let q : suc k + i ≡ k + suc i = omega arith in q))

-- 11 comes from behind the fault
module _ (s : List ℕ) (T : Tables) where
  eleven_behind : (n : ℕ) → decide (card_refusals (ps s T) s ++ rest s T) (taken s T) ≡ refused 11 n →
      (is_fault (decode_card s) ≡ false) × (decide (unknown_refusals (ps s T) 1 (said_card (decode_card s)).lines ++ rest s T) (taken s T) ≡ refused 11 n)
  unfolding card_refusals
  eleven_behind n e = pass_one _ _ _ 11 n (λ q. omega arith) e

  behind_eleven : is_fault (decode_card s) ≡ false →
      decide (card_refusals (ps s T) s ++ rest s T) (taken s T)
      ≡ decide (unknown_refusals (ps s T) 1 (said_card (decode_card s)).lines ++ rest s T) (taken s T)
  unfolding card_refusals decide
  behind_eleven f = rw f refl

  -- lines counted from 1 are those counted from 0
  line_is : (j i : ℕ) → j ≡ suc i →
      place_in (line_of s j).number (parts_of T.register) ≡ place_in (line_at (said_card (decode_card s)).lines i).number (parts_of T.register)
  line_is j i q =
      let z : j - 1 ≡ i = omega arith in
      ap (λ (k : ℕ). place_in (line_at (said_card (decode_card s)).lines k).number (parts_of T.register)) z

  -- the line that 11 has as its value
  unknown_line : (k : ℕ) → answer (reading_card s T) ≡ refused 11 k →
      Lent T × (is_fault (decode_card s) ≡ false) × (i : ℕ) × (k ≡ suc i) × FirstUnknown (parts_of T.register) (said_card (decode_card s)).lines i
  unfolding anyb
  unknown_line k e =
      let b = read_behind s T 11 k refl e in
      let c = eleven_behind k b.1 in
      let u = unknown_first (ps s T) (rest s T) (taken s T) 1 (said_card (decode_card s)).lines k
      (entry_in (units (list_said s T)) (tag_said s) T.nodes) c.1 in
      (b.0, c.0, u.0, omega (arith, u.1), u.2)

  line_unknown : Lent T → is_fault (decode_card s) ≡ false → (i : ℕ) → FirstUnknown (parts_of T.register) (said_card (decode_card s)).lines i →
      answer (reading_card s T) ≡ refused 11 (suc i)
  line_unknown lent f i u =
      behind_read s T lent ∙ behind_eleven f ∙ first_unknown (ps s T) (rest s T) (taken s T) 1 (said_card (decode_card s)).lines i u
      ∙ ap (refused 11) (let q : 1 + i ≡ suc i = omega arith in q)

pub card_eleven : CardEleven
card_eleven s T k = (
  λ e.
      let u = unknown_line s T k e in
      let i = u.2 in
      let q : k ≡ suc i = u.3 in
      let first = u.4 in (
        u.0,
        u.1,
        omega arith,
        omega (arith, first.inside),
        λ r. omega (arith, r, line_is s T k i q, first.unknown),
        λ j h g.
            let z : j ≡ suc (j - 1) = omega arith in
            omega (arith, line_is s T j (j - 1) z, first.known_before (j - 1) (omega arith)),
      ),
  λ c.
      let xs = (said_card (decode_card s)).lines in
      let some : 0 < k = c.2 in
      let few : k ≤ length xs = c.3 in
      let q : k ≡ suc (k - 1) = omega arith in
      let u : FirstUnknown (parts_of T.register) xs (k - 1) = record {
        inside = omega arith;
        unknown = ⊎_elim (λ z. z) (λ p. absurd (c.4 (omega (arith, p, line_is s T k (k - 1) q))))
            (zero_or (place_in (line_at xs (k - 1)).number (parts_of T.register)));
        known_before = λ j h. omega (arith, line_is s T (suc j) j refl, c.5 (suc j) (omega arith) (omega arith));
      } in
      line_unknown s T c.0 c.1 (k - 1) u ∙ ap (refused 11) (sym q),
)

known_from : (ps : List (List ℕ)) (xs : List NamedLine) → ((i : ℕ) → i < length xs → 0 < place_in (line_at xs i).number ps) → Known ps xs
known_from ps [] f x m = absurd (Memᴰ.not-nil m)
known_from ps (y ∷ xs) f x m = ⊎_elim
    (λ (q : x ≡ y). subst (λ (z : NamedLine). 0 < place_in z.number ps) (sym q) (f 0 (omega arith)))
    (λ j. known_from ps xs (λ i h. f (suc i) (omega arith)) x j)
    (Memᴰ.cases_cons m)

pub card_is_insertion : CardIsInsertion
card_is_insertion s T f h =
    let known = known_from (parts_of T.register) (said_card (decode_card s)).lines
    (λ i g. omega (arith, line_is s T (suc i) i refl, h (suc i) (omega arith) (omega arith))) in
    (same_answer s T f known, same_memory s T f known)

-- a list without a line has the card without a line
no_line : (ps : List (List ℕ)) (xs : List NamedLine) → placed ps (order_by (place_first ps) xs) ≡ [] → xs ≡ []
unfolding placed
no_line ps [] e = refl
no_line ps (x ∷ xs) e = absurd (go (order_by (place_first ps) (x ∷ xs)) (mem_order (place_first ps) x (x ∷ xs) (Memᴰ.head refl)) e)
  where
    go : (ys : List NamedLine) → Memᴰ x ys → placed ps ys ≡ [] → ⊥
    go [] m f = Memᴰ.not-nil m
    go (y ∷ ys) m f = let z : suc (suc (length (placed ps ys))) ≡ 0 = ap length f in omega arith

card_in_lem : (ps : List (List ℕ)) (s : List ℕ) → Every (NumberIn (13 ∷ 11 ∷ [])) (card_refusals ps s)
unfolding anyb card_refusals
card_in_lem ps s = also refl (unknown_in (13 ∷ 11 ∷ []) refl ps 1 (said_card (decode_card s)).lines)

nineteen_only : (s : List ℕ) (T : Tables) (v : ℕ) → answer (reading_card s T) ≡ refused 19 v →
    Lent T × (is_fault (decode_card s) ≡ false) × ((said_card (decode_card s)).lines ≡ []) × (v ≡ 0)
unfolding anyb list_on
nineteen_only s T v e =
    let b = read_behind s T 19 v refl e in
    let p = card_passed (ps s T) s (pass_all (13 ∷ 11 ∷ []) (card_refusals (ps s T) s) _ _ 19 v (card_in_lem (ps s T) s) refl b.1).0 in
    let n = (nineteen_exactly (list_said s T) (tag_said s) v T).0 (sym (same_answer s T p.0 p.1) ∙ e) in
    (b.0, p.0, no_line (ps s T) (said_card (decode_card s)).lines n.2, n.3)

nineteen_there : (s : List ℕ) (T : Tables) (v : ℕ) → Lent T → is_fault (decode_card s) ≡ false → (said_card (decode_card s)).lines ≡ [] → v ≡ 0 →
    answer (reading_card s T) ≡ refused 19 v
unfolding lent_list list_on placed order_by
nineteen_there s T v lent f e z =
    let known : Known (ps s T) (said_card (decode_card s)).lines = subst (Known (ps s T)) (sym e) (λ x m. absurd (Memᴰ.not-nil m)) in
    let S = both_passed T.register T.nodes (ap is_refused lent) in
    same_answer s T f known ∙ (nineteen_exactly (list_said s T) (tag_said s) v T).1 (
      decide_behind (lent_both T) (list_faults (part_count T) (list_said s T)) 0 0 lent ∙ faults_pass s T f known S,
      (said_lines_good s f).1,
      ap (λ (xs : List NamedLine). placed (ps s T) (order_by (place_first (ps s T)) xs)) e,
      z,
    )

pub card_nineteen : CardNineteen
card_nineteen s T v = (nineteen_only s T v, λ c. nineteen_there s T v c.0 c.1 c.2 c.3)

------------------------------------------------------------------------
-- "Read where the places differ"

module _ (T : Tables) (l : List ℕ) (t : ℕ) (words : Words T) (e : answer (finding l T) ≡ done t) where
  abbrev its_card : NamedKit
  its_card = card_of (parts_of T.register) l t

  card_said : said_card (decode_card (card_in T l t)) ≡ its_card
  unfolding said_card
  card_said = ap said_card (card_says_kit T l t words e)

  list_said_lem : (U : Tables) → list_said (card_in T l t) U ≡ list_on (parts_of U.register) its_card
  list_said_lem U = ap (list_on (parts_of U.register)) card_said

  tag_said_lem : tag_said (card_in T l t) ≡ t
  unfolding card_of
  tag_said_lem = ap (λ (c : NamedKit). c.tag) card_said

pub card_comes_back : CardComesBack
card_comes_back T U l t words e p =
    list_said_lem T l t words e U ∙ ap (λ (ps : List (List ℕ)). list_on ps (its_card T l t words e)) p
    ∙ list_comes_back (parts_of T.register) (sound_once T.register (sound T l t e).ready) l (list_good T l t e) t

-- a list that was inserted is found
found_after : (U : Tables) (l : List ℕ) (t v : ℕ) → answer (inserting l t U) ≡ done v → answer (finding l (inserted l t U)) ≡ done t
unfolding answer finding deleting
found_after U l t v e = (undone_at_once U l t v e).0

register_stays : (s : List ℕ) (U : Tables) → (memory (reading_card s U) U).register ≡ U.register
unfolding reading_card
register_stays s U = kept_by (λ (X : Tables). X.register ≡ U.register) (reading_card s U) U refl (λ v e. refl)

module _ (T U : Tables) (l : List ℕ) (t v : ℕ) (words : Words T) (e : answer (finding l T) ≡ done t)
    (r : answer (reading_card (card_in T l t) U) ≡ done v) where
  abbrev s : List ℕ
  s = card_in T l t

  abbrev W : Tables
  W = memory (reading_card s U) U

  parts_stay : parts_of W.register ≡ parts_of U.register
  parts_stay = ap parts_of (register_stays s U)

  found_there : answer (finding (list_said s U) W) ≡ done t
  found_there =
      let was = card_was s U v r in
      ap (λ (X : Tables). answer (finding (list_said s U) X)) (same_memory s U was.0 was.1)
      ∙ found_after U (list_said s U) (tag_said s) v (card_inserts s U v r) ∙ ap done (tag_said_lem T l t words e)

  -- the card of the list that was read is the card
  same_card : card_of (parts_of U.register) (list_said s U) t ≡ card_of (parts_of T.register) l t
  unfolding card_of
  same_card =
      let c = card_of (parts_of T.register) l t in
      let S = both_passed U.register U.nodes (ap is_refused (insertion (list_said s U) (tag_said s) U v (card_inserts s U v r)).tables_pass) in
      let known : Known (parts_of U.register) c.lines = subst (λ (k : NamedKit). Known (parts_of U.register) k.lines)
      (card_said T l t words e) (card_was s U v r).1 in
      ap (λ (k : List ℕ). card_of (parts_of U.register) k t) (list_said_lem T l t words e U)
      ∙ orders.card_comes_back (parts_of U.register) (sound_once U.register S.ready) c (card_of_found T l t e words) known

  same_times : (n : List ℕ) → times n (part_numbers T (units l)) ≡ times n (part_numbers W (units (list_said s U)))
  unfolding times card_of
  same_times n =
      let p = parts_stay in
      rw p (times_carried (parts_of T.register) (parts_of U.register) l (list_said s U) n (ap (λ (c : NamedKit). c.lines) (sym same_card)))

  same_bytes : card_in W (list_said s U) t ≡ s
  same_bytes = ap (λ (ps : List (List ℕ)). encode_card (card_of ps (list_said s U) t)) parts_stay ∙ ap encode_card same_card

pub card_carries : CardCarries
card_carries T U l t v words e r =
    (found_there T U l t v words e r, same_times T U l t v words e r, same_bytes T U l t v words e r)
