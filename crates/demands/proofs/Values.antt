-- "Each answer is a number (0 for done) and a value below 2^32": of every call, refused or done.
use mathlib.Core.Path.{◌≡◌, refl, ap, ◌∙◌}
use mathlib.Core.Logic.{⊎_elim}
use mathlib.Core.Bool.{true, false}
use mathlib.Core.List.{List, [], ◌∷◌, ◌++◌, map, append_assoc, append-nil, Memᴰ}
use Prim.Native.Nat.{ℕ, suc, ◌+◌, ◌*◌, ◌/◌, ◌≤◌, ◌<◌}
use native.Mathlib.Nat.{suc-mul}
use native.Mathlib.Omega.{arith}
use lib.ListN.{length, get_or, length-append, length-map}
use borrow.Author.Tests.{not-false, ltb-false}
use Rattle.ground.specs.Limits.{two_limit}
use Rattle.ground.specs.Lists.{anyb, concat, eq_list}
use Rattle.ground.specs.Calls.{Case, Reply, done, refused, is_refused, value_of, decide, answer, set_down, Both, set_both}
use Rattle.ground.proofs.Laws.{by_cond}
use Rattle.ground.proofs.Calls.{whole_passes, done_passes}
use Rattle.register.specs.Number.{good_number}
use Rattle.register.specs.Register.{parts_of, place_from, place_in, slot_count}
use Rattle.register.specs.Calls.{lent_register, number_refusals, registering, looking_up, showing}
use Rattle.register.specs.Inner.{Ready}
use Rattle.register.proofs.Slots.{number_short}
use Rattle.kits.specs.Kits.{most_units, most_place, list_of, units, line_value, line_faults, lines_faults, list_faults}
use Rattle.kits.specs.Inner.{GoodRow}
use Rattle.nodes.specs.Nodes.{size}
use Rattle.nodes.specs.Held.{Kit, held, listed, some_unit, tag_in, tags_of, first_tag, beginnings, add_new, all_beginnings}
use Rattle.nodes.proofs.Lists.{zero_or}
use Rattle.nodes.proofs.Sorted.{Every, none, also, every_append, keep_mem, keep_short, allb_mem}
use Rattle.nodes.proofs.Listing.{tags_long, tag_from}
use Rattle.nodes.proofs.Tallies.{count_most}
use Rattle.nodes.proofs.Units.{listed_mem}
use Rattle.index_insert.specs.Enter.{lacks}
use Rattle.index_insert.proofs.Entered.{lacks_most}
use Rattle.index.specs.Index.{entry_refusals, missing_refusals}
use Rattle.questions.specs.Questions.{is_within, is_containing, fitting, any_of, all_of}
use Rattle.questions.proofs.Meaning.{fitting_exactly}
use Rattle.shortfalls.specs.Shortfalls.{is_almost}
use Rattle.pages.specs.Pages.{row_shown, comes_after, following, turn_page}
use Rattle.pages.specs.declared.Bookmark.{Bookmark}
use Rattle.sheet.specs.Bytes.{in_bytes, two, Bytes}
use Rattle.sheet.specs.Sheet.{Contents, contents_of, place_bytes, line_words, number_item, number_items, record_item, record_items, encode_as, encode}
use Rattle.sheet.specs.Sheet.{nodes_needed, without_empty}
use Rattle.sheet.specs.Inner.{most_item, most_record, good_kit}
use Rattle.sheet.specs.Reading.{Item, item, fault, is_fault, offset, decode, said, salvage, rescued}
use Rattle.sheet.specs.Calls.{sheet_refusals, room_refusals, salvage_refusals}
use Rattle.sheet.proofs.Fits.{Fits, fitting_fits}
use Rattle.sheet.proofs.Lines.{record_size_lem, lines_few}
use Rattle.sheet.proofs.Widths.{lines_most, version_width}
use Rattle.sheet_write.proofs.Records.{number_size}
use Rattle.sheet_read.proofs.Listed.{kit_fits}
use Rattle.sheet_read.proofs.Reading.{said_again}
use Rattle.sheet_read.proofs.Rescued.{kept_fits}
use Rattle.sheet_read.proofs.RoundTrip.{SmallTags, words_small, catalogue_fits}
use Rattle.card.specs.Card.{GoodCard, NamedKit, NamedLine, card_of, encode_card, named_item, named_items}
use Rattle.card.specs.Reading.{decode_card, said_card}
use Rattle.card.specs.Calls.{card_refusals, unknown_refusals}
use Rattle.card.specs.Inner.{most_named}
use Rattle.card.proofs.Codec.{lines_few as card-lines-few, good_lines_few}
use Rattle.card.proofs.Offsets.{offset_small}
use Rattle.tables.specs.Inner.{SoundTables}
use Rattle.tables.proofs.Lent.{both_passed, lent_passed, few_parts_lem}
use Rattle.ground.specs.Tables.{Tables, tables}
use Rattle.tables.specs.Lent.{part_count, lengths, lent_both, lent_list}
use Rattle.catalogue.specs.Calls.{empty_both, register_part, look_up, show_at, insert_kit, find_kit, delete_kit, any_within, any_containing}
use Rattle.catalogue.specs.Calls.{all_within, all_containing, all_almost, write_sheet, read_sheet, salvage_sheet, plan_of, emptying, inserting, finding}
use Rattle.catalogue.specs.Calls.{count_kits, turn_within, turn_containing, deleting, counting, any_kit, all_kits, almost_kits, turning, writing, reading}
use Rattle.catalogue.specs.Calls.{Question, list_said, read_card, reading_card, salvaging, tag_of, tag_said, write_card, writing_card}
use Rattle.demands.specs.Model.{sheet, torn}
use Rattle.demands.specs.Pins.{ValuesFit}
use Rattle.catalogue.proofs.Cards.{card_passed, list_short}
use Rattle.demands.proofs.Cards.{card_of_found}
use Rattle.demands.proofs.Offsets.{fault_near, salvage_fault_near}

abbrev limit : ℕ
limit = 4294967296

some_limit : 0 < limit
some_limit = omega arith

-- The first refusals have values that fit, so that what stands behind them matters only where they pass
abbrev SmallValue : Case → Type 0
SmallValue c = c.value < limit

small_step : (c : Case) (cs : List Case) (v : ℕ) → (c.test ≡ true → c.value < limit) → (c.test ≡ false → value_of (decide cs v) < limit) →
    value_of (decide (c ∷ cs) v) < limit
unfolding decide
small_step c cs v f g = by_cond (λ (r : Reply). value_of r < limit) c.test (refused c.number c.value) (decide cs v) f g

next_passes : (c : Case) (cs : List Case) → c.test ≡ false → is_refused (decide cs 0) ≡ false → is_refused (decide (c ∷ cs) 0) ≡ false
unfolding decide
next_passes c cs t e = rw t e

none_passes : is_refused (decide [] 0) ≡ false
unfolding decide
none_passes = refl

small_front : (cs ds : List Case) (v : ℕ) → Every SmallValue cs → (is_refused (decide cs 0) ≡ false → value_of (decide ds v) < limit) →
    value_of (decide (cs ++ ds) v) < limit
small_front [] ds v none g = g none_passes
small_front (c ∷ cs) ds v (also p ps) g =
    small_step c (cs ++ ds) v (λ t. p) (λ t. small_front cs ds v ps (λ e. g (next_passes c cs t e)))

-- Tags
tag_small : (B : ℕ) (r : List ℕ) (ks : List Kit) → 0 < B → ((k : Kit) → Memᴰ k ks → k.tag < B) → tag_in r ks < B
tag_small B r ks h f = ⊎_elim
    (λ (z : tag_in r ks ≡ 0). omega arith)
    (λ (g : 0 < tag_in r ks). let o = tag_from r ks (λ z. omega arith) in omega (arith, f o.0 o.1, o.3))
    (zero_or (tag_in r ks))

first_small : (B : ℕ) (ks : List Kit) → 0 < B → ((k : Kit) → Memᴰ k ks → k.tag < B) → first_tag ks < B
unfolding first_tag
first_small B [] h f = h
first_small B (k ∷ ks) h f = f k (Memᴰ.head refl)

-- Items one behind the other
concat_long : {A : Type 0} (f : A → List ℕ) (b : ℕ) (xs : List A) → ((x : A) → Memᴰ x xs → length (f x) ≤ b) →
    length (concat (map f xs)) ≤ length xs * b
unfolding concat
concat_long f b [] h = omega arith
concat_long f b (x ∷ xs) h =
    omega (
      arith,
      length-append (f x) (concat (map f xs)),
      h x (Memᴰ.head refl),
      concat_long f b xs (λ y m. h y (Memᴰ.tail m)),
      suc-mul (length xs) b,
    )

-- A card
card_small : (c : NamedKit) → GoodCard c → length (encode_card c) < limit
unfolding encode_card named_item named_items in_bytes
card_small c G =
    omega (
      arith,
      concat_long named_item most_named c.lines (λ x m. omega (
        arith,
        length-append (number_item x.number) (x.quantity ∷ []),
        number_size x.number,
        number_short x.number (G.numbers x m),
      )),
      good_lines_few c G,
    )

-- Beginnings
beginnings_long : (r : List ℕ) → length (beginnings r) ≡ length r
unfolding beginnings
beginnings_long [] = refl
beginnings_long (x ∷ r) = ap suc (length-map (beginnings r) (◌∷◌ x) ∙ beginnings_long r)

add_long : (bs seen : List (List ℕ)) → length (add_new bs seen) ≤ length bs + length seen
unfolding add_new
add_long [] seen = omega arith
add_long (b ∷ bs) seen =
    by_cond (λ (l : List (List ℕ)). length (add_new bs l) ≤ suc (length bs) + length seen) (anyb (eq_list b) seen) seen (b ∷ seen)
    (λ _. omega (arith, add_long bs seen)) (λ _. omega (arith, add_long bs (b ∷ seen)))

all_long : (n : ℕ) (ks : List Kit) → ((k : Kit) → Memᴰ k ks → length k.row ≤ n) → length (all_beginnings ks) ≤ length ks * n
unfolding all_beginnings
all_long n [] h = omega arith
all_long n (k ∷ ks) h =
    omega (
      arith,
      add_long (beginnings k.row) (all_beginnings ks),
      beginnings_long k.row,
      h k (Memᴰ.head refl),
      all_long n ks
          (λ y m. h y (Memᴰ.tail m)),
      suc-mul (length ks) n,
    )

-- Places
pub place_known : (k : ℕ) (n : List ℕ) (ps : List (List ℕ)) → 0 < k → place_from k n ps < k + length ps
unfolding place_from
place_known k n [] h = omega arith
place_known k n (p ∷ ps) h =
    by_cond (λ (x : ℕ). x < k + suc (length ps)) (eq_list n p) k (place_from (suc k) n ps) (λ _. omega arith)
    (λ _. omega (arith, place_known (suc k) n ps (omega arith)))

-- The refusals of what is lent
lengths_fit : (T : Tables) → Every SmallValue (lengths T)
unfolding lengths
lengths_fit T = also some_limit (also some_limit none)

both_fit : (T : Tables) → Every SmallValue (lent_both T)
unfolding lent_both
both_fit T = every_append (lengths_fit T) (also some_limit (also some_limit none))

line_value_fits : (k : ℕ) → line_value k < limit
unfolding line_value
line_value_fits k = omega arith

lines_fit : (n prev k : ℕ) (l : List ℕ) → Every SmallValue (lines_faults n prev k l)
unfolding line_faults lines_faults
lines_fit n prev k [] = none
lines_fit n prev k (p ∷ []) = none
lines_fit n prev k (p ∷ q ∷ l) = also (line_value_fits k) (also (line_value_fits k) (also (line_value_fits k) (lines_fit n p (suc k) l)))

faults_fit : (n : ℕ) (l : List ℕ) → Every SmallValue (list_faults n l)
unfolding list_faults
faults_fit n l = also (line_value_fits (length l / 2 + 1)) (lines_fit n 0 1 l)

list_fits : (T : Tables) (l : List ℕ) → Every SmallValue (lent_list T l)
unfolding lent_list
list_fits T l = every_append (both_fit T) (faults_fit (part_count T) l)

-- and of a card
unknown_fits : (ps : List (List ℕ)) (k : ℕ) (xs : List NamedLine) → k + length xs ≤ limit → Every SmallValue (unknown_refusals ps k xs)
unfolding unknown_refusals
unknown_fits ps k [] h = none
unknown_fits ps k (x ∷ xs) h = let fits : k < limit = omega arith in also fits (unknown_fits ps (suc k) xs (omega arith))

said_few : (s : List ℕ) → length (said_card (decode_card s)).lines ≤ most_units
unfolding is_fault said_card
said_few s = go (decode_card s) refl
  where
    go : (m : Item NamedKit) → decode_card s ≡ m → length (said_card (decode_card s)).lines ≤ most_units
    go (item c rest o) d = card-lines-few s (ap is_fault d)
    go (fault o) d = omega (arith, ap (λ (m : Item NamedKit). length (said_card m).lines) d)

card_fits : (ps : List (List ℕ)) (s : List ℕ) → Every SmallValue (card_refusals ps s)
unfolding card_refusals
card_fits ps s =
    let fits : offset (decode_card s) < limit = omega (arith, offset_small s) in
    also fits (unknown_fits ps 1 (said_card (decode_card s)).lines (omega (arith, said_few s)))

lent_register_fits : (R : List ℕ) → Every SmallValue (lent_register R)
unfolding lent_register
lent_register_fits R = also some_limit (also some_limit none)

register_passed : (R : List ℕ) → is_refused (decide (lent_register R) 0) ≡ false → Ready R
unfolding lent_register
register_passed R e =
    let d = whole_passes (decide (lent_register R) 0) (lent_register R) 0 0 refl e in
    let a = done_passes _ _ _ _ d in
    let b = done_passes _ _ _ _ a.1 in
    record { fits = not-false _ a.0; sound = not-false _ b.0 }

end_small : (v : ℕ) → v < limit → value_of (decide [] v) < limit
unfolding decide
end_small v h = h

small_end : (cs : List Case) (v : ℕ) → Every SmallValue cs → (is_refused (decide cs 0) ≡ false → v < limit) → value_of (decide cs v) < limit
small_end cs v p f = rw append-nil at (small_front cs [] v p (λ e. end_small v (f e)))

-- an output that is set down
down_small : (cs : List Case) (xs o : List ℕ) → Every SmallValue cs → (is_refused (decide cs 0) ≡ false → length xs < limit) →
    value_of (answer (set_down cs xs o)) < limit
unfolding answer set_down
down_small cs xs o p f = small_front cs _ _ p (λ e. small_step _ _ _ (λ _. f e) (λ _. end_small _ (f e)))

-- The register's calls
module _ (n R : List ℕ) where
  place_small : Ready R → place_in n (parts_of R) < limit
  unfolding place_in
  place_small r = omega (arith, place_known 1 n (parts_of R) (omega arith), few_parts_lem R r)

  pub registering_small : value_of (answer (registering n R)) < limit
  unfolding answer registering number_refusals
  registering_small = small_front (lent_register R) _ _ (lent_register_fits R) (λ e.
      let r = register_passed R e in
      small_step _ _ _ (λ _. some_limit) (λ _.
      small_step _ _ _ (λ _. some_limit) (λ _.
      small_step _ _ _ (λ _. place_small r) (λ _.
      small_step _ _ _ (λ _. omega arith) (λ _. end_small _ (omega (arith, few_parts_lem R r)))))))

  pub looking_small : value_of (answer (looking_up n R)) < limit
  unfolding answer looking_up
  looking_small = small_front (lent_register R) _ _ (lent_register_fits R) (λ e.
      let r = register_passed R e in
      small_step _ _ _ (λ _. some_limit) (λ _.
      small_step _ _ _ (λ _. some_limit) (λ _. end_small _ (place_small r))))

pub showing_small : (p : ℕ) (R : List ℕ) → value_of (answer (showing p R)) < limit
unfolding answer showing
showing_small p R =
    small_front (lent_register R) _ _ (lent_register_fits R)
    (λ e. small_step _ _ _ (λ _. some_limit) (λ _. end_small _ some_limit))

-- Tables that are lent, of 16-bit words
module _ (R N : List ℕ) (words : (i : ℕ) → get_or N i 0 < two_limit) where
  module _ (L : SoundTables (tables R N)) where
    tags_here : SmallTags N
    tags_here = words_small L.sound.shape words

    fits_here : Fits (contents_of R N)
    fits_here = fitting_fits (contents_of R N) (catalogue_fits L.ready L.sound tags_here)

    tag_here : (r : List ℕ) → tag_in r (held N) < limit
    tag_here r = omega (arith, tag_small two_limit r (held N) (omega arith) tags_here)

    kits_here : length (listed N) < limit
    kits_here = omega (arith, fits_here.few_kits)

    fitting_here : (question : Question) (l : List ℕ) (k : Kit) → Memᴰ k (fitting question l N) → k.tag < limit
    fitting_here question l k m = omega (arith, tags_here k ((listed_mem N k).0 ((fitting_exactly question l N k).0 m).0).0)

  abbrev T : Tables
  T = tables R N

  list_lent : (l : List ℕ) → is_refused (decide (lent_list T l) 0) ≡ false → SoundTables (tables R N)
  list_lent l e = lent_passed R N l e

  -- a row of at most 64 units is entered
  entry_small : SoundTables T → (r : List ℕ) (t : ℕ) → length r ≤ most_units → value_of (decide (entry_refusals r t N) (lacks N 0 r)) < limit
  unfolding entry_refusals
  entry_small L r t short =
      let few : lacks N 0 r ≤ 64 = omega (arith, lacks_most N 0 r, short) in
      small_step _ _ _ (λ _. some_limit) (λ _.
      small_step _ _ _ (λ _. tag_here L r) (λ _.
      small_step _ _ _ (λ _. some_limit) (λ _.
      small_step _ _ _ (λ _. omega arith) (λ _. end_small _ (omega arith)))))

  pub inserting_small : (l : List ℕ) (t : ℕ) → value_of (answer (inserting l t (tables R N))) < limit
  unfolding answer inserting
  inserting_small l t = small_front (lent_both T) _ _ (both_fit T) (λ e.
      small_step _ _ _ (λ _. some_limit) (λ _.
      small_front (list_faults (part_count T) l) _ _ (faults_fit (part_count T) l) (λ _.
      small_step _ _ _ (λ _. some_limit) (λ s. entry_small (both_passed R N e) (units l) t (ltb-false most_units (length (units l)) s)))))

  pub reading_card_small : (s : List ℕ) → value_of (answer (reading_card s (tables R N))) < limit
  unfolding answer reading_card
  reading_card_small s = small_front (lent_both T) _ _ (both_fit T) (λ e.
      small_front (card_refusals (parts_of R) s) _ _ (card_fits (parts_of R) s) (λ f.
      let passed = card_passed (parts_of R) s (whole_passes (decide (card_refusals (parts_of R) s) 0) (card_refusals (parts_of R) s) 0 0 refl f) in
      let L = both_passed R N e in
      entry_small L (units (list_said s T)) (tag_said s) (list_short s T passed.0 passed.1 L)))

  pub finding_small : (l : List ℕ) → value_of (answer (finding l (tables R N))) < limit
  unfolding answer finding missing_refusals
  finding_small l =
      small_front (lent_list T l) _ _ (list_fits T l)
      (λ e. small_step _ _ _ (λ _. some_limit) (λ _. end_small _ (tag_here (list_lent l e) (units l))))

  pub deleting_small : (l : List ℕ) → value_of (answer (deleting l (tables R N))) < limit
  unfolding answer deleting missing_refusals
  deleting_small l =
      small_front (lent_list T l) _ _ (list_fits T l)
      (λ e. small_step _ _ _ (λ _. some_limit) (λ _. end_small _ (tag_here (list_lent l e) (units l))))

  pub counting_small : (l : List ℕ) → value_of (answer (counting l (tables R N))) < limit
  unfolding answer counting
  counting_small l =
      small_end (lent_list T l) _ (list_fits T l) (λ e. omega (arith, count_most (units l) (listed N), kits_here (list_lent l e)))

  pub any_small : (question : Question) (l : List ℕ) → value_of (answer (any_kit question l (tables R N))) < limit
  unfolding answer any_kit any_of
  any_small question l =
      small_end (lent_list T l) _ (list_fits T l)
      (λ e. first_small limit (fitting question l N) some_limit (fitting_here (list_lent l e) question l))

  few_fitting : (question : Question) (l : List ℕ) → is_refused (decide (lent_list T l) 0) ≡ false →
      length (tags_of (fitting question l N)) < limit
  unfolding fitting
  few_fitting question l e =
      omega (arith, tags_long (fitting question l N), keep_short (question (units l)) (listed N), kits_here (list_lent l e))

  pub all_small : (question : Question) (l o : List ℕ) → value_of (answer (all_kits question l (tables R N) o)) < limit
  unfolding all_kits all_of fitting
  all_small question l o = down_small (lent_list T l) _ o (list_fits T l) (few_fitting question l)

  pub almost_small : (d : ℕ) (l : List ℕ) (o : Both) → value_of (answer (almost_kits d l (tables R N) o)) < limit
  unfolding answer almost_kits set_both all_of fitting
  almost_small d l o = rw append_assoc (small_front (lent_list T l) _ _ (list_fits T l) (λ e.
      small_step _ _ _ (λ _. some_limit) (λ _.
      let few : length (tags_of (fitting (is_almost d) l N)) < limit = few_fitting (is_almost d) l e in
      small_step _ _ _ (λ _. few) (λ _. end_small _ few))))

  pub turning_small : (question : Question) (l : List ℕ) (b : Bookmark) → value_of (answer (turning question l (tables R N) b)) < limit
  unfolding answer turning turn_page following
  turning_small question l b = small_front (lent_list T l) _ _ (list_fits T l) (λ e.
      small_step _ _ _ (λ _. some_limit) (λ _. end_small _
      (first_small limit (following question l b N) some_limit (λ k i.
      fitting_here (list_lent l e) question l k (keep_mem (comes_after (row_shown b)) k (fitting question l N) i).0))))

  pub writing_card_small : (l o : List ℕ) → value_of (answer (writing_card l (tables R N) o)) < limit
  unfolding answer finding writing_card missing_refusals
  writing_card_small l o =
      let cs = lent_list T l ++ missing_refusals (units l) N in
      down_small cs _ o (every_append (list_fits T l) (also some_limit none)) (λ e.
      let found : answer (finding l T) ≡ done (tag_of T l) = whole_passes (decide cs 0) cs 0 (tag_of T l) refl e in
      card_small (card_of (parts_of R) l (tag_of T l)) (card_of_found T l (tag_of T l) found words))

  pub emptying_small : value_of (answer (emptying (tables R N))) < limit
  unfolding answer emptying
  emptying_small = small_end (lengths T) 0 (lengths_fit T) (λ _. some_limit)

-- A sheet that fits the format
module _ (c : Contents) (F : Fits c) where
  row_short_lem : (k : Kit) → Memᴰ k c.kits → GoodRow most_place k.row
  row_short_lem k m =
      (kit_fits (length c.parts) most_place k F.few_parts_lem (allb_mem (good_kit (length c.parts)) c.kits k F.kits_good m)).row

  numbers_long : length (number_items c.parts) ≤ length c.parts * most_item
  unfolding number_items
  numbers_long =
      concat_long number_item most_item c.parts
      (λ p m. omega (arith, number_size p, number_short p (allb_mem good_number c.parts p F.numbers_good m)))

  -- in how many bytes its places stand
  abbrev width : ℕ
  width = place_bytes (length c.parts)

  record_long : (k : Kit) → Memᴰ k c.kits → length (record_item width k) ≤ most_record
  record_long k m =
      let n = length (list_of k.row) / line_words in
      let few : n ≤ most_units = omega (arith, lines_few k.row, (row_short_lem k m).short) in
      omega (arith, record_size_lem width k.row k.tag (row_short_lem k m), lines_most (version_width (length c.parts)) n most_units few)

  records_long : length (record_items width c.kits) ≤ length c.kits * most_record
  unfolding record_items
  records_long = concat_long (record_item width) most_record c.kits record_long

  sheet_small : length (encode c) < limit
  unfolding encode encode_as in_bytes
  sheet_small =
      omega (
        arith,
        length-append (number_items c.parts) (two (length c.kits) ++ record_items width c.kits),
        numbers_long,
        records_long,
        F.few_parts_lem,
        F.few_kits,
      )

  nodes_small : nodes_needed c < limit
  nodes_small = omega (arith, all_long 64 c.kits (λ k m. (row_short_lem k m).short), F.few_kits)

  -- 12 for what is read or kept, or else how many of its kits have a unit
  room_small : (slots nodes : ℕ) → value_of (decide (room_refusals c slots nodes) (length (without_empty c).kits)) < limit
  unfolding room_refusals
  room_small slots nodes =
      small_step _ _ _ (λ _. omega (arith, F.few_parts_lem)) (λ _.
      small_step _ _ _ (λ _. nodes_small) (λ _. end_small _ (omega (arith, keep_short some_unit c.kits, F.few_kits))))

pub writing_small : (R N : List ℕ) (words : (i : ℕ) → get_or N i 0 < two_limit) (o : List ℕ) → value_of (answer (writing (tables R N) o)) < limit
unfolding writing
writing_small R N words o =
    down_small (lent_both (tables R N)) _ o (both_fit (tables R N))
    (λ e. sheet_small (contents_of R N) (fits_here R N words (both_passed R N e)))

pub reading_small : (s : List ℕ) (T : Tables) → Bytes s → value_of (answer (reading s T)) < limit
unfolding answer reading sheet_refusals
reading_small s T h = small_front (lengths T) _ _ (lengths_fit T) (λ e.
    small_step _ _ _ (λ _. omega (arith, fault_near s h)) (λ f.
    let c = said (decode s) in
    room_small c (fitting_fits c (said_again s h f).1) (slot_count T.register) (size T.nodes)))

pub salvaging_small : (s : List ℕ) (T : Tables) → Bytes s → value_of (answer (salvaging s T)) < limit
unfolding answer salvaging salvage_refusals
salvaging_small s T h = small_front (lengths T) _ _ (lengths_fit T) (λ e.
    small_step _ _ _ (λ _. omega (arith, salvage_fault_near s h)) (λ f.
    let c = (rescued (salvage s)).kept in
    room_small c (fitting_fits c (kept_fits s h f)) (slot_count T.register) (size T.nodes)))

pub values_fit : ValuesFit
unfolding plan_of answer
values_fit empty_both T w y = emptying_small T.register T.nodes w
values_fit (register_part n) T w y = registering_small n T.register
values_fit (look_up n) T w y = looking_small n T.register
values_fit (show_at p) T w y = showing_small p T.register
values_fit (insert_kit l t) T w y = inserting_small T.register T.nodes w l t
values_fit (find_kit l) T w y = finding_small T.register T.nodes w l
values_fit (delete_kit l) T w y = deleting_small T.register T.nodes w l
values_fit (count_kits l) T w y = counting_small T.register T.nodes w l
values_fit (any_within l) T w y = any_small T.register T.nodes w is_within l
values_fit (any_containing l) T w y = any_small T.register T.nodes w is_containing l
values_fit (all_within l o) T w y = all_small T.register T.nodes w is_within l o
values_fit (all_containing l o) T w y = all_small T.register T.nodes w is_containing l o
values_fit (all_almost d l o) T w y = almost_small T.register T.nodes w d l o
values_fit (turn_within l k) T w y = turning_small T.register T.nodes w is_within l k
values_fit (turn_containing l k) T w y = turning_small T.register T.nodes w is_containing l k
values_fit (write_sheet o) T w y = writing_small T.register T.nodes w o
values_fit (read_sheet s) T w y = reading_small s T (y.bytes s sheet)
values_fit (salvage_sheet s) T w y = salvaging_small s T (y.bytes s torn)
values_fit (write_card l o) T w y = writing_card_small T.register T.nodes w l o
values_fit (read_card s) T w y = reading_card_small T.register T.nodes w s
