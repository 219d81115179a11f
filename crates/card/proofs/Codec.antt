-- The laws of the card: a good card is read back; what is accepted is the card that would be written, and good; so one kit has one card.
use mathlib.Core.Path.{◌≡◌, refl, ap, sym, ◌∙◌}
use mathlib.Core.Logic.{◌↔◌, ⊎_elim}
use mathlib.Core.Bool.{true, false, false≢true}
use mathlib.Core.List.Memᴰ
use mathlib.Core.List.{List, [], ◌∷◌, Memᴰ}
use Prim.Native.Nat.{ℕ, ◌+◌, ◌≤◌, ◌<◌}
use native.Mathlib.Omega.{arith}
use lib.ListN.{length}
use Rattle.ground.specs.Limits.{two_limit}
use Rattle.kits.specs.Kits.{before, most_units}
use Rattle.kits.proofs.Order.{before_transitive}
use Rattle.sheet.specs.Bytes.{Bytes}
use Rattle.sheet.specs.Reading.{Item, item, fault, is_fault}
use Rattle.sheet.proofs.Written.{Acceptable, no_item, next_item}
use Rattle.card.specs.Card.{NamedLine, NamedKit, named_item, encode_card, number_first, units_said, NumbersRise, GoodCard}
use Rattle.card.specs.Reading.{rises_over, new_line, decode_card, said_card}
use Rattle.card.proofs.Written.{GoodNamed, line_new, new_line_lem, decode_acceptable}
use Rattle.card.proofs.Accepted.{card_again}

------------------------------------------------------------------------
-- Lines that the reader takes are good

abbrev Accepts : List NamedLine → List NamedLine → Type 0
Accepts seen xs = Acceptable new_line named_item seen xs

accepted_good : {seen xs : List NamedLine} → Accepts seen xs → (x : NamedLine) → Memᴰ x xs → GoodNamed x
accepted_good no_item x m = absurd (Memᴰ.not-nil m)
accepted_good (next_item {seen = seen} {x = y} g a) x m =
    ⊎_elim (λ (e : x ≡ y). rw e (new_line_lem seen y g).line) (λ k. accepted_good a x k) (Memᴰ.cases_cons m)

-- each line is above the one before, so above all before
accepted_above : {seen xs : List NamedLine} (z : NamedLine) → Accepts (z ∷ seen) xs → (x : NamedLine) → Memᴰ x xs → number_first z x ≡ true
unfolding rises_over number_first
accepted_above z no_item x m = absurd (Memᴰ.not-nil m)
accepted_above {seen} z (next_item {x = y} g a) x m =
    let b : before z.number y.number ≡ true = (new_line_lem (z ∷ seen) y g).rises in
    ⊎_elim (λ (e : x ≡ y). rw e b)
    (λ k. before_transitive z.number y.number x.number b (accepted_above y a x k)) (Memᴰ.cases_cons m)

accepted_rise : {seen xs : List NamedLine} → Accepts seen xs → NumbersRise xs
accepted_rise no_item = NumbersRise.none
accepted_rise (next_item {x = x} g a) = NumbersRise.ahead (accepted_above x a) (accepted_rise a)

accepted_units : {seen xs : List NamedLine} → Accepts seen xs → units_said seen ≤ most_units → units_said seen + units_said xs ≤ most_units
unfolding units_said
accepted_units no_item h = omega arith
accepted_units (next_item {seen = seen} {x = x} g a) h =
    let room = (new_line_lem seen x g).room in
    omega (arith, accepted_units a (omega arith))

------------------------------------------------------------------------
-- Good lines are taken

good_accepted : (seen xs : List NamedLine) → ((x : NamedLine) → Memᴰ x xs → GoodNamed x) →
    ((x : NamedLine) → Memᴰ x xs → rises_over x.number seen ≡ true) → NumbersRise xs → units_said seen + units_said xs ≤ most_units →
    Accepts seen xs
unfolding units_said rises_over number_first
good_accepted seen [] good over rise few = no_item
good_accepted seen (x ∷ xs) good over (NumbersRise.ahead first rise) few =
    next_item {seen = seen} {xs = xs} {x = x} (line_new seen x (record {
      line = good x (Memᴰ.head refl);
      rises = over x (Memᴰ.head refl);
      room = omega arith;
    }))
    (good_accepted (x ∷ seen) xs (λ y m. good y (Memᴰ.tail m)) first rise (omega arith))

good_acceptable : (c : NamedKit) → GoodCard c → Accepts [] c.lines
unfolding rises_over units_said
good_acceptable c g =
    good_accepted [] c.lines (λ x m. record { number_good = g.numbers x m; some = g.some_units x m; few = g.few_each x m }) (λ x m. refl)
    g.in_order (omega (arith, g.few_units))

------------------------------------------------------------------------
-- Written and read back; read and written again

-- A good card, written, is read back.
pub decode_encode_card : (c : NamedKit) → GoodCard c → decode_card (encode_card c) ≡ item c [] (length (encode_card c))
decode_encode_card c g = decode_acceptable c g.some_tag_lem g.small_tag (good_acceptable c g)

acceptable_good : (c : NamedKit) → 0 < c.tag → c.tag < two_limit → Accepts [] c.lines → GoodCard c
unfolding units_said
acceptable_good c some small a = record {
  some_tag_lem = some;
  small_tag = small;
  numbers = λ x m. (accepted_good a x m).number_good;
  some_units = λ x m. (accepted_good a x m).some;
  few_each = λ x m. (accepted_good a x m).few;
  few_units = let u = accepted_units a (omega arith) in omega arith;
  in_order = accepted_rise a;
}

-- Whatever is read without fault is the card of what it says, which is good, to the end.
pub encode_decode_card : (s : List ℕ) (c : NamedKit) (r : List ℕ) (o : ℕ) → Bytes s → decode_card s ≡ item c r o →
    GoodCard c × (s ≡ encode_card c) × (r ≡ []) × (o ≡ length s)
encode_decode_card s c r o h e =
    let S = card_again s c r o e in
    (acceptable_good c S.some_tag_lem (S.small_tag h) S.passed, S.is h, S.over, S.ends)

-- A card is faultless exactly when it is the bytes of a good card, and then it says that.
pub card_exactly : (s : List ℕ) (c : NamedKit) → Bytes s → (decode_card s ≡ item c [] (length s)) ↔ (GoodCard c × (s ≡ encode_card c))
card_exactly s c h = (
  λ e. let a = encode_decode_card s c [] (length s) h e in (a.0, a.1),
  λ g. let e = g.1 in rw e (decode_encode_card c g.0),
)

------------------------------------------------------------------------
-- What a faultless card says

module _ (s : List ℕ) where
  -- it is read
  said_read : is_fault (decode_card s) ≡ false → (r : List ℕ) × (o : ℕ) × (decode_card s ≡ item (said_card (decode_card s)) r o)
  unfolding is_fault said_card
  said_read e = go (decode_card s) e
    where
      go : (i : Item NamedKit) → is_fault i ≡ false → (r : List ℕ) × (o : ℕ) × (i ≡ item (said_card i) r o)
      go (item c r o) f = (r, o, refl)
      go (fault o) f = absurd (false≢true (sym f))

  pub said_good : Bytes s → is_fault (decode_card s) ≡ false → GoodCard (said_card (decode_card s))
  said_good h e = let x = said_read e in (encode_decode_card s (said_card (decode_card s)) x.0 x.1 h x.2).0

  -- of any numbers, not only of bytes, all but that the tag has room in two bytes: the lines are good with another tag, and the tag is not 0
  pub said_lines_good : is_fault (decode_card s) ≡ false →
      GoodCard (record { tag = 1; lines = (said_card (decode_card s)).lines }) × (0 < (said_card (decode_card s)).tag)
  said_lines_good e =
      let x = said_read e in
      let S = card_again s (said_card (decode_card s)) x.0 x.1 x.2 in
      (acceptable_good (record { tag = 1; lines = (said_card (decode_card s)).lines }) (omega arith) (omega arith) S.passed, S.some_tag_lem)

-- each line has a unit
lines_units : (xs : List NamedLine) → ((x : NamedLine) → Memᴰ x xs → 0 < x.quantity) → length xs ≤ units_said xs
unfolding units_said
lines_units [] some = omega arith
lines_units (x ∷ xs) some = omega (arith, some x (Memᴰ.head refl), lines_units xs (λ y m. some y (Memᴰ.tail m)))

pub good_lines_few : (c : NamedKit) → GoodCard c → length c.lines ≤ most_units
good_lines_few c g = omega (arith, lines_units c.lines g.some_units, g.few_units)

pub lines_few : (s : List ℕ) → is_fault (decode_card s) ≡ false → length (said_card (decode_card s)).lines ≤ most_units
lines_few s e = good_lines_few (record { tag = 1; lines = (said_card (decode_card s)).lines }) (said_lines_good s e).0

-- "so that one kit has one card": no second card means the same.
pub one_card : (s z : List ℕ) → Bytes s → Bytes z → is_fault (decode_card s) ≡ false → is_fault (decode_card z) ≡ false →
    said_card (decode_card s) ≡ said_card (decode_card z) → s ≡ z
one_card s z h k e f same =
    let x = said_read s e in
    let y = said_read z f in
    let a = (encode_decode_card s (said_card (decode_card s)) x.0 x.1 h x.2).1 in
    let b = (encode_decode_card z (said_card (decode_card z)) y.0 y.1 k y.2).1 in
    a ∙ ap encode_card same ∙ sym b
