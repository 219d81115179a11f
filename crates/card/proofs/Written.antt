-- What is written on a card is read back.
use mathlib.Core.Path.{◌≡◌, refl, ap}
use mathlib.Core.Bool.{true, false}
use mathlib.Core.List.{List, [], ◌∷◌, ◌++◌, append-nil}
use Prim.Native.Nat.{ℕ, ◌+◌, ◌≤◌, ◌<◌}
use native.Mathlib.Omega.{arith}
use lib.ListN.{length, take, get_or, length-append}
use lib.Dec.{leb}
use lib.Seq.{take-append_seam, get_or_at}
use borrow.Author.Tests.{eqb-false, ne_eqb, le-leb, leb-true, not-true}
use Rattle.ground.specs.Limits.{two_limit}
use Rattle.ground.specs.Lists.{every, eq_list, is_zero}
use Rattle.ground.proofs.Laws.{every_at}
use Rattle.kits.specs.Kits.{most_quantity, most_units}
use Rattle.register.specs.Number.{good_number}
use Rattle.register.specs.Register.{number_in}
use Rattle.sheet.specs.Bytes.{in_bytes, value_from, from_bytes, two, two_bytes}
use Rattle.sheet.specs.Sheet.{mark_bytes, number_item}
use Rattle.sheet.specs.Reading.{item, onward, one, bytes, number_size}
use Rattle.sheet.proofs.Numbers.{two_back}
use Rattle.sheet.proofs.Written.{one_good, ReadsAll, Acceptable, all_read, mark_read, two_read}
use Rattle.card.specs.Card.{NamedLine, NamedKit, card_mark, card_version, named_item, named_items, encode_card, units_said}
use Rattle.card.specs.Reading.{is_card_version, tag_given, count_bytes, any_count, named_size, named_in, rises_over, new_line, lines_said}
use Rattle.card.specs.Reading.{the_end, decode_card}

------------------------------------------------------------------------
-- A line

-- a good number, and a quantity "1 to 15"
pub record GoodNamed (x : NamedLine) : Type 0 where
  pub number_good : good_number x.number ≡ true
  pub some : 0 < x.quantity
  pub few : x.quantity ≤ most_quantity

-- no rule is against it behind those seen
pub record Passes (seen : List NamedLine) (x : NamedLine) : Type 0 where
  pub line : GoodNamed x
  pub rises : rises_over x.number seen ≡ true
  pub room : units_said seen + x.quantity ≤ most_units

module _ (x : NamedLine) where
  pub named_length : length (named_item x) ≡ length x.number + 2
  unfolding named_item number_item
  named_length = omega (arith, length-append x.number (x.quantity ∷ []))

  named_sized : (rest : List ℕ) → named_size (named_item x ++ rest) ≡ length (named_item x)
  unfolding named_size number_size named_item number_item
  named_sized rest = omega (arith, length-append x.number (x.quantity ∷ []))

  named_back : named_in (named_item x) ≡ x
  unfolding named_in number_in number_size named_item number_item
  named_back =
      let n = x.number in
      let q = x.quantity in
      let t : take (length n) (n ++ (q ∷ [])) ≡ n = take-append_seam n (q ∷ []) in
      let g : get_or (number_item n ++ (q ∷ [])) (1 + length n) 0 ≡ q = get_or_at (number_item n) q [] 0 (1 + length n) (omega arith) in
      rw (t, g)

-- what the reader's test says of a line
pub line_passes_lem : (seen : List NamedLine) (b : List ℕ) → new_line seen b ≡ true → Passes seen (named_in b)
unfolding new_line
line_passes_lem seen b h = record {
  line = record {
    number_good = every_at _ 0 h;
    some = let z = eqb-false (named_in b).quantity 0 (not-true _ (every_at _ 2 h)) in omega arith;
    few = leb-true (named_in b).quantity most_quantity (every_at _ 3 h);
  };
  rises = every_at _ 1 h;
  room = leb-true (units_said seen + (named_in b).quantity) most_units (every_at _ 4 h);
}

pub new_line_lem : (seen : List NamedLine) (x : NamedLine) → new_line seen (named_item x) ≡ true → Passes seen x
new_line_lem seen x h = rw (named_back x) at (line_passes_lem seen (named_item x) h)

-- and the other way round
pub line_new : (seen : List NamedLine) (x : NamedLine) → Passes seen x → new_line seen (named_item x) ≡ true
unfolding new_line every
line_new seen x p =
    let g = p.line.number_good in
    let r = p.rises in
    let z : is_zero x.quantity ≡ false = ne_eqb x.quantity 0 (λ e. omega (arith, p.line.some)) in
    let f : leb x.quantity most_quantity ≡ true = le-leb x.quantity most_quantity p.line.few in
    let u : leb (units_said seen + x.quantity) most_units ≡ true = le-leb (units_said seen + x.quantity) most_units p.room in
    rw (named_back x, g, r, z, f, u)

------------------------------------------------------------------------
-- The lines

pub lines_all : ReadsAll named_size new_line named_in lines_said
unfolding lines_said
lines_all = record { ends = λ seen bs o. refl; goes = λ n seen bs o. refl }

lines_read : (xs : List NamedLine) → Acceptable new_line named_item [] xs → (o : ℕ) →
    lines_said (length xs) [] (named_items xs) o ≡ item xs [] (o + length (named_items xs))
unfolding named_items
lines_read xs a o = rw append-nil at (all_read lines_all named_sized named_back a [] o)

------------------------------------------------------------------------
-- The card

version_good : is_card_version (two card_version) ≡ true
unfolding is_card_version in_bytes value_from
version_good = refl

tag_good : (t : ℕ) → 0 < t → t < two_limit → tag_given (two t) ≡ true
unfolding tag_given
tag_good t h k =
    let e : is_zero (from_bytes (two t)) ≡ false = ne_eqb (from_bytes (two t)) 0 (λ e. omega (arith, two_back t k)) in
    rw e

count_read : (n : ℕ) (rest : List ℕ) (o : ℕ) → one (bytes count_bytes) any_count (n ∷ rest) o ≡ item (n ∷ []) rest (o + 1)
unfolding bytes any_count
count_read n rest o = one_good (bytes count_bytes) any_count (n ∷ []) rest o refl refl

pub count_back : (n : ℕ) → from_bytes (n ∷ []) ≡ n
unfolding value_from
count_back n = omega arith

card_length : (v t n : ℕ) (L : List ℕ) → 8 + length L ≡ length (card_mark ++ (two v ++ (two t ++ (n ∷ L))))
unfolding in_bytes
card_length v t n L = omega arith

-- a card that the reader takes
pub decode_acceptable : (c : NamedKit) → 0 < c.tag → c.tag < two_limit → Acceptable new_line named_item [] c.lines →
    decode_card (encode_card c) ≡ item c [] (length (encode_card c))
unfolding decode_card encode_card onward the_end
decode_acceptable c some small a =
    let t = c.tag in
    let n = length c.lines in
    let L : List ℕ = named_items c.lines in
    let r3 : List ℕ = n ∷ L in
    let r2 : List ℕ = two t ++ r3 in
    let r1 : List ℕ = two card_version ++ r2 in
    let e1 : one (bytes mark_bytes) (eq_list card_mark) (card_mark ++ r1) 0 ≡ item card_mark r1 3 = mark_read card_mark r1 refl in
    let e2 : one (bytes two_bytes) is_card_version (two card_version ++ r2) 3 ≡ item (two card_version) r2 5 = two_read is_card_version
    card_version r2 3 version_good in
    let e3 : one (bytes two_bytes) tag_given (two t ++ r3) 5 ≡ item (two t) r3 7 = two_read tag_given t r3 5 (tag_good t some small) in
    let b3 : from_bytes (two t) ≡ t = two_back t small in
    let e4 : one (bytes count_bytes) any_count (n ∷ L) 7 ≡ item (n ∷ []) L 8 = count_read n L 7 in
    let b4 : from_bytes (n ∷ []) ≡ n = count_back n in
    let e5 : lines_said n [] L 8 ≡ item c.lines [] (8 + length L) = lines_read c.lines a 8 in
    rw (e1, e2, e3, e4, b4, e5, b3) (ap (item c []) (card_length card_version t n L))
