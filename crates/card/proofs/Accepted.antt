-- Whatever is read without fault is the card that would be written: no second card means the same.
use mathlib.Core.Path.{◌≡◌, refl, ap, sym, ◌∙◌}
use mathlib.Core.Bool.{Bool, true, false, cond}
use mathlib.Core.List.{List, [], ◌∷◌, ◌++◌, append-nil}
use Prim.Native.Nat.{ℕ, suc, ◌+◌, ◌<◌}
use native.Mathlib.Omega.{arith}
use lib.ListN.{length, take, get_or}
use lib.Seq.{length-take-le, take-suc, take_all}
use borrow.Author.Tests.{eqb-true, eqb-false, not-true}
use Rattle.ground.specs.Limits.{two_limit}
use Rattle.ground.specs.Lists.{eq_list}
use Rattle.ground.proofs.Laws.{eq_list_true, empty_list}
use Rattle.register.specs.Register.{number_in}
use Rattle.sheet.specs.Bytes.{from_bytes, two, two_bytes, Bytes}
use Rattle.sheet.specs.Sheet.{mark_bytes, number_item}
use Rattle.sheet.specs.Reading.{item, fault, one, bytes, number_size}
use Rattle.sheet.proofs.Numbers.{from_less}
use Rattle.sheet.proofs.Written.{Acceptable}
use Rattle.sheet.proofs.Accepted.{Taken, one_back, taken_ends, item_bytes, rest_bytes, two_again, onward_back, Several, several_back}
use Rattle.card.specs.Card.{NamedLine, NamedKit, card_mark, card_version, named_item, named_items, encode_card}
use Rattle.card.specs.Reading.{is_card_version, tag_given, count_bytes, any_count, named_size, named_in, new_line, lines_said}
use Rattle.card.specs.Reading.{the_end, decode_card}
use Rattle.card.proofs.Written.{lines_all, count_back}

------------------------------------------------------------------------
-- A line

-- a length, so many bytes, and one more
named_again : (k : ℕ) (l : List ℕ) → length l ≡ suc k → named_item (named_in (k ∷ l)) ≡ k ∷ l
unfolding named_item number_item named_in number_in number_size
named_again k l h =
    let a : 1 + k ≡ suc k = omega arith in
    let n : length (take k l) ≡ k = length-take-le k l (omega arith) in
    let e : take k l ++ (get_or l k 0 ∷ []) ≡ l = sym (take-suc l k 0 (omega arith)) ∙ take_all (suc k) l (omega arith) in
    rw (a, n, e)

pub line_again : (seen : List NamedLine) (bs b rest : List ℕ) (o p : ℕ) → Taken named_size (new_line seen) bs b rest o p →
    named_item (named_in b) ≡ b
unfolding named_size number_size
line_again seen bs b rest o p t = go b t.splits t.long
  where
    go : (b : List ℕ) → bs ≡ b ++ rest → length b ≡ 1 + get_or bs 0 0 + 1 → named_item (named_in b) ≡ b
    go [] s e = absurd (omega arith)
    go (k ∷ l) s e =
        let f : length (k ∷ l) ≡ 1 + k + 1 = rw s at e in
        named_again k l (omega arith)

------------------------------------------------------------------------
-- The card

-- a card that was read: its tag and its lines, and that no rule is against them
pub record Said (s : List ℕ) (c : NamedKit) (rest : List ℕ) (o : ℕ) : Type 0 where
  pub some_tag_lem : 0 < c.tag
  pub passed : Acceptable new_line named_item [] c.lines
  pub over : rest ≡ []
  pub ends : o ≡ length s
  pub is : Bytes s → s ≡ encode_card c
  pub small_tag : Bytes s → c.tag < two_limit

abbrev kit : ℕ → List NamedLine → NamedKit
kit t xs = record { tag = t; lines = xs }

-- a choice that came out as an item
chosen : (x : Bool) (c z : NamedKit) (bs rest : List ℕ) (o p : ℕ) → cond x (item c bs o) (fault o) ≡ item z rest p →
    (x ≡ true) × (c ≡ z) × (bs ≡ rest) × (o ≡ p)
chosen true c z bs rest o p e = (refl, cc, cc, cc)
chosen false c z bs rest o p e = absurd (let y : ◌≡◌ {A = ℕ} 0 1 = cc in omega arith)

-- "the end"
record Ended (c z : NamedKit) (bs rest : List ℕ) (o p : ℕ) : Type 0 where
  over : bs ≡ []
  is : c ≡ z
  left : bs ≡ rest
  at : o ≡ p

end_back : (c z : NamedKit) (bs rest : List ℕ) (o p : ℕ) → the_end c bs o ≡ item z rest p → Ended c z bs rest o p
unfolding the_end
end_back c z bs rest o p e =
    let k = chosen _ c z bs rest o p e in
    record { over = empty_list bs (eqb-true (length bs) 0 k.0); is = k.1; left = k.2; at = k.3 }

one_byte : (b : List ℕ) → length b ≡ 1 → from_bytes b ∷ [] ≡ b
one_byte [] e = absurd (omega arith)
one_byte (x ∷ []) e = ap (λ (k : ℕ). k ∷ []) (count_back x)
one_byte (x ∷ y ∷ b) e = absurd (omega arith)

module _ (s m r1 v r2 t r3 n r4 r5 : List ℕ) (xs : List NamedLine) (o1 o2 o3 o4 o5 : ℕ)
    (t1 : Taken (bytes mark_bytes) (eq_list card_mark) s m r1 0 o1) (t2 : Taken (bytes two_bytes) is_card_version r1 v r2 o1 o2)
    (t3 : Taken (bytes two_bytes) tag_given r2 t r3 o2 o3) (t4 : Taken (bytes count_bytes) any_count r3 n r4 o3 o4)
    (t5 : Several new_line named_item (from_bytes n) [] r4 o4 xs r5 o5) (over : r5 ≡ []) where
  tag_is_some : 0 < from_bytes t
  unfolding tag_given
  tag_is_some = let z = eqb-false (from_bytes t) 0 (not-true _ t3.is_good) in omega arith

  is_version_lem : Bytes r1 → v ≡ two card_version
  unfolding is_card_version
  is_version_lem h = sym (two_again t2 h) ∙ ap two (eqb-true (from_bytes v) card_version t2.is_good)

  is_count : n ≡ length xs ∷ []
  unfolding bytes
  is_count = sym (one_byte n t4.long) ∙ ap (λ (k : ℕ). k ∷ []) (sym t5.counted)

  card_is : Bytes s → s ≡ encode_card (kit (from_bytes t) xs)
  unfolding encode_card named_items
  card_is h =
      let b1 : Bytes r1 = rest_bytes t1 h in
      let a : card_mark ≡ m = eq_list_true card_mark m t1.is_good in
      let e1 = t1.splits in
      let e2 = t2.splits in
      let e3 = t3.splits in
      let e4 = t4.splits in
      let e5 : r4 ≡ named_items xs = t5.splits ∙ rw over (append-nil (named_items xs)) in
      let g : t ≡ two (from_bytes t) = sym (two_again t3 (rest_bytes t2 b1)) in
      e1 ∙ rw (← a, e2, is_version_lem b1, e3, e4, is_count, e5, ← g) refl

  card_said : Said s (kit (from_bytes t) xs) r5 o5
  unfolding bytes
  card_said = record {
    some_tag_lem = tag_is_some;
    passed = t5.passed;
    over = over;
    ends = omega (arith, ap length over, t5.ends, taken_ends t4, taken_ends t3, taken_ends t2, taken_ends t1);
    is = card_is;
    small_tag = λ h. from_less 2 t t3.long (item_bytes t3 (rest_bytes t2 (rest_bytes t1 h)));
  }

said_as : {s : List ℕ} (c z : NamedKit) (bs rest : List ℕ) (o p : ℕ) → Ended c z bs rest o p → Said s c bs o → Said s z rest p
said_as c z bs rest o p E S =
    let e = E.is in
    let f = E.left in
    let g = E.at in
    rw (← e, ← f, ← g) S

pub card_again : (s : List ℕ) (c : NamedKit) (rest : List ℕ) (o : ℕ) → decode_card s ≡ item c rest o → Said s c rest o
unfolding decode_card
card_again s c rest o e =
    let x1 = onward_back (one (bytes mark_bytes) (eq_list card_mark) s 0) _ c rest o e in
    let x2 = onward_back (one (bytes two_bytes) is_card_version x1.behind x1.at) _ c rest o x1.goes in
    let x3 = onward_back (one (bytes two_bytes) tag_given x2.behind x2.at) _ c rest o x2.goes in
    let x4 = onward_back (one (bytes count_bytes) any_count x3.behind x3.at) _ c rest o x3.goes in
    let x5 = onward_back (lines_said (from_bytes x4.first) [] x4.behind x4.at) _ c rest o x4.goes in
    let k = kit (from_bytes x3.first) x5.first in
    let E = end_back k c x5.behind rest x5.at o x5.goes in
    said_as k c x5.behind rest x5.at o E
    (card_said s x1.first x1.behind x2.first x2.behind x3.first x3.behind x4.first x4.behind x5.behind
    x5.first x1.at x2.at x3.at x4.at x5.at
    (one_back (bytes mark_bytes) (eq_list card_mark) s 0 x1.first x1.behind x1.at x1.read)
    (one_back (bytes two_bytes) is_card_version x1.behind x1.at x2.first x2.behind x2.at x2.read)
    (one_back (bytes two_bytes) tag_given x2.behind x2.at x3.first x3.behind x3.at x3.read)
    (one_back (bytes count_bytes) any_count x3.behind x3.at x4.first x4.behind x4.at x4.read)
    (several_back lines_all line_again (from_bytes x4.first) [] x4.behind x4.at x5.first x5.behind x5.at
    x5.read) E.over)
