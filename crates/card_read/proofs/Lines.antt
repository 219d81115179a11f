-- The lines of a faultless card stand one behind the other, from the end of its head on.
use mathlib.Core.Path.{◌≡◌, refl, ap, sym, ◌∙◌}
use mathlib.Core.Bool.{Bool, true, false, cond}
use mathlib.Core.List.{List, [], ◌∷◌}
use Prim.Native.Nat.{ℕ, zero, suc, ◌+◌, ◌≤◌, ◌<◌}
use native.Mathlib.Omega.{arith}
use lib.ListN.{length, take, drop, length-append, length-drop}
use lib.Seq.{take_at, drop_at, drop-drop}
use Rattle.ground.specs.Lists.{eq_list, is_zero}
use Rattle.repeats.specs.Inner.{next_place}
use Rattle.sheet.specs.Bytes.{from_bytes, two_bytes}
use Rattle.sheet.specs.Sheet.{mark_bytes}
use Rattle.sheet.specs.Reading.{Item, item, fault, one, bytes, is_fault}
use Rattle.sheet.proofs.Accepted.{Taken, one_back, onward_back}
use Rattle.card.specs.Card.{NamedLine, NamedKit, card_mark}
use Rattle.card.specs.Inner.{card_head}
use Rattle.card.specs.Reading.{is_card_version, tag_given, count_bytes, any_count, named_size, named_in, new_line, lines_said, the_end, decode_card, said_card}
use Rattle.card_judge.specs.Inner.{line_here}
use Rattle.card_judge.proofs.Lines.{line_size, line_here_lem}

-- the lines xs stand from a place on
pub data LinesAt (s : List ℕ) : ℕ → List NamedLine → Type 0 where
  none : {at : ℕ} → LinesAt s at []
  line : {at : ℕ} {xs : List NamedLine} → next_place s at < length s → LinesAt s (next_place s at + 1) xs → LinesAt s at (line_here s at ∷ xs)

-- an item that was read: its bytes, and those behind it
module _ {size : List ℕ → ℕ} {good : List ℕ → Bool} {bs b rest : List ℕ} {o p : ℕ} (t : Taken size good bs b rest o p) where
  taken_is : b ≡ take (size bs) bs
  taken_is = sym (ap (take (size bs)) t.splits ∙ take_at b rest (size bs) t.long)

  taken_rest : rest ≡ drop (size bs) bs
  taken_rest = sym (ap (drop (size bs)) t.splits ∙ drop_at b rest (size bs) t.long)

  taken_inside : size bs ≤ length bs
  taken_inside = omega (arith, t.long, ap length t.splits, length-append b rest)

-- a line that was read is the one that stands there
lines_step : (s : List ℕ) (at : ℕ) (seen : List NamedLine) (bs b rest : List ℕ) (o p : ℕ) (ys xs : List NamedLine) → bs ≡ drop at s →
    Taken named_size (new_line seen) bs b rest o p → named_in b ∷ ys ≡ xs →
    ((next : ℕ) → rest ≡ drop next s → LinesAt s next ys) → LinesAt s at xs
lines_step s at seen bs b rest o p ys xs d t i f =
    let u : Taken named_size (new_line seen) (drop at s) b rest o p = rw d at t in
    let n = line_size s at in
    let x : named_in b ≡ line_here s at = ap named_in (taken_is u) ∙ line_here_lem s at in
    let next : at + named_size (drop at s) ≡ next_place s at + 1 = omega arith in
    let r : rest ≡ drop (next_place s at + 1) s = taken_rest u ∙ rw (drop-drop (named_size (drop at s)) at s, next) in
    let whole : next_place s at < length s = omega (arith, taken_inside u, length-drop at s) in
    rw (← i, x) (line whole (f (next_place s at + 1) r))

lines_at : (s : List ℕ) (n : ℕ) (seen : List NamedLine) (bs : List ℕ) (o : ℕ) (xs : List NamedLine) (last : List ℕ) (p : ℕ) →
    lines_said n seen bs o ≡ item xs last p → (at : ℕ) → bs ≡ drop at s → LinesAt s at xs
unfolding lines_said
lines_at s zero seen bs o xs last p e at d = let a : [] ≡ xs = cc in rw (sym a) none
lines_at s (suc n) seen bs o xs last p e at d =
    let x = onward_back (one named_size (new_line seen) bs o) _ xs last p e in
    let b = x.first in
    let t = one_back named_size (new_line seen) bs o b x.behind x.at x.read in
    let y = onward_back (lines_said n (named_in b ∷ seen) x.behind x.at) _ xs last p x.goes in
    let g = y.goes in
    let i : named_in b ∷ y.first ≡ xs = cc in
    lines_step s at seen bs b x.behind o x.at y.first xs d t i
    (lines_at s n (named_in b ∷ seen) x.behind x.at y.first y.behind y.at y.read)

-- behind the lines stands nothing else
end_says : (k c : NamedKit) (bs rest : List ℕ) (o p : ℕ) → the_end k bs o ≡ item c rest p → k ≡ c
unfolding the_end
end_says k c bs rest o p e = go (is_zero (length bs)) e
  where
    go : (b : Bool) → cond b (item k bs o) (fault o) ≡ item c rest p → k ≡ c
    go true f = cc
    go false f = absurd (let z : ◌≡◌ {A = ℕ} 0 1 = cc in omega arith)

card_lines : (s : List ℕ) (c : NamedKit) (rest : List ℕ) (o : ℕ) → decode_card s ≡ item c rest o → LinesAt s card_head c.lines
unfolding decode_card bytes
card_lines s c rest o e =
    let x1 = onward_back (one (bytes mark_bytes) (eq_list card_mark) s 0) _ c rest o e in
    let x2 = onward_back (one (bytes two_bytes) is_card_version x1.behind x1.at) _ c rest o x1.goes in
    let x3 = onward_back (one (bytes two_bytes) tag_given x2.behind x2.at) _ c rest o x2.goes in
    let x4 = onward_back (one (bytes count_bytes) any_count x3.behind x3.at) _ c rest o x3.goes in
    let x5 = onward_back (lines_said (from_bytes x4.first) [] x4.behind x4.at) _ c rest o x4.goes in
    let t1 = one_back (bytes mark_bytes) (eq_list card_mark) s 0 x1.first x1.behind x1.at x1.read in
    let t2 = one_back (bytes two_bytes) is_card_version x1.behind x1.at x2.first x2.behind x2.at x2.read in
    let t3 = one_back (bytes two_bytes) tag_given x2.behind x2.at x3.first x3.behind x3.at x3.read in
    let t4 = one_back (bytes count_bytes) any_count x3.behind x3.at x4.first x4.behind x4.at x4.read in
    let said : NamedKit = record { tag = from_bytes x3.first; lines = x5.first } in
    let k : said.lines ≡ c.lines = ap (λ (z : NamedKit). z.lines) (end_says said c x5.behind rest x5.at o x5.goes) in
    lines_same k (lines_at s (from_bytes x4.first) [] x4.behind x4.at x5.first x5.behind x5.at x5.read card_head
    (behind_head_lem s x1.behind x2.behind x3.behind x4.behind (taken_rest t1) (taken_rest t2) (taken_rest t3) (taken_rest t4)))
  where
    lines_same : {at : ℕ} {xs ys : List NamedLine} → xs ≡ ys → LinesAt s at xs → LinesAt s at ys
    lines_same e l = rw (← e) l

    behind_head_lem : (s r1 r2 r3 r4 : List ℕ) → r1 ≡ drop mark_bytes s → r2 ≡ drop two_bytes r1 → r3 ≡ drop two_bytes r2 → r4 ≡ drop count_bytes r3 →
        r4 ≡ drop card_head s
    behind_head_lem s r1 r2 r3 r4 a b c d = d ∙ rw (c, b, a, drop-drop two_bytes mark_bytes s, drop-drop two_bytes 5 s, drop-drop count_bytes 7 s)

pub said_lines_at : (s : List ℕ) → is_fault (decode_card s) ≡ false → LinesAt s card_head (said_card (decode_card s)).lines
unfolding is_fault said_card
said_lines_at s e = go (decode_card s) refl e
  where
    go : (i : Item NamedKit) → decode_card s ≡ i → is_fault i ≡ false → LinesAt s card_head (said_card i).lines
    go (item c rest o) f g = card_lines s c rest o f
    go (fault o) f g = absurd (let z : ◌≡◌ {A = ℕ} 0 1 = cc in omega arith)
