-- Laws of printing: decimal numbers, and a reply set down piece by piece.
use mathlib.Core.Path.{◌≡◌, refl, ap, ◌∙◌}
use mathlib.Core.Bool.{Bool, true, false, cond}
use mathlib.Core.Logic.{◌⊎◌, inl, inr}
use mathlib.Core.List.{List, [], ◌∷◌, ◌++◌}
use Prim.Native.Nat.{ℕ, zero, suc, ◌+◌, ◌*◌, ◌/◌, ◌%◌, ◌≤◌, ◌<◌}
use native.Mathlib.Numerals.{add-one}
use native.Mathlib.Omega.{arith}
use lib.ListN.{length, get_or, drop, drop_of_length-le, length-append}
use lib.Seq.{drop-cons}
use lib.Dec.{ltb}
use borrow.Author.Tests.{lt-ltb, le-ltb, ltb-false}
use Rattle.ground.specs.Laid.{Put}
use Rattle.ground.proofs.Laws.{below_or}
use Rattle.ground.proofs.Put.{Rest, rest_start, rest_put, rest_last, rest_byte}
use Rattle.desk_text.specs.Amounts.{zero_digit}
use Rattle.desk_text.specs.Lines.{space, line_feed}
use Rattle.desk_replies.specs.Replies.{digits, decimal, hex_digit, hex_of, tags_text, reply_head, reply_line, ReplyStands}
use Rattle.desk_replies.specs.Inner.{head_room, tag_room}

-- room for as many digits as a number has units is room enough
digits_enough : (k m n : ℕ) → n < k → n < m → digits k n ≡ digits m n
unfolding digits
digits_enough zero m n h g = absurd (omega arith)
digits_enough (suc k) zero n h g = absurd (omega arith)
digits_enough (suc k) (suc m) n h g = go (ltb n 10) refl (digits_enough k m (n / 10))
  where
    go : (t : Bool) → ltb n 10 ≡ t → (n / 10 < k → n / 10 < m → digits k (n / 10) ≡ digits m (n / 10))
        → cond t ((zero_digit + n) ∷ []) (digits k (n / 10) ++ ((zero_digit + n % 10) ∷ [])) ≡ cond t ((zero_digit + n) ∷ [])
        (digits m (n / 10) ++ ((zero_digit + n % 10) ∷ []))
    go true e f = refl
    go false e f = let l = ltb-false n 10 e in ap (λ d. d ++ ((zero_digit + n % 10) ∷ [])) (f (omega arith) (omega arith))

pub decimal_one : (n : ℕ) → n < 10 → decimal n ≡ (zero_digit + n) ∷ []
unfolding decimal digits
decimal_one n h = rw (lt-ltb n 10 h)

pub decimal_more : (n : ℕ) → 10 ≤ n → decimal n ≡ decimal (n / 10) ++ ((zero_digit + n % 10) ∷ [])
unfolding decimal digits
decimal_more n h =
    rw (le-ltb n 10 h) (ap (λ d. d ++ ((zero_digit + n % 10) ∷ [])) (digits_enough n (suc (n / 10)) (n / 10) (omega arith) (omega arith)))

pub decimal_length : (n : ℕ) → 10 ≤ n → length (decimal n) ≡ length (decimal (n / 10)) + 1
decimal_length n h = ap length (decimal_more n h) ∙ length-append (decimal (n / 10)) ((zero_digit + n % 10) ∷ [])

-- tags and bytes walked by position
module _ (l : List ℕ) (i : ℕ) where
  pub tags_step : i < length l → tags_text (drop i l) ≡ (space ∷ decimal (get_or l i 0)) ++ tags_text (drop (i + 1) l)
  unfolding tags_text
  tags_step h = rw (add-one, drop-cons l i 0 h)

  pub tags_end : length l ≤ i → tags_text (drop i l) ≡ []
  unfolding tags_text
  tags_end h = rw (drop_of_length-le l h)

  pub hex_step : i < length l → hex_of (drop i l) ≡ hex_digit (get_or l i 0 / 16) ∷ hex_digit (get_or l i 0 % 16) ∷ hex_of (drop (i + 1) l)
  unfolding hex_of
  hex_step h = rw (add-one, drop-cons l i 0 h)

  pub hex_end : length l ≤ i → hex_of (drop i l) ≡ []
  unfolding hex_of
  hex_end h = rw (drop_of_length-le l h)

-- the head of a reply, piece by piece
module _ (o : List ℕ) (letter n v : ℕ) (h : length (reply_head letter n v) ≤ length o) where
  pub head_start : Rest o 0 (reply_head letter n v) o 0 (letter ∷ space ∷ (decimal n ++ (space ∷ decimal v)))
  unfolding reply_head
  head_start = rest_start o 0 (reply_head letter n v) (omega arith)

  module _ {r : ℕ} {m : List ℕ} (p : Put o 0 (letter ∷ []) r m) where
    pub head_letter : Rest o 0 (reply_head letter n v) m r (space ∷ (decimal n ++ (space ∷ decimal v)))
    head_letter = rest_byte head_start refl refl p

    module _ {r2 : ℕ} {m2 : List ℕ} (p2 : Put m r (space ∷ []) r2 m2) where
      pub head_space : Rest o 0 (reply_head letter n v) m2 r2 (decimal n ++ (space ∷ decimal v))
      head_space = rest_byte head_letter refl refl p2

      module _ {r3 : ℕ} {m3 : List ℕ} (p3 : Put m2 r2 (decimal n) r3 m3) where
        pub head_number : Rest o 0 (reply_head letter n v) m3 r3 (space ∷ decimal v)
        head_number = rest_put head_space refl p3

        module _ {r4 : ℕ} {m4 : List ℕ} (p4 : Put m3 r3 (space ∷ []) r4 m4) where
          pub head_gap : Rest o 0 (reply_head letter n v) m4 r4 (decimal v)
          head_gap = rest_byte head_number refl refl p4

          pub head_value : {r5 : ℕ} {m5 : List ℕ} → Put m4 r4 (decimal v) r5 m5 → Put o 0 (reply_head letter n v) r5 m5
          head_value p5 = rest_last head_gap refl p5

-- how many digits a number has at most
decimal_grow : (b k : ℕ) → ((m : ℕ) → m < b → length (decimal m) ≤ k) → (n : ℕ) → n < b * 10 → length (decimal n) ≤ k + 1
decimal_grow b k f n h = go (below_or n 10)
  where
    go : (n < 10) ⊎ (10 ≤ n) → length (decimal n) ≤ k + 1
    go (inl g) = let e = ap length (decimal_one n g) in omega arith
    go (inr g) = let e = decimal_length n g in let l = f (n / 10) (omega arith) in omega arith

decimal_1 : (n : ℕ) → n < 10 → length (decimal n) ≤ 1
decimal_1 n h = let e = ap length (decimal_one n h) in omega arith

decimal_5 : (n : ℕ) → n < 100000 → length (decimal n) ≤ 5
decimal_5 = decimal_grow 10000 4 (decimal_grow 1000 3 (decimal_grow 100 2 (decimal_grow 10 1 decimal_1)))

decimal_10 : (n : ℕ) → n < 10000000000 → length (decimal n) ≤ 10
decimal_10 =
    decimal_grow 1000000000 9
    (decimal_grow 100000000 8 (decimal_grow 10000000 7 (decimal_grow 1000000 6 (decimal_grow 100000 5 decimal_5))))

decimal_15 : (n : ℕ) → n < 1000000000000000 → length (decimal n) ≤ 15
decimal_15 =
    decimal_grow 100000000000000 14
    (decimal_grow 10000000000000 13 (decimal_grow 1000000000000 12 (decimal_grow 100000000000 11 (decimal_grow 10000000000 10 decimal_10))))

pub decimal_20 : (n : ℕ) → n < 100000000000000000000 → length (decimal n) ≤ 20
decimal_20 =
    decimal_grow 10000000000000000000 19
    (decimal_grow 1000000000000000000 18
    (decimal_grow 100000000000000000 17 (decimal_grow 10000000000000000 16 (decimal_grow 1000000000000000 15 decimal_15))))

pub head_short : (letter n v : ℕ) → n < 100000000000000000000 → v < 100000000000000000000 → length (reply_head letter n v) ≤ head_room
unfolding reply_head
head_short letter n v h g =
    let e = length-append (decimal n) (space ∷ decimal v) in
    omega (arith, decimal_20 n h, decimal_20 v g)

pub tags_short : (l : List ℕ) → ((i : ℕ) → get_or l i 0 < 65536) → length (tags_text l) ≤ tag_room * length l
unfolding tags_text
tags_short [] f = omega arith
tags_short (t ∷ ts) f =
    let r = tags_short ts (λ i. f (suc i)) in
    let e = length-append (decimal t) (tags_text ts) in
    let z = f 0 in
    omega (arith, decimal_5 t (omega arith))

pub hex_length : (l : List ℕ) → length (hex_of l) ≡ 2 * length l
unfolding hex_of
hex_length [] = refl
hex_length (b ∷ bs) = let r = hex_length bs in omega arith

-- a whole reply: what is left behind its head, and its length
module _ (letter n v : ℕ) (rest : List ℕ) where
  pub line_length : length (reply_line letter n v rest) ≡ length (reply_head letter n v) + (length rest + 1)
  unfolding reply_line
  line_length = simp length-append (omega arith)

  pub behind_head_lem : {o m : List ℕ} {r : ℕ} → length (reply_line letter n v rest) ≤ length o → Put o 0 (reply_head letter n v) r m →
      Rest o 0 (reply_line letter n v rest) m r (rest ++ (line_feed ∷ []))
  unfolding reply_line
  behind_head_lem {o} h p = rest_put (rest_start o 0 (reply_line letter n v rest) (omega arith)) refl p

-- with its last piece the reply stands whole
pub reply_last : {o all m rest bs new : List ℕ} {at r : ℕ} → Rest o 0 all m at rest → rest ≡ bs → Put m at bs r new → ReplyStands o all r new
reply_last t e p = record { put = rest_last t e p; whole = omega (arith, t.room, t.size, p.behind, ap length e) }

pub reply_same : {o m bs cs : List ℕ} {r : ℕ} → ReplyStands o bs r m → bs ≡ cs → ReplyStands o cs r m
reply_same p e = rw (← e) p

-- the rooms that are asked for hold the whole reply
module _ (letter : ℕ) (o : List ℕ) where
  pub reply_room : (n v : ℕ) → n < 100000000000000000000 → v < 100000000000000000000 → head_room + 1 ≤ length o →
      length (reply_line letter n v []) ≤ length o
  reply_room n v h g f = omega (arith, line_length letter n v [], head_short letter n v h g)

  pub listing_room : (ts : List ℕ) → ((i : ℕ) → get_or ts i 0 < 65536) → length ts < 100000000000000000000 →
      head_room + tag_room * length ts + 1 ≤ length o → length (reply_line letter 0 (length ts) (tags_text ts)) ≤ length o
  listing_room ts w h f =
      omega (arith, line_length letter 0 (length ts) (tags_text ts), head_short letter 0 (length ts) (omega arith) h, tags_short ts w)

  pub sheet_room : (s : List ℕ) → length s < 100000000000000000000 → head_room + 1 + 2 * length s + 1 ≤ length o →
      length (reply_line letter 0 (length s) (space ∷ hex_of s)) ≤ length o
  sheet_room s h f =
      omega (arith, line_length letter 0 (length s) (space ∷ hex_of s), head_short letter 0 (length s) (omega arith) h, hex_length s)

pub head_fits : (letter n v : ℕ) (rest o : List ℕ) → length (reply_line letter n v rest) ≤ length o →
    length (reply_head letter n v) ≤ length o
head_fits letter n v rest o h = omega (arith, line_length letter n v rest)
