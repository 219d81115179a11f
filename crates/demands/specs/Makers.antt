-- REQUEST 8: "Pickers want the maker's number on the label when there is one." What is shown, what is answered, and that demands 2 and 3 "don't
-- read it". The file and the law that prove a statement stand behind "Proof", in crates/demands/proofs.
use Rattle.std.specs.Prelude.{◌≡◌, ◌↔◌, ◌⊎◌, Bool, ◌&&◌, cond, false, not, true, List, [], ◌∷◌, ◌-◌, ℕ, drop, get_or, length, replicate, take, eqb, ltb}
use Rattle.ground.specs.Lists.{anyb, from, is_zero}
use Rattle.ground.specs.Calls.{Reply, answer, decide, done, given, is_refused, logs, memory, number_of, refused, value_of}
use Rattle.register.specs.Number.{good_number}
use Rattle.register.specs.Register.{register_length, register_sound, slot_at, slot_bytes, slot_of}
use Rattle.register.specs.Calls.{no_part}
use Rattle.makers.specs.Makers.{makers_length, makers_sound}
use Rattle.makers.specs.Calls.{Beside, MakerCall, clear_maker, holder, is_makers, label_from, label_size, parts_beside, plan_of_maker, set_maker}
use Rattle.makers.specs.Calls.{show_label, showing_label, zero_makers}
use Rattle.demands.specs.Model.{Allowed, entered}
use Rattle.demands.specs.Shop.{Shop, ShopCall, begun_shop, beside_of, catalogue_of, of_catalogue, of_makers, plan_of_shop, memory_of}

------------------------------------------------------------------------
-- What the accepted calls left in it, read off the calls and their replies

-- the maker's number of place p after an accepted call, where it was n before; [] where none is set
unfoldable pub maker_after : ℕ → MakerCall → List ℕ → List ℕ
maker_after p zero_makers n = []
maker_after p (set_maker q s) n = cond (eqb p q) s n
maker_after p (clear_maker q) n = cond (eqb p q) [] n
maker_after p (show_label q) n = n

unfoldable pub maker_step : ℕ → ShopCall → Reply → List ℕ → List ℕ
maker_step p (of_makers c) (done v) n = maker_after p c n
maker_step p (of_makers c) (refused m v) n = n
maker_step p (of_catalogue c) r n = n

unfoldable pub maker_in : ℕ → List (ShopCall × Reply) → List ℕ → List ℕ
maker_in p [] n = n
maker_in p (x ∷ xs) n = maker_in p xs (maker_step p x.0 x.1 n)

-- [14.53] "the maker's number where one was set and not cleared since"
unfoldable pub maker_of : Shop → ℕ → List ℕ
maker_of a p = maker_in p (logs plan_of_shop a.calls (begun_shop a)) []

-- [14.53] "and otherwise ours"
unfoldable pub or_ours : List ℕ → List ℕ → List ℕ
or_ours [] ours = ours
or_ours (b ∷ bs) ours = b ∷ bs

-- the bytes of the stretch that is shown
abbrev pub label_shown : ℕ → Beside → List ℕ
label_shown p B = take (label_size p B) (drop (label_from p B) (holder p B B.register B.makers))

-- [14.53] what is shown, from any list of calls. Proof: Makers, `shows_label`, `shows_no_label`
abbrev pub ShowsLabel : Type 0
ShowsLabel =
    (a : Shop) (p : ℕ) → Allowed (catalogue_of a) → answer (showing_label p (beside_of (memory_of a))) ≡ done 0 →
    label_shown p (beside_of (memory_of a)) ≡ or_ours (maker_of a p) (get_or (entered (catalogue_of a)).parts (p - 1) [])

-- [9.14] "empty stretch as before", at the start of the register
abbrev pub ShowsNoLabel : Type 0
ShowsNoLabel =
    (B : Beside) (p : ℕ) → is_refused (answer (showing_label p B)) ≡ true →
    (is_makers p B ≡ false) × (label_from p B ≡ 0) × (label_size p B ≡ 0)

------------------------------------------------------------------------
-- Every reply, from any list of calls, in terms of what the accepted calls left, and never of a table

-- [14.54] T8c: a maker's number stands beyond so many parts, since emptying or reading took its part away
unfoldable pub left_behind : ℕ → ℕ → (ℕ → List ℕ) → Bool
left_behind slots parts maker = anyb (λ p. ltb parts p && not (is_zero (length (maker p)))) (from 1 slots)

unfoldable pub told_maker : ℕ → ℕ → (ℕ → List ℕ) → MakerCall → Reply
told_maker slots parts maker zero_makers = done 0
told_maker slots parts maker (set_maker p n) =
    decide (given (left_behind slots parts maker) 2 0 ∷ given (no_part parts p) 11 0 ∷ given (not (good_number n)) 3 0 ∷ []) 0
told_maker slots parts maker (clear_maker p) = decide (given (left_behind slots parts maker) 2 0 ∷ given (no_part parts p) 11 0 ∷ []) 0
told_maker slots parts maker (show_label p) = decide (given (left_behind slots parts maker) 2 0 ∷ given (no_part parts p) 11 0 ∷ []) 0

-- [14.54] Proof: Makers, `makers_told`
abbrev pub MakersTold : Type 0
MakersTold =
    (a : Shop) (c : MakerCall) → Allowed (catalogue_of a) →
    answer (plan_of_maker c (beside_of (memory_of a))) ≡ told_maker a.slots (length (entered (catalogue_of a)).parts) (maker_of a) c

------------------------------------------------------------------------
-- Any tables at all, damaged ones too

abbrev pub BesideWrong : Beside → Type 0
BesideWrong B = (register_length B.register ≡ false) ⊎ (makers_length B.register B.makers ≡ false)

abbrev pub BesideUnsound : Beside → Type 0
BesideUnsound B = (register_sound B.register ≡ false) ⊎ (makers_sound (parts_beside B) B.makers ≡ false)

-- [14.55] 1 exactly where a length is wrong or the slot counts differ, whatever else is wrong. Proof: Beside, `makers_one_exactly`
abbrev pub MakersOneExactly : Type 0
MakersOneExactly = (c : MakerCall) (B : Beside) → (number_of (answer (plan_of_maker c B)) ≡ 1) ↔ BesideWrong B

-- [14.55] 2 exactly where the lengths are right and one of the two is not sound; "zeroing giving 1 only". Proof: Beside, `makers_two_exactly`,
-- `zeroing_one_only`
abbrev pub MakersTwoExactly : Type 0
MakersTwoExactly =
    (c : MakerCall) (B : Beside) → (zero_makers ≡ c → ⊥) →
    (number_of (answer (plan_of_maker c B)) ≡ 2) ↔ ((BesideWrong B → ⊥) × BesideUnsound B)

-- [14.55]
abbrev pub ZeroingOneOnly : Type 0
ZeroingOneOnly = (B : Beside) → (BesideWrong B → ⊥) → answer (plan_of_maker zero_makers B) ≡ done 0

-- [14.55] the numbers that a call may be refused with, in its order: "then 11 ..; then 3"
unfoldable pub makers_numbers : MakerCall → List ℕ
makers_numbers zero_makers = 1 ∷ []
makers_numbers (set_maker p n) = 1 ∷ 2 ∷ 11 ∷ 3 ∷ []
makers_numbers (clear_maker p) = 1 ∷ 2 ∷ 11 ∷ []
makers_numbers (show_label p) = 1 ∷ 2 ∷ 11 ∷ []

-- [14.55] a call is done or refused with one of its numbers, and its value is 0 either way. Proof: Beside, `makers_laid_down`, `makers_value`
abbrev pub MakersLaidDown : Type 0
MakersLaidDown =
    (c : MakerCall) (B : Beside) → (number_of (answer (plan_of_maker c B)) ≡ 0)
    ⊎ (anyb (eqb (number_of (answer (plan_of_maker c B)))) (makers_numbers c) ≡ true)

-- [14.55]
abbrev pub MakersValue : Type 0
MakersValue = (c : MakerCall) (B : Beside) → value_of (answer (plan_of_maker c B)) ≡ 0

------------------------------------------------------------------------
-- One slot at a time

-- [14.56] M' has s in the slot of place p, and every other slot as M has it
pub record OneSlot (p : ℕ) (s M M' : List ℕ) : Type 0 where
  pub sized : length M' ≡ length M
  pub here : slot_at M' (p - 1) ≡ s
  pub others : (k : ℕ) → (k ≡ p - 1 → ⊥) → slot_at M' k ≡ slot_at M k

-- [14.56] "setting one slot leaves every other", whatever stands in it. Proof: Beside, `sets_one`, `clears_one`
abbrev pub SetsOne : Type 0
SetsOne =
    (p : ℕ) (n : List ℕ) (B : Beside) → answer (plan_of_maker (set_maker p n) B) ≡ done 0 → OneSlot p (slot_of n) B.makers
    (memory (plan_of_maker (set_maker p n) B) B.makers)

-- [14.56]
abbrev pub ClearsOne : Type 0
ClearsOne =
    (p : ℕ) (B : Beside) → answer (plan_of_maker (clear_maker p) B) ≡ done 0 → OneSlot p (replicate slot_bytes 0) B.makers
    (memory (plan_of_maker (clear_maker p) B) B.makers)

-- [14.57] what the calls of the maker's table leave is sound: zeroing, whatever stood in it. Proof: Beside, `stays_sound`
abbrev pub StaysSound : Type 0
StaysSound =
    (c : MakerCall) (B : Beside) → answer (plan_of_maker c B) ≡ done 0 → makers_sound (parts_beside B) (memory (plan_of_maker c B) B.makers) ≡ true
