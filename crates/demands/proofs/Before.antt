-- Request 3: what an old sheet says it says by the new rule too, since every number that was good is good.
use mathlib.Core.Path.{◌≡◌, refl, sym}
use mathlib.Core.Bool.{Bool, true, false, cond, ◌&&◌, ◌||◌, or-true, false≢true}
use mathlib.Core.List.{List, [], ◌∷◌}
use Prim.Native.Nat.{ℕ, zero, suc, ◌+◌}
use lib.ListN.{length, take, drop}
use lib.Dec.{leb}
use Rattle.ground.specs.Lists.{allb, every}
use Rattle.ground.proofs.Laws.{and_left, and_right, and_both}
use Rattle.register.specs.Number.{between, is_punctuation, good_byte, good_number}
use Rattle.sheet.specs.Reading.{Item, item, fault, Reading, onward, one, number_size, new_number, numbers, front, decode, is_fault}
use Rattle.demands.specs.Before.{good_byte_before, good_number_before, new_number_before, numbers_before, front_before, decode_before, OldSheets}

------------------------------------------------------------------------
-- A wider rule

-- every byte, number and new number that was good is good
byte_wider : (b : ℕ) → good_byte_before b ≡ true → good_byte b ≡ true
unfolding good_byte_before good_byte
byte_wider b e = go (between 0x30 0x39 b) (between 0x41 0x5A b) (between 0x61 0x7A b) (is_punctuation b) e
  where
    go : (digit capital small mark : Bool) → (digit || (capital || mark)) ≡ true → (digit || (capital || (small || mark))) ≡ true
    go true capital small mark h = refl
    go false true small mark h = refl
    go false false small true h = or-true small
    go false false small false h = absurd (false≢true h)

all_wider : (p q : ℕ → Bool) → ((x : ℕ) → p x ≡ true → q x ≡ true) → (l : List ℕ) → allb p l ≡ true → allb q l ≡ true
unfolding allb
all_wider p q w [] e = refl
all_wider p q w (x ∷ l) e = and_both (q x) (allb q l) (w x (and_left (p x) (allb p l) e)) (all_wider p q w l (and_right (p x) (allb p l) e))

first_wider : (a b : Bool) (l : List Bool) → (a ≡ true → b ≡ true) → every (a ∷ l) ≡ true → every (b ∷ l) ≡ true
unfolding every
first_wider a b l w e = and_both b (every l) (w (and_left a (every l) e)) (and_right a (every l) e)

others_wider : (a : Bool) (l m : List Bool) → (every l ≡ true → every m ≡ true) → every (a ∷ l) ≡ true → every (a ∷ m) ≡ true
unfolding every
others_wider a l m w e = and_both a (every m) (and_left a (every l) e) (w (and_right a (every l) e))

number_wider : (n : List ℕ) → good_number_before n ≡ true → good_number n ≡ true
unfolding good_number_before good_number
number_wider n =
    others_wider _ _ _ (others_wider _ _ _ (first_wider (allb good_byte_before n) (allb good_byte n) [] (all_wider good_byte_before good_byte byte_wider n)))

new_wider : (seen : List (List ℕ)) (b : List ℕ) → new_number_before seen b ≡ true → new_number seen b ≡ true
unfolding new_number_before new_number
new_wider seen b = first_wider (good_number_before (drop 1 b)) (good_number (drop 1 b)) _ (number_wider (drop 1 b))

------------------------------------------------------------------------
-- What is read by a rule without a fault is read so by a wider one

one_wider : (size : List ℕ → ℕ) (good wider : List ℕ → Bool) → ((b : List ℕ) → good b ≡ true → wider b ≡ true) → (bs : List ℕ) (o : ℕ) →
    is_fault (one size good bs o) ≡ false → one size wider bs o ≡ one size good bs o
unfolding one is_fault
one_wider size good wider w bs o = go (leb (size bs) (length bs)) (good (take (size bs) bs)) (wider (take (size bs) bs)) (w (take (size bs) bs))
  where
    go : (fits g w : Bool) → (g ≡ true → w ≡ true) →
        is_fault (cond (fits && g) (item (take (size bs) bs) (drop (size bs) bs) (o + size bs)) (fault o)) ≡ false →
        cond (fits && w) (item (take (size bs) bs) (drop (size bs) bs) (o + size bs)) (fault o)
        ≡ cond (fits && g) (item (take (size bs) bs) (drop (size bs) bs) (o + size bs)) (fault o)
    go false g w h e = refl
    go true true true h e = refl
    go true true false h e = absurd (false≢true (h refl))
    go true false w h e = absurd (false≢true (sym e))

onward_wider : {A B : Type 0} (i j : Item A) (f g : A → Reading B) → (is_fault i ≡ false → j ≡ i) →
    ((a : A) (bs : List ℕ) (o : ℕ) → is_fault (f a bs o) ≡ false → g a bs o ≡ f a bs o) → is_fault (onward i f) ≡ false → onward j g ≡ onward i f
unfolding onward is_fault
onward_wider (item a bs o) j f g same next e = rw (same refl) (next a bs o e)
onward_wider (fault o) j f g same next e = absurd (false≢true (sym e))

numbers_wider : (n : ℕ) (seen : List (List ℕ)) (bs : List ℕ) (o : ℕ) → is_fault (numbers_before n seen bs o) ≡ false →
    numbers n seen bs o ≡ numbers_before n seen bs o
unfolding numbers numbers_before
numbers_wider zero seen bs o e = refl
numbers_wider (suc n) seen bs o e =
    onward_wider (one number_size (new_number_before seen) bs o) (one number_size (new_number seen) bs o) _ _
    (one_wider number_size (new_number_before seen) (new_number seen) (new_wider seen) bs o)
    (λ b bs' o'. onward_wider (numbers_before n (drop 1 b ∷ seen) bs' o') (numbers n (drop 1 b ∷ seen) bs' o') _ _
    (numbers_wider n (drop 1 b ∷ seen) bs' o') (λ ns bs'' o'' _. refl)) e

front_wider : (bs : List ℕ) (o : ℕ) → is_fault (front_before bs o) ≡ false → front bs o ≡ front_before bs o
unfolding front front_before
front_wider bs o e =
    onward_wider _ _ _ _ (λ _. refl) (λ m bs₁ o₁. onward_wider _ _ _ _ (λ _. refl) (λ v bs₂ o₂. onward_wider _ _ _ _ (λ _. refl) (λ p bs₃ o₃.
    onward_wider _ _ _ _ (numbers_wider _ [] bs₃ o₃) (λ ns bs₄ o₄ _. refl)))) e

pub old_sheets : OldSheets
unfolding decode decode_before
old_sheets s e = onward_wider (front_before s 0) (front s 0) _ _ (front_wider s 0) (λ f bs o _. refl) e
