-- Laws of a line taken apart, field by field.
use mathlib.Core.Path.{◌≡◌, refl, ap, sym, ◌∙◌, subst}
use mathlib.Core.Bool.{Bool, true, false, ◌&&◌}
use mathlib.Core.List.{List, [], ◌∷◌}
use Rattle.std.proofs.Common.{Option, None}
use Prim.Native.Nat.{ℕ, suc, ◌+◌, ◌-◌, ◌≤◌, ◌<◌}
use native.Mathlib.Omega.{arith}
use lib.ListN.{length, get_or, take, drop, length-drop}
use lib.Seq.{length-take-le}
use lib.Dec.{eqb}
use borrow.Author.Tests.{ne_eqb, le-leb, lt-leb}
use Rattle.ground.specs.Lists.{allb, anyb, every}
use Rattle.desk_text.specs.Inner.{EndOf, ParsedAs, line_where}
use Rattle.desk_text.specs.declared.Line.{Line}
use Rattle.desk_text.specs.Amounts.{amount_of, good_amount}
use Rattle.desk_text.specs.Lines.{space, longest_line, fields_of, fields_from, filled, good_pairs}
use Rattle.desk_text.specs.Lines.{Parsed, none, line, line_if, exactly, pairs, amount_and_pairs, behind_letter, lettered, parsed}
use Rattle.desk_text.specs.Letters.{registers, inserts, writes, byte_of, StandsFor}
use Rattle.desk_text.specs.declared.Letter.{Letter}
use Rattle.desk_text.specs.declared.Letter.TheVariants as v
use Rattle.desk_text.proofs.Parted.{from_none, from_step, parted_from_lem}

-- the field at a position that ends at r
abbrev pub field_at : List ℕ → ℕ → ℕ → List ℕ
field_at l at r = take (r - at) (drop at l)

module _ (l : List ℕ) (at r : ℕ) (h : at ≤ length l) (e : EndOf l at space r) where
  pub field_length : length (field_at l at r) ≡ r - at
  field_length = length-take-le (r - at) (drop at l) (simp length-drop (omega (arith, e.high)))

  pub filled_no : r ≡ at → allb filled (fields_from l at) ≡ false
  unfolding allb filled
  filled_no q =
      let n : length (field_at l at r) < 1 = omega (arith, field_length) in
      rw (from_step space l at r h e, lt-leb 1 (length (field_at l at r)) n)

  pub filled_yes : (r ≡ at → ⊥) → allb filled (fields_from l at) ≡ allb filled (fields_from l (r + 1))
  unfolding allb filled
  filled_yes q =
      let n : 1 ≤ length (field_at l at r) = omega (arith, field_length, e.low) in
      rw (from_step space l at r h e, le-leb 1 (length (field_at l at r)) n)

  pub count_step : length (fields_from l at) ≡ suc (length (fields_from l (r + 1)))
  count_step = rw (from_step space l at r h e)

  pub pairs_odd : r ≡ length l → good_pairs (fields_from l at) ≡ false
  unfolding good_pairs
  pairs_odd q = rw (from_step space l at r h e, from_none space l (r + 1) (omega arith))

  pub pairs_step : (s : ℕ) → r < length l → EndOf l (r + 1) space s →
      good_pairs (fields_from l at) ≡ (good_amount (field_at l (r + 1) s) && good_pairs (fields_from l (s + 1)))
  unfolding good_pairs
  pairs_step s g f = rw (from_step space l at r h e, from_step space l (r + 1) s (omega arith) f)

  module _ (s : ℕ) (g : r < length l) (f : EndOf l (r + 1) space s) where
    pub pairs_no : good_amount (field_at l (r + 1) s) ≡ false → good_pairs (fields_from l at) ≡ false
    pairs_no q = rw (pairs_step s g f, q)

    pub pairs_yes : good_amount (field_at l (r + 1) s) ≡ true → good_pairs (fields_from l at) ≡ good_pairs (fields_from l (s + 1))
    pairs_yes q = rw (pairs_step s g f, q)

module _ (l : List ℕ) (at : ℕ) (h : length l < at) where
  pub count_end : length (fields_from l at) ≡ 0
  count_end = rw (from_none space l at h)

  pub pairs_end : good_pairs (fields_from l at) ≡ true
  unfolding good_pairs
  pairs_end = rw (from_none space l at h)

-- what the code says of a line, by what is said of its fields
module _ (l : List ℕ) (r : Option Line) where
  pub parsed_same : {p q : Parsed} → p ≡ q → ParsedAs l q r → ParsedAs l p r
  parsed_same e h = subst (λ z. ParsedAs l z r) (sym e) h

  pub parsed_if : {p : Parsed} (good : Bool) (x : Letter) (t from : ℕ) → p ≡ line_if good (byte_of x) t (fields_from l from) → from ≤ length l + 1 →
      r ≡ line_where good x t from → ParsedAs l p r
  unfolding line_if
  parsed_if true x t from q h e =
      parsed_same q (subst (ParsedAs l (line (byte_of x) t (fields_from l from))) (sym e) (record { is = refl; inside = h }))
  parsed_if false x t from q h e = parsed_same q (subst (ParsedAs l none) (sym e) refl)

-- an amount, and then pairs
pub no_amount : (l : List ℕ) (x at : ℕ) → length l < at → amount_and_pairs x (fields_from l at) ≡ none
unfolding amount_and_pairs
no_amount l x at h = rw (from_none space l at h)

module _ (l : List ℕ) (x at r : ℕ) (h : at ≤ length l) (e : EndOf l at space r) where
  pub bad_amount : good_amount (field_at l at r) ≡ false → amount_and_pairs x (fields_from l at) ≡ none
  unfolding amount_and_pairs line_if
  bad_amount q = rw (from_step space l at r h e, q)

  pub amount_then_pairs : (b : Bool) (t : ℕ) → good_amount (field_at l at r) ≡ true → b ≡ good_pairs (fields_from l (r + 1)) →
      t ≡ amount_of (field_at l at r) → amount_and_pairs x (fields_from l at) ≡ line_if b x t (fields_from l (r + 1))
  unfolding amount_and_pairs
  amount_then_pairs b t q f v = rw (from_step space l at r h e, q, f, v)

-- what may stand behind each letter
module _ (fs : List (List ℕ)) where
  pub behind_registers : (n : ℕ) → n ≡ length fs → behind_letter registers fs ≡ line_if (eqb n 1) registers 0 fs
  unfolding behind_letter exactly
  behind_registers n e = rw e

  pub behind_inserts : behind_letter inserts fs ≡ amount_and_pairs inserts fs
  unfolding behind_letter
  behind_inserts = refl

  pub behind_writes : (n : ℕ) → n ≡ length fs → behind_letter writes fs ≡ line_if (eqb n 0) writes 0 fs
  unfolding behind_letter exactly
  behind_writes n e = rw e

  -- every other letter takes a list alone
  module _ (b : Bool) (e : b ≡ good_pairs fs) where
    pub behind_list : (x : Letter) → (x ≡ v.Registers → ⊥) → (x ≡ v.Inserts → ⊥) → (x ≡ v.Writes → ⊥) →
        behind_letter (byte_of x) fs ≡ line_if b (byte_of x) 0 fs
    unfolding behind_letter pairs anyb
    behind_list v.Registers r i w = absurd (r refl)
    behind_list v.Inserts r i w = absurd (i refl)
    behind_list v.Writes r i w = absurd (w refl)
    behind_list v.Finds r i w = rw e
    behind_list v.Deletes r i w = rw e
    behind_list v.AnyWithin r i w = rw e
    behind_list v.AnyContaining r i w = rw e
    behind_list v.AllWithin r i w = rw e
    behind_list v.AllContaining r i w = rw e

  -- and no letter stands for another byte
  pub behind_none : (b : ℕ) → StandsFor b None → behind_letter b fs ≡ none
  unfolding behind_letter anyb
  behind_none b n =
      let apart : (x : Letter) → eqb b (byte_of x) ≡ false = λ x. ne_eqb b (byte_of x) (λ e. n x (sym e)) in
      rw (
        apart v.Registers,
        apart v.Inserts,
        apart v.Writes,
        apart v.Finds,
        apart v.Deletes,
        apart v.AnyWithin,
        apart v.AnyContaining,
        apart v.AllWithin,
        apart v.AllContaining,
      )

-- the letter's field
module _ (l : List ℕ) (r : ℕ) (e : EndOf l 0 space r) where
  first_field : fields_of l ≡ field_at l 0 r ∷ fields_from l (r + 1)
  first_field = sym (parted_from_lem space l) ∙ from_step space l 0 r (omega arith) e

  letter_other : (r ≡ 1 → ⊥) → lettered (fields_of l) ≡ none
  unfolding lettered
  letter_other q =
      let n : length (field_at l 0 r) ≡ 1 → ⊥ = λ x. q (omega (arith, field_length l 0 r (omega arith) e)) in
      rw (first_field, ne_eqb (length (field_at l 0 r)) 1 n)

letter_one : (l : List ℕ) → EndOf l 0 space 1 → lettered (fields_of l) ≡ behind_letter (get_or l 0 0) (fields_from l 2)
unfolding lettered
letter_one [] e = absurd (omega (arith, e.high))
letter_one (x ∷ xs) e = rw (first_field (x ∷ xs) 1 e)

-- the whole line, sentence by sentence
module _ (l : List ℕ) where
  pub line_empty : length l < 1 → parsed l ≡ none
  unfolding parsed every
  line_empty h = rw (lt-leb 1 (length l) h)

  module _ (low : 1 ≤ length l) where
    pub line_long : longest_line < length l → parsed l ≡ none
    unfolding parsed every
    line_long h = rw (le-leb 1 (length l) low, lt-leb (length l) longest_line h)

    module _ (high : length l ≤ longest_line) where
      pub line_gap : allb filled (fields_of l) ≡ false → parsed l ≡ none
      unfolding parsed every
      line_gap e = rw (le-leb 1 (length l) low, le-leb (length l) longest_line high, e)

      module _ (some : allb filled (fields_of l) ≡ true) (r : ℕ) (e : EndOf l 0 space r) where
        line_fields : parsed l ≡ lettered (fields_of l)
        unfolding parsed every
        line_fields = rw (le-leb 1 (length l) low, le-leb (length l) longest_line high, some)

        pub line_other : (r ≡ 1 → ⊥) → parsed l ≡ none
        line_other q = line_fields ∙ letter_other l r e q

        pub line_letter : r ≡ 1 → parsed l ≡ behind_letter (get_or l 0 0) (fields_from l 2)
        line_letter q = line_fields ∙ letter_one l (subst (λ (n : ℕ). EndOf l 0 space n) q e)
