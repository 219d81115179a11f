-- No two letters have one byte.
use mathlib.Core.Path.{◌≡◌, refl, ap, sym, ◌∙◌}
use mathlib.Core.Bool.{cond}
use Prim.Native.Nat.{ℕ}
use lib.Dec.{eqb}
use Rattle.desk_text.specs.declared.Letter.{Letter}
use Rattle.desk_text.specs.declared.Letter.TheVariants as v
use Rattle.desk_text.specs.Letters.{registers, inserts, finds, deletes, any_within, any_containing, all_within, all_containing, byte_of}

letter_at : ℕ → Letter
letter_at b =
    cond (eqb b registers) v.Registers
    (cond (eqb b inserts) v.Inserts
    (cond (eqb b finds) v.Finds
    (cond (eqb b deletes) v.Deletes
    (cond (eqb b any_within) v.AnyWithin
    (cond (eqb b any_containing) v.AnyContaining
    (cond (eqb b all_within) v.AllWithin
    (cond (eqb b all_containing) v.AllContaining v.Writes)))))))

letter_back : (x : Letter) → letter_at (byte_of x) ≡ x
unfolding letter_at
letter_back v.Registers = refl
letter_back v.Inserts = refl
letter_back v.Finds = refl
letter_back v.Deletes = refl
letter_back v.AnyWithin = refl
letter_back v.AnyContaining = refl
letter_back v.AllWithin = refl
letter_back v.AllContaining = refl
letter_back v.Writes = refl

pub byte_apart : (x y : Letter) → (x ≡ y → ⊥) → byte_of x ≡ byte_of y → ⊥
byte_apart x y n e = n (sym (letter_back x) ∙ ap letter_at e ∙ letter_back y)
