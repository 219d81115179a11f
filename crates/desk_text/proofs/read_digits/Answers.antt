-- The bytes to come spell on from the value so far; it never falls again, so one too large refuses at once.
use mathlib.Core.Bool.{true, false}
use mathlib.Core.Path.{◌≡◌, refl, sym, ◌∙◌}
use Prim.Native.Nat.{ℕ, ◌+◌, ◌-◌, ◌*◌, ◌<◌}
use native.Mathlib.Omega.{arith}
use lib.ListN.{get_or, drop}
use Rattle.std.specs.Char as std
use Rattle.ground.specs.Lists.{allb}
use Rattle.ground.proofs.Laws.{allb_no, allb_yes, allb_end}
use Rattle.desk_text.specs.Amounts.{is_digit, amount_of, largest_amount}
use Rattle.desk_text.proofs.Amounts.{spelt_step, spelt_end, spelt_grows, small_other, small_over, small_yes}
use Rattle.desk_text.proofs.read_digits.Goals as goal

-- what the library calls a digit
digit_same : (b : ℕ) → std.is_ascii_digit b ≡ is_digit b
unfolding is_digit
digit_same b = refl

pub loop-b-init : goal.loop-b-init
unfolding amount_of
loop-b-init c = (omega arith, refl, refl)

pub returns-then-not-is_ascii_digit : goal.returns-then-not-is_ascii_digit
returns-then-not-is_ascii_digit c =
    let f = c.args.f.now in
    let n = sym (digit_same _) ∙ sym c.is_ascii_digit.ensures.value ∙ c.if-not-is_ascii_digit.true in
    let e : allb is_digit f ≡ false = sym c.loop-b.invariant.1 ∙ allb_no is_digit f c.loop-b.b-index c.loop-b-test.true n in
    rw (small_other f e)

pub returns-then-v-gt-LARGEST_AMOUNT : goal.returns-then-v-gt-LARGEST_AMOUNT
returns-then-v-gt-LARGEST_AMOUNT c =
    let f = c.args.f.now in
    let v = c.loop-b.v in
    let i = c.loop-b.b-index in
    let s = spelt_step v f i c.loop-b-test.true in
    let g = spelt_grows (v * 10 + (get_or f i 0 - 48)) (drop (i + 1) f) in
    let o : largest_amount < amount_of f = omega (arith, s, c.loop-b.invariant.2) in
    rw (small_over f o)

pub loop-b-preserved : goal.loop-b-preserved
loop-b-preserved c =
    let f = c.args.f.now in
    let v = c.loop-b.v in
    let i = c.loop-b.b-index in
    let d : is_digit (get_or f i 0) ≡ true = sym (digit_same _) ∙ sym c.is_ascii_digit.ensures.value ∙ c.if-not-is_ascii_digit.false in
    let s = spelt_step v f i c.loop-b-test.true in
    let y = allb_yes is_digit f i c.loop-b-test.true d in
    (omega arith, cc, cc)

pub returns : goal.returns
returns c =
    let f = c.args.f.now in
    let i = c.loop-b.b-index in
    let a : allb is_digit f ≡ true = sym c.loop-b.invariant.1 ∙ allb_end is_digit f i c.loop-b-test.false in
    let z : amount_of f ≡ c.loop-b.v = sym c.loop-b.invariant.2 ∙ spelt_end c.loop-b.v f i c.loop-b-test.false in
    rw (small_yes f a (omega arith), z)
