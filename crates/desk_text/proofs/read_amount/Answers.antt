-- One to five bytes without a leading zero: what passes is an amount just when its digits are a small one.
use mathlib.Core.Path.{sym, ◌∙◌}
use borrow.Author.Rules.{rules}
use lib.ListN.{length}
use Prim.Native.Nat.{◌<◌, ◌≤◌}
use Rattle.desk_text.proofs.Amounts.{amount_empty, amount_long, amount_zero, amount_small}
use Rattle.desk_text.proofs.read_amount.Goals as goal

pub returns-then-is_empty : goal.returns-then-is_empty
returns-then-is_empty c =
    let h : length c.args.f.now < 1 = search rules in rw (amount_empty _ h)

pub returns-then-f-gt-MOST_DIGITS : goal.returns-then-f-gt-MOST_DIGITS
returns-then-f-gt-MOST_DIGITS c = rw (amount_long _ c.if-f-gt-MOST_DIGITS.true)

pub returns-then-leading_zero : goal.returns-then-leading_zero
returns-then-leading_zero c =
    let h : 1 ≤ length c.args.f.now = search rules in
    rw (amount_zero _ h c.if-f-gt-MOST_DIGITS.false (sym c.leading_zero.ensures ∙ c.if-leading_zero.true))

pub returns : goal.returns
returns c =
    let h : 1 ≤ length c.args.f.now = search rules in
    rw (amount_small _ h c.if-f-gt-MOST_DIGITS.false (sym c.leading_zero.ensures ∙ c.if-leading_zero.false)) c.read_digits.ensures
