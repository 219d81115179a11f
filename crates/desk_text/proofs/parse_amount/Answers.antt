-- Without a field there is no amount; behind a good one the pairs decide.
use mathlib.Core.Path.{ap, sym, ◌∙◌}
use Rattle.std.specs.Option.{is_some}
use Rattle.desk_text.proofs.Amounts.{good_if_some, amount_value}
use Rattle.desk_text.proofs.Lines.{parsed_if, no_amount, bad_amount, amount_then_pairs}
use borrow.Author.Rules.{rules}
use Rattle.desk_text.proofs.parse_amount.Goals as goal

pub returns-then-line-from : goal.returns-then-line-from
returns-then-line-from c = no_amount _ _ _ c.if-line-from.true

pub returns-in_err-tag : goal.returns-in_err-tag
returns-in_err-tag c =
    let bad = sym (good_if_some _ _ c.read_amount.ensures) ∙ ap is_some c.in_err-tag.was in
    rw c.from_residual.ensures (bad_amount _ _ _ _ c.if-line-from.false c.end_of-end.ensures bad)

pub returns : goal.returns
returns c =
    let good = amount_value _ _ c.read_amount.ensures _ c.in_ok-tag.was in
    parsed_if _ _ _ _ _ _
    (amount_then_pairs _ _ _ _ c.if-line-from.false c.end_of-end.ensures _ _ good.0 c.good_pairs.ensures good.1)
    (search rules) c.line_if.ensures
