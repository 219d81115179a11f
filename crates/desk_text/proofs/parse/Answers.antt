-- Too short, too long, an empty field; then a first field of one byte is a letter, and the rest starts at 2.
use mathlib.Core.Path.{ap, sym, ◌∙◌}
use Rattle.desk_text.specs.Lines.{fields_from, behind_letter}
use Rattle.desk_text.proofs.Lines.{parsed_same, line_empty, line_long, line_gap, line_other, line_letter, behind_none}
use borrow.Author.Rules.{rules}
use Rattle.desk_text.proofs.parse.Goals as goal

pub returns-then-is_empty : goal.returns-then-is_empty
returns-then-is_empty c = line_empty _ (search rules)

pub returns-then-line-gt-LONGEST_LINE : goal.returns-then-line-gt-LONGEST_LINE
returns-then-line-gt-LONGEST_LINE c = line_long _ (search rules) c.if-line-gt-LONGEST_LINE.true

pub returns-then-not-all_filled : goal.returns-then-not-all_filled
returns-then-not-all_filled c =
    line_gap _ (search rules) c.if-line-gt-LONGEST_LINE.false
    (sym c.all_filled.ensures ∙ c.if-not-all_filled.true)

pub returns-then-end-ne1 : goal.returns-then-end-ne1
returns-then-end-ne1 c =
    line_other _ (search rules) c.if-line-gt-LONGEST_LINE.false
    (sym c.all_filled.ensures ∙ c.if-not-all_filled.false) _
    c.end_of-end.ensures c.if-end-ne1.true

pub returns-in_err-of : goal.returns-in_err-of
returns-in_err-of c =
    rw c.from_residual.ensures
    (line_letter _ (search rules) c.if-line-gt-LONGEST_LINE.false
    (sym c.all_filled.ensures ∙ c.if-not-all_filled.false) _
    c.end_of-end.ensures c.if-end-ne1.false
    ∙ behind_none _ _ c.in_err-of.ensures)

pub returns : goal.returns
returns c =
    let l = c.args.line.now in
    let b = c.in_ok-of.ensures in
    parsed_same l c.parse_behind.result
    (line_letter l (search rules) c.if-line-gt-LONGEST_LINE.false
    (sym c.all_filled.ensures ∙ c.if-not-all_filled.false) _
    c.end_of-end.ensures c.if-end-ne1.false
    ∙ ap (λ x. behind_letter x (fields_from l 2)) (sym b))
    c.parse_behind.ensures
