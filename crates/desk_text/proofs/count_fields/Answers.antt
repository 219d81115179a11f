-- The library's parts of what stands behind a position are the fields from there on.
use Rattle.std.proofs.Common.{sym, ap, ◌∙◌, eqb, length, drop, length-drop, rules, tests, arith}
use Rattle.std.proofs.Math.Seq.{take_all}
use borrow.Author.Tests.{le-leb}
use Rattle.std.proofs.lemmas.Iterator.Consumers.{count_from_yields_List}
use Rattle.std.proofs.lemmas.Iterator.Splits.{YieldsList-from_slice_split}
use Rattle.desk_text.specs.Parted.{parted_from}
use Rattle.desk_text.specs.Lines.{space}
use Rattle.desk_text.proofs.Parted.{parted_split}
use Rattle.desk_text.proofs.Lines.{count_end}
use Rattle.desk_text.proofs.count_fields.Goals as goal

pub returns-then-line-from : goal.returns-then-line-from
returns-then-line-from c = sym (count_end _ _ c.if-line-from.true)

pub returns : goal.returns
unfolding parted_from
returns c =
    let l = c.args.line.now in
    let from = c.args.from in
    let all = take_all _ (drop from l) (simp length-drop (omega arith)) in
    count_from_yields_List c.split.result c.count.result c.count.ensures.ran
    (YieldsList-from_slice_split _ (λ x. eqb x space) (drop from l) (c.split.ensures.rest ∙ all) c.split.ensures.done c.split.ensures.closure
    (λ x b q k. search (rules, tests)))
    ∙ ap length (parted_split space (drop from l)) ∙ rw (le-leb from (length l) c.if-line-from.false)
