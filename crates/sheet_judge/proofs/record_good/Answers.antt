-- The marks tell of every tag seen; where the check of the list is not good the lines are not, else the room decides.
use Rattle.std.proofs.Common.{arith}
use Rattle.std.proofs.lemmas.Bool.Decides.{nat_tests}
use Rattle.kits.proofs.Checks.{check_told}
use Rattle.sheet_judge.specs.Inner.{good_lines, new_tag}
use Rattle.sheet_judge.proofs.record_good.Goals as goal
use Rattle.sheet_judge.proofs.record_good.Goals.{then-tag-ne0, else-tag-ne0, then-tags-tag-eq0, else-tags-tag-eq0}

pub returns-then-is_ok : goal.returns-then-is_ok
unfolding new_tag good_lines
returns-then-is_ok c = elim c.if-tags-tag-eq0.branch [
  | then-tags-tag-eq0 w ↦ let e = check_told _ _ _ w.check_list.ensures in elim c.if-tag-ne0.branch [
    | then-tag-ne0 v ↦ grind (arith, nat_tests)
    | else-tag-ne0 v ↦ grind (arith, nat_tests)
  ]
  | else-tags-tag-eq0 w ↦ grind (arith, nat_tests)
]

pub returns-else-is_ok : goal.returns-else-is_ok
unfolding new_tag good_lines
returns-else-is_ok c = elim c.if-tags-tag-eq0.branch [
  | then-tags-tag-eq0 w ↦ let e = check_told _ _ _ w.check_list.ensures in grind (arith, nat_tests)
  | else-tags-tag-eq0 w ↦ elim c.if-tag-ne0.branch [
    | then-tag-ne0 v ↦ grind (arith, nat_tests)
    | else-tag-ne0 v ↦ grind (arith, nat_tests)
  ]
]
