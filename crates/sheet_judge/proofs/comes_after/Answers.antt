-- The first record follows none; any other is told by how it stands to the one before.
use mathlib.Core.Path.{ap, ◌∙◌}
use Rattle.std.specs.Ordering.{is_lt}
use Rattle.sheet_judge.proofs.Records.{later_told, compared_less}
use Rattle.sheet_judge.proofs.comes_after.Goals as goal

pub returns-else-k-eq0 : goal.returns-else-k-eq0
returns-else-k-eq0 c = later_told _ _ c.if-k-eq0.false (c.is_lt.ensures ∙ ap is_lt c.compare.ensures ∙ compared_less _ _)
