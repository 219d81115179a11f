-- Every kit ends at the root or below it.
use mathlib.Core.Path.{◌∙◌}
use Rattle.nodes.proofs.Tallies.{root_counts}
use Rattle.questions.proofs.kit_count.Goals as goal

pub returns : goal.returns
returns c =
    c.from.ensures ∙ c.tally_at.ensures ∙ root_counts c.requires
