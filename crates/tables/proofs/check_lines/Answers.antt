-- A ready register's count is its parts; the check finds the first fault in the paper's order, line by line.
use mathlib.Core.Path.{ap, ◌∙◌}
use Rattle.ground.specs.Calls.{decide}
use Rattle.kits.specs.Kits.{list_faults}
use Rattle.tables.proofs.check_lines.Goals as goal

pub returns : goal.returns
returns c =
    c.check_list.ensures
    ∙ ap (λ n. decide (list_faults n c.args.list.now) 0) c.count_parts-parts.ensures.fact_1
