-- In a sound register the used slots come first, so those that lead are the parts; at most `most_parts` slots bound them.
use mathlib.Core.Path.{◌∙◌}
use Rattle.register.proofs.Sound.{ready_leading, few_parts_lem}
use Rattle.register.proofs.count_parts.Goals as goal

pub returns : goal.returns
returns c =
    let R = c.args.reg.now in
    let e = c.count_leading.ensures ∙ ready_leading R c.requires in
    record {
      fact_1 = e;
      fact_2 = rw e (few_parts_lem R c.requires);
    }
