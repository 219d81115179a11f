-- The records of all that is below the root.
use Rattle.sheet.proofs.Widths.{some_width}
use Rattle.sheet.specs.Sheet.{bytes_of}
use mathlib.Core.Path.{ap, ◌∙◌}
use native.Mathlib.Omega.{arith}
use lib.ListN.{length}
use Rattle.sheet_write.specs.Inner.{records_from}
use Rattle.sheet_write.proofs.Whole.{records_most}
use Rattle.sheet_write.proofs.Walked.{root_reached}
use Rattle.sheet_write.proofs.records_size.Goals as goal

pub kits_size-requires : goal.kits_size-requires
kits_size-requires c =
    let e = c.child_at.ensures.0 in
    record {
      reached = root_reached c.requires e c.none-none.ensures;
      few = rw e (records_most (some_width c.args.w) c.args.nodes.now c.requires);
    }

pub returns-clause-most : goal.returns-clause-most
returns-clause-most c =
    let all = c.kits_size.ensures
    ∙ ap (λ i. length (records_from (bytes_of c.args.w) c.args.nodes.now i)) c.child_at.ensures.0 in
    omega (arith, all, records_most (some_width c.args.w) c.args.nodes.now c.requires)
