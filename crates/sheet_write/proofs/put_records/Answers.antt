-- The walk starts at the root's first child, with no line of a row above.
use mathlib.Core.Path.{refl}
use Rattle.sheet_write.proofs.Walked.{root_reached, root_stands}
use Rattle.sheet_write.proofs.put_records.Goals as goal

pub put_kits-requires-clause-reached : goal.put_kits-requires-clause-reached
put_kits-requires-clause-reached c =
    let e = c.child_at.ensures.0 in
    root_reached c.requires.shape e c.none-none.ensures

pub put_kits-requires-clause-stands : goal.put_kits-requires-clause-stands
put_kits-requires-clause-stands c =
    let e = c.child_at.ensures.0 in
    root_stands c.requires.shape e refl
