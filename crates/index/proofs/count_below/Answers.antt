-- A deepest node less deep than the row leaves no kit that begins with it; one as deep has their number, and at the root all kits do.
use mathlib.Core.Path.{◌∙◌}
use native.Mathlib.Omega.{arith}
use Rattle.index.proofs.Tags.{count_missing, count_found, count_root}
use Rattle.index.proofs.count_below.Goals as goal

pub returns-then-depth_at-units : goal.returns-then-depth_at-units
returns-then-depth_at-units c =
    count_missing c.requires.sound.shape c.requires.deepest (omega (arith, c.depth_at.ensures.0))

pub returns-then-p-eq0 : goal.returns-then-p-eq0
returns-then-p-eq0 c =
    c.from.ensures ∙ c.listed_count.ensures ∙ count_root c.requires.sound c.requires.deepest
    (omega (arith, c.depth_at.ensures.0)) c.if-p-eq0.true

pub returns : goal.returns
returns c =
    c.from-2.ensures ∙ c.tally_at.ensures ∙ count_found c.requires.sound c.requires.deepest
    (omega (arith, c.depth_at.ensures.0)) c.if-p-eq0.false
