-- row_at: up the parent links, each label before those that are down.
use native.Mathlib.Omega.{arith}
use mathlib.Core.Path.{refl}
use Rattle.pages.proofs.RowAt.{up_start, up_step, up_end}
use Rattle.pages.proofs.row_at.Goals as goal

pub loop-d-init : goal.loop-d-init
loop-d-init c =
    up_start c.requires.shape c.requires.used c.depth_at-len.ensures.0

pub loop-d-preserved : goal.loop-d-preserved
loop-d-preserved c =
    up_step c.requires.shape c.loop-d.invariant (λ z. omega arith) refl c.label_at.ensures c.parent_at-at.ensures.0

pub returns : goal.returns
returns c =
    up_end c.requires.shape c.loop-d.invariant (omega arith) c.requires.used c.depth_at-len.ensures.0
