use mathlib.Core.Path.{◌≡◌}
use lib.ListN.{length}
use Rattle.sheet.specs.Sheet.{bytes_of}
use Rattle.sheet_read.proofs.Kits.{Filling}
use Rattle.sheet_read.proofs.fill_nodes.Given as goal

abbrev pub invariant-loop-k : goal.invariant-loop-k
invariant-loop-k l = Filling (bytes_of l.w) l.s l.from l.m l.initial.nodes l.nodes l.prev l.at l.n l.k × (length l.nodes ≡ length l.initial.nodes)
