-- The stretch ends behind the bytes that stand before the first b.
use native.Mathlib.Omega.{arith}
use mathlib.Core.Path.{◌≡◌, ap, ◌∙◌}
use lib.ListN.{drop, length-drop}
use lib.Seq.{take_all}
use Rattle.desk_text.specs.Inner.{up_to}
use Rattle.desk_text.proofs.Parted.{end_there}
use Rattle.desk_text.proofs.end_of.Goals as goal
use Rattle.desk_text.proofs.end_of.Goals.{After-bytes_before}

ends : (c : After-bytes_before) → c.bytes_before.result ≡ up_to c.args.b (drop c.args.from c.args.s.now)
ends c = c.bytes_before.ensures ∙ ap (up_to c.args.b) (take_all _ (drop c.args.from c.args.s.now) (simp length-drop (omega arith)))

pub returns : goal.returns
returns c = rw (ends c) (end_there c.args.b c.args.s.now c.args.from c.requires)

pub overflow_add-result : goal.overflow_add-result
overflow_add-result c =
    let e = end_there c.args.b c.args.s.now c.args.from c.requires in
    omega (arith, ends c, e.high)
