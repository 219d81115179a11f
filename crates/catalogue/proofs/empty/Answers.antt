-- Only the lengths can refuse; two tables made zero are what emptying leaves.
use mathlib.Core.Path.{refl}
use Rattle.answers.proofs.Answers.{refuses, handed_reply}
use Rattle.catalogue.proofs.Answers.{empty_refused, empty_done}
use Rattle.catalogue.proofs.empty.Goals as goal

pub returns-in_err-check_lengths : goal.returns-in_err-check_lengths
returns-in_err-check_lengths c =
    rw (handed_reply _ _ c.from_residual.ensures.1)
    (empty_refused c.args.reg.now c.args.nodes.now _ c.in_err-check_lengths.ensures (refuses c.in_err-check_lengths.field-0.0))

pub returns : goal.returns
returns c =
    empty_done c.args.reg.now c.args.nodes.now _ _ _ c.in_ok-check_lengths.ensures
    refl c.clear.ensures c.clear_nodes.ensures
