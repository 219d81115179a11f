-- Refused is 0; a place that is shown is above 0, and its number stands behind the length byte of its slot.
use mathlib.Core.Path.{sym, ap, ◌∙◌}
use Prim.Native.Nat.{◌+◌, ◌-◌, ◌*◌}
use Rattle.ground.specs.Calls.{is_refused}
use Rattle.ground.proofs.Calls.{leaves_done, refused_leaves}
use Rattle.answers.specs.Answers.{reply}
use Rattle.answers.proofs.Answers.{refuses}
use Rattle.face.proofs.starts_at.Goals as goal

pub returns-in-Ok : goal.returns-in-Ok
returns-in-Ok c = ap (λ x. (x - 1) * 32 + 1) c.from.ensures ∙ sym (leaves_done _ _ _ _ (ap reply c.in-Ok.is))

pub returns-in-Err : goal.returns-in-Err
returns-in-Err c = sym (refused_leaves _ _ _ (ap (λ a. is_refused (reply a)) c.in-Err.is ∙ refuses _))
