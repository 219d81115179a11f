-- The stretch lies within the table that holds it, so it has as many bytes as it is promised.
use mathlib.Core.Path.{ap, ◌∙◌}
use mathlib.Core.Bool.{cond}
use Rattle.makers.specs.Calls.{beside}
use Rattle.face.proofs.Face.{bool_number, label_from_lem, label_long, label_place}
use Rattle.face.proofs.padrisk_label.Goals as goal

pub starts_at-requires : goal.starts_at-requires
starts_at-requires c =
    let a = c.args in
    label_place a.place (beside a.reg.now a.makers.now) _ c.label_answer.ensures

pub returns : goal.returns
returns c =
    let a = c.args in
    record {
      fact_1 = bool_number c.is_makers.result ∙ ap (λ b. cond b 1 0) c.is_makers.ensures;
      fact_2 = c.starts_at.ensures ∙ label_from_lem a.place (beside a.reg.now a.makers.now) _ c.label_answer.ensures;
      fact_3 = label_long a.place a.reg a.makers _ c.label_stretch.ensures;
    }
