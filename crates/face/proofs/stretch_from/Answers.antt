-- Where the call that shows is refused, 0; else behind the length byte of the place's slot.
use mathlib.Core.Path.{◌∙◌}
use Rattle.face.proofs.Face.{show_from, show_place}
use Rattle.face.proofs.stretch_from.Goals as goal

pub starts_at-requires : goal.starts_at-requires
starts_at-requires c =
    show_place c.args.place c.args.reg.now _ c.show_answer.ensures

pub returns : goal.returns
returns c =
    c.starts_at.ensures ∙ show_from c.args.place c.args.reg.now _ c.show_answer.ensures
