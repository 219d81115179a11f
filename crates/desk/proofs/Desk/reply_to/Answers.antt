-- The outputs keep their lengths, and the tables stay sound for the next line.
use Rattle.std.proofs.Common.{sym, subst, ◌∙◌}
use Rattle.tables.specs.Inner.{SoundTables}
use Rattle.desk_lines.proofs.Left.{left_by_lem, left_sound}
use Rattle.desk.proofs.Serving.{room_kept}
use Rattle.desk.proofs.Desk.reply_to.Goals as goal

pub returns-clause-left : goal.returns-clause-left
returns-clause-left c = c.answer_line-n.ensures.answers.left ∙ left_by_lem _ _ _ _

pub returns-clause-at_hand : goal.returns-clause-at_hand
returns-clause-at_hand c =
    let k = c.answer_line-n.auto in
    record {
      both =
          subst SoundTables (sym (c.answer_line-n.ensures.answers.left ∙ left_by_lem _ _ _ _))
          (left_sound _ c.requires.both c.args.line.now);
      room = room_kept _ _ _ _ _ _ c.requires.room k.places k.sheet k.out;
    }
