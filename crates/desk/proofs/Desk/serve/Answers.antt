-- The lines of all that was read are answered, the last one too where it lacks its line feed.
use Rattle.desk.proofs.Serving.{none_read, more_read, nothing_left, line_left}
use Rattle.desk.proofs.Empty.{desk_sound}
use Rattle.desk.proofs.Desk.serve.Goals as goal

pub pieces-init : goal.pieces-init
pieces-init c =
    let r = c.requires in
    (r.keeps, record { both = desk_sound _ r.begun; room = r.room }, none_read _ _ r.begun)

pub pieces-preserved : goal.pieces-preserved
pieces-preserved c =
    let t = c.take_piece-n.ensures in
    (t.takes.keeps, t.at_hand, more_read c.pieces.invariant.2 _ _ _ _ t.takes)

pub returns-then-n-eq0 : goal.returns-then-n-eq0
returns-then-n-eq0 c = nothing_left c.pieces.invariant.2 c.if-n-eq0.true

pub returns : goal.returns
returns c = line_left c.pieces.invariant.2 _ c.if-n-eq0.false c.pieces.invariant.0.inside c.reply_to.ensures.left
