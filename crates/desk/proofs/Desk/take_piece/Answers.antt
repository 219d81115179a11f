-- The lines that the piece has ended are answered; what is kept of the next is enough to tell an overlong one.
use Rattle.std.proofs.Common.{◌<◌, length, arith}
use Rattle.desk.proofs.Serving.{starts, line_goes_on, line_ends, piece_done}
use Rattle.desk.proofs.Desk.take_piece.Goals as goal

pub loop-at-init : goal.loop-at-init
loop-at-init c = starts _ _ _ _ _ _ _ c.requires.keeps c.requires.at_hand

pub returns-then-end-piece-clause-takes : goal.returns-then-end-piece-clause-takes
returns-then-end-piece-clause-takes c =
    line_goes_on c.loop-at.invariant _ _ _ c.end_of-end.ensures c.keep_more-n.ensures c.if-end-piece.true

pub loop-at-preserved : goal.loop-at-preserved
loop-at-preserved c =
    let h : c.end_of-end.result < length c.args.piece.now = omega arith in
    line_ends c.loop-at.invariant _ _ _ c.end_of-end.ensures c.keep_more-n.ensures _ _ _ _ h c.reply_to.ensures.at_hand c.reply_to.ensures.left

pub returns-clause-takes : goal.returns-clause-takes
returns-clause-takes c = piece_done c.loop-at.invariant c.loop-at-test.false
