-- The tables are all zeros, nothing is kept of a line, and the output has room for every reply.
use Rattle.desk.proofs.Serving.{keeps_none, room_enough}
use Rattle.desk.proofs.Empty.{begun_tables}
use Rattle.desk.proofs.main.Goals as goal

pub serve-requires : goal.serve-requires
serve-requires c =
    record {
      keeps = keeps_none _ c.line_room-kept.ensures;
      begun = begun_tables _ _ c.empty_register.ensures.1 c.empty_nodes.ensures.1;
      room = room_enough _ _ _ c.output_places.ensures c.sheet_room.ensures c.reply_room-out.ensures;
    }
