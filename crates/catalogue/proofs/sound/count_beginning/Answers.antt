-- No kit held is of more than 64 units, so none begins with a longer list; any other is counted by its row.
use mathlib.Core.Path.{refl, sym, ◌∙◌}
use Prim.Native.Nat.{◌≤◌}
use lib.ListN.{length}
use borrow.Author.Tests.{leb-true}
use Rattle.kits.specs.Kits.{most_units, units}
use Rattle.answers.proofs.Answers.{refuses, handed_reply}
use Rattle.tables.proofs.Lent.{lent_sound, lines_asked}
use Rattle.catalogue.proofs.Answers.{row_units, row_short_lem, count_refused, count_too_long, count_done}
use Rattle.catalogue.proofs.sound.count_beginning.Goals as goal
use Rattle.catalogue.proofs.sound.count_beginning.Goals.{Else-not-has_room}

pub returns-in_err-check_lines : goal.returns-in_err-check_lines
returns-in_err-check_lines c =
    let a = c.args in
    let asked = lines_asked _ _ _ c.requires _ c.in_err-check_lines.ensures in
    rw (handed_reply _ _ c.from_residual.ensures.1)
    (count_refused a.reg.now a.nodes.now a.list.now _ asked (refuses c.in_err-check_lines.field-0.0))

pub returns-then-not-has_room : goal.returns-then-not-has_room
returns-then-not-has_room c =
    let a = c.args in
    let asked = lines_asked _ _ _ c.requires _ c.in_ok-check_lines.ensures in
    count_too_long a.reg.now a.nodes.now a.list.now _ asked refl (lent_sound _ _ c.requires)
    (sym c.has_room.ensures ∙ c.if-not-has_room.true)

-- it has room in a row
few : (c : Else-not-has_room) → length (units c.args.list.now) ≤ most_units
few c = leb-true _ _ (sym c.has_room.ensures ∙ c.if-not-has_room.false)

pub row_of-requires : goal.row_of-requires
row_of-requires c = few (goal.at.row_of-requires c).Else-not-has_room

pub count-requires : goal.count-requires
count-requires c = record {
  fact_1 = lent_sound _ _ c.requires;
  fact_2 = row_short_lem _ c.args.list.now c.row_of.ensures (few (goal.at.count-requires c).Else-not-has_room);
}

pub returns : goal.returns
returns c =
    let a = c.args in
    let asked = lines_asked _ _ _ c.requires _ c.in_ok-check_lines.ensures in
    count_done a.reg.now a.nodes.now a.list.now _ asked _ _ refl (row_units _ a.list.now c.row_of.ensures) c.count.ensures
