-- No kit held is of more than 64 units, so a longer list is not held; any other is deleted by its row.
use mathlib.Core.Path.{refl, sym, ◌∙◌}
use Prim.Native.Nat.{◌≤◌}
use lib.ListN.{length}
use borrow.Author.Tests.{leb-true}
use Rattle.kits.specs.Kits.{most_units, units}
use Rattle.answers.proofs.Answers.{refuses, handed_reply}
use Rattle.tables.proofs.Lent.{lent_sound, lines_asked}
use Rattle.catalogue.proofs.Answers.{row_units, row_short_lem, delete_refused, delete_long, delete_done}
use Rattle.catalogue.proofs.sound.delete.Goals as goal
use Rattle.catalogue.proofs.sound.delete.Goals.{Else-not-has_room}

pub returns-in_err-check_lines : goal.returns-in_err-check_lines
returns-in_err-check_lines c =
    let a = c.args in
    let asked = lines_asked _ _ _ c.requires _ c.in_err-check_lines.ensures in
    rw (handed_reply _ _ c.from_residual.ensures.1)
    (delete_refused a.reg.now a.nodes.now a.list.now _ asked (refuses c.in_err-check_lines.field-0.0))

pub returns-then-not-has_room : goal.returns-then-not-has_room
returns-then-not-has_room c =
    let a = c.args in
    let asked = lines_asked _ _ _ c.requires _ c.in_ok-check_lines.ensures in
    delete_long a.reg.now a.nodes.now a.list.now _ asked refl (lent_sound _ _ c.requires)
    (sym c.has_room.ensures ∙ c.if-not-has_room.true)

-- it has room in a row
few : (c : Else-not-has_room) → length (units c.args.list.now) ≤ most_units
few c = leb-true _ _ (sym c.has_room.ensures ∙ c.if-not-has_room.false)

pub row_of-requires : goal.row_of-requires
row_of-requires c = few (goal.at.row_of-requires c).Else-not-has_room

pub delete-requires : goal.delete-requires
delete-requires c = record {
  fact_1 = lent_sound _ _ c.requires;
  fact_2 = row_short_lem _ c.args.list.now c.row_of.ensures (few (goal.at.delete-requires c).Else-not-has_room);
}

pub returns : goal.returns
returns c =
    let a = c.args in
    let asked = lines_asked _ _ _ c.requires _ c.in_ok-check_lines.ensures in
    delete_done a.reg.now a.nodes.now a.list.now _ asked _ _ _ refl (row_units _ a.list.now c.row_of.ensures) c.delete.ensures
