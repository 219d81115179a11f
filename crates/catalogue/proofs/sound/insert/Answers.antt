-- Tag, lines, units, in the paper's order: past all three the row is good, and its promise is the call's.
use mathlib.Core.Path.{◌≡◌, refl, sym, ◌∙◌}
use mathlib.Core.Logic.{⊎_elim}
use Prim.Native.Nat.{◌≤◌}
use lib.ListN.{length}
use borrow.Author.Tests.{leb-true}
use Rattle.ground.specs.Calls.{done, decide}
use Rattle.ground.specs.Tables.{tables}
use Rattle.kits.specs.Kits.{most_units, units}
use Rattle.nodes.proofs.Lists.{zero_or}
use Rattle.answers.proofs.Answers.{refuses, handed_reply}
use Rattle.tables.specs.Lent.{lent_both}
use Rattle.tables.proofs.Lent.{lent_sound, sound_passes, lines_passed}
use Rattle.catalogue.proofs.Answers.{row_units, row_short_lem, row_good, insert_no_tag, insert_mistyped, insert_too_many, insert_done}
use Rattle.catalogue.proofs.sound.insert.Goals as goal
use Rattle.catalogue.proofs.sound.insert.Goals.{Else-not-has_room, Start}

-- the tables pass
passes : (c : Start) → done 0 ≡ decide (lent_both (tables c.args.reg.now c.args.nodes.now)) 0
passes c = sym (sound_passes _ _ c.requires)

pub returns-then-tag-eq0 : goal.returns-then-tag-eq0
returns-then-tag-eq0 c =
    let a = c.args in
    insert_no_tag a.reg.now a.nodes.now a.list.now a.tag _ (passes (goal.at.returns-then-tag-eq0 c).Start) refl c.if-tag-eq0.true

pub returns-in_err-check_lines : goal.returns-in_err-check_lines
returns-in_err-check_lines c =
    let a = c.args in
    let lent = passes (goal.at.returns-in_err-check_lines c).Start in
    rw (handed_reply _ _ c.from_residual.ensures.1)
    (insert_mistyped a.reg.now a.nodes.now a.list.now a.tag _ lent refl c.if-tag-eq0.false _ c.in_err-check_lines.ensures
    (refuses c.in_err-check_lines.field-0.0))

pub returns-then-not-has_room : goal.returns-then-not-has_room
returns-then-not-has_room c =
    let a = c.args in
    let lent = passes (goal.at.returns-then-not-has_room c).Start in
    insert_too_many a.reg.now a.nodes.now a.list.now a.tag _ lent refl c.if-tag-eq0.false _ c.in_ok-check_lines.ensures
    refl (sym c.has_room.ensures ∙ c.if-not-has_room.true)

-- it has room in a row
few : (c : Else-not-has_room) → length (units c.args.list.now) ≤ most_units
few c = leb-true _ _ (sym c.has_room.ensures ∙ c.if-not-has_room.false)

pub row_of-requires : goal.row_of-requires
row_of-requires c = few (goal.at.row_of-requires c).Else-not-has_room

pub insert-requires : goal.insert-requires
insert-requires c =
    let l = c.args.list.now in
    let short = few (goal.at.insert-requires c).Else-not-has_room in
    record {
      fact_1 = lent_sound _ _ c.requires;
      fact_2 = row_short_lem _ l c.row_of.ensures short;
      fact_3 = row_good _ l c.row_of.ensures (lines_passed _ _ _ c.requires c.in_ok-check_lines.ensures) short;
      fact_4 = ⊎_elim (λ z. absurd (c.if-tag-eq0.false z)) (λ h. h) (zero_or _);
    }

pub returns : goal.returns
returns c =
    let a = c.args in
    let lent = passes (goal.at.returns c).Start in
    insert_done a.reg.now a.nodes.now a.list.now a.tag _ lent refl c.if-tag-eq0.false _ c.in_ok-check_lines.ensures
    refl _ _ _ (sym c.has_room.ensures ∙ c.if-not-has_room.false) (row_units _ a.list.now c.row_of.ensures) c.insert.ensures
