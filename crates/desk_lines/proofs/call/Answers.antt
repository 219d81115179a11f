-- Each letter has its call, and its promise; a question leaves the tables.
use Rattle.desk_text.specs.declared.Letter.TheVariants as v
use Rattle.desk_text.proofs.Letters.{byte_apart}
use Rattle.questions.specs.Questions.{is_within}
use Rattle.desk_lines.specs.Desk.{call_of}
use Rattle.desk_lines.proofs.Answering.{finding_keeps, any_keeps, call_containing}
use Rattle.desk_lines.proofs.call.Goals as goal

pub returns-in-Inserts : goal.returns-in-Inserts
unfolding call_of
returns-in-Inserts c = rw c.in-Inserts.is c.insert.ensures

pub returns-in-Finds : goal.returns-in-Finds
unfolding call_of
returns-in-Finds c = rw c.in-Finds.is (finding_keeps _ _ _ c.find.ensures)

pub returns-in-Deletes : goal.returns-in-Deletes
unfolding call_of
returns-in-Deletes c = rw c.in-Deletes.is c.delete.ensures

pub returns-in-AnyWithin : goal.returns-in-AnyWithin
unfolding call_of
returns-in-AnyWithin c = rw c.in-AnyWithin.is (any_keeps is_within _ _ _ c.any.ensures)

pub returns-in_default : goal.returns-in_default
returns-in_default c =
    let n = c.in_default in
    let x = c.args.letter in
    call_containing _ _ _ _ _
    (byte_apart x v.Inserts n.not-Inserts) (byte_apart x v.Finds n.not-Finds) (byte_apart x v.Deletes n.not-Deletes) (byte_apart x v.AnyWithin n.not-AnyWithin)
    c.any-in_default.ensures
