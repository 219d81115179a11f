use Rattle.sheet.specs.Sheet.{bytes_of}
use Rattle.sheet_judge.proofs.Walk.{Judging}
use Rattle.sheet_judge.proofs.judge_records.Given as goal

abbrev pub invariant-loop-kept : goal.invariant-loop-kept
invariant-loop-kept l = Judging (bytes_of l.w) l.s l.from l.parts l.n l.tags l.prev l.nodes l.end l.kept
