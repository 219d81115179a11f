use Prim.Native.Nat.{◌<◌}
use Rattle.ground.specs.Limits.{byte_limit}
use Rattle.card_judge.proofs.Walk.{Judging}
use Rattle.card_judge.proofs.judge_lines.Given as goal

abbrev pub invariant-loop-k : goal.invariant-loop-k
invariant-loop-k l = (l.card.lines < byte_limit) × Judging l.s l.card l.units l.prev l.at l._k
