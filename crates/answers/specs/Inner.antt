-- Inner: no promise of the house rests on what stands here; inner contracts and proofs speak by it.
-- A reply as a program holds it, and the reply of document 01 that it stands for.
use Rattle.std.specs.Prelude.{◌≡◌}
use Rattle.ground.specs.Calls as paper
use Rattle.ground.specs.Calls.{number_of, value_of}
use Rattle.answers.specs.declared.Reply.{Reply}

pub record Means (r : Reply) (p : paper.Reply) : Type 0 where
  pub number : r.number ≡ number_of p
  pub value : r.value ≡ value_of p
