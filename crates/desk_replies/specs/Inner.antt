-- Inner: no promise of the house rests on what stands here; inner contracts and proofs speak by it.
-- Room for a reply.
use Rattle.std.specs.Prelude.{ℕ}

-- a letter, two spaces and two numbers below 2^64, of at most twenty digits each
abbrev pub head_room : ℕ
head_room = 43

-- a space and the five digits of a tag
abbrev pub tag_room : ℕ
tag_room = 6
