-- The chunks keep their size, so each goes through the buffer.
use Rattle.std.proofs.Common.{◌≡◌}
use Rattle.probe.proofs.reading.fill_words.Given as goal

abbrev pub invariant-loop-words : goal.invariant-loop-words
invariant-loop-words l = l.words-iterator.size ≡ 2048
