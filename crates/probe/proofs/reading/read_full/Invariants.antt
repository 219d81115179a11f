-- Each read gives a byte at least until the input ends or a read fails, so what is left of the buffer falls.
use Rattle.std.proofs.Common.{◌≤◌, ◌-◌, length}
use Rattle.probe.proofs.reading.read_full.Given as goal

abbrev pub invariant-loop-done : goal.invariant-loop-done
invariant-loop-done l = l.done ≤ length l.buf

abbrev pub decreases-loop-done : goal.decreases-loop-done
decreases-loop-done l = length l.initial.buf - l.done
