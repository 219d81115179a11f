-- Demand 1, and what the promises pin: of every call.
use Rattle.ground.proofs.Calls as calls
use Rattle.catalogue.specs.Calls.{plan_of}
use Rattle.demands.specs.Demand1.{RefusedExactly, RefusalKeeps, RefusalKeepsOutput, setting_down}
use Rattle.demands.specs.Pins.{TablesPinned, OutputPinned}

pub refused_exactly : RefusedExactly
refused_exactly c T n v = calls.refused_exactly (plan_of c T) n v

pub refusal_keeps : RefusalKeeps
refusal_keeps c T n v e = calls.refusal_keeps (plan_of c T) T n v e

pub refusal_keeps_output : RefusalKeepsOutput
refusal_keeps_output x T o n v e = calls.refusal_keeps (setting_down x T o) o n v e

pub tables_pinned : TablesPinned
tables_pinned c T U W r s p q = calls.pinned p q

pub output_pinned : OutputPinned
output_pinned x T o p q r s a b = calls.pinned a b
