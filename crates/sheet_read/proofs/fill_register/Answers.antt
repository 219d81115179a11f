-- The register has the numbers passed and zeros behind; the next number stands where the last ends.
use Rattle.sheet_read.proofs.Slots.{entering_start, entering_on}
use Rattle.sheet_read.proofs.fill_register.Goals as goal

pub loop-k-init : goal.loop-k-init
loop-k-init c = search entering_start

pub loop-k-preserved : goal.loop-k-preserved
loop-k-preserved c = search entering_on
