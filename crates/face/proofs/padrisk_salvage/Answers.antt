-- Salvage, its report and both tables afterwards, as the call promises them; a sheet of bytes keeps all three numbers small.
use native.Mathlib.Omega.{arith}
use Rattle.face.proofs.Face.{rescue_small, rescue_crossed}
use Rattle.face.proofs.padrisk_salvage.Goals as goal

pub hand_report-requires : goal.hand_report-requires
hand_report-requires c =
    rescue_small (λ i. omega (arith, c.type_inv.sheet i)) c.salvage.ensures

pub returns : goal.returns
returns c =
    rescue_crossed c.salvage.ensures c.hand_report.ensures.fact_1 c.hand_report.ensures.fact_2
