-- The bytes counted and those of the slots to come are all; at most 25 for each slot passed bound the sum.
use mathlib.Core.Path.{◌≡◌, ap}
use Prim.Native.Nat.{◌+◌, ◌-◌}
use native.Mathlib.Omega.{arith}
use lib.ListN.{length, length-append}
use Rattle.register.specs.Register.{number_at}
use Rattle.sheet.specs.Sheet.{number_item}
use Rattle.sheet_write.specs.Inner.{numbers_from}
use Rattle.sheet_write.proofs.Records.{numbers_step, numbers_end, number_size}
use Rattle.sheet_write.proofs.numbers_size.Goals as goal

pub loop-k-preserved : goal.loop-k-preserved
loop-k-preserved c =
    let R = c.args.reg.now in
    let k = c.loop-k.k in
    let n = c.args.n in
    let s = ap length (numbers_step R n k (omega arith)) in
    let a = length-append (number_item (number_at R k)) (numbers_from R (k + 1) (n - (k + 1))) in
    let z = number_size (number_at R k) in
    let e : length c.number_at.result.now ≡ length (number_at R k) = ap length c.number_at.ensures.fact_2 in
    (omega arith, omega (arith, c.number_at.ensures.fact_3))

pub returns-clause-size : goal.returns-clause-size
returns-clause-size c =
    omega (arith, ap length (numbers_end c.args.reg.now c.args.n c.loop-k.k (omega arith)))
