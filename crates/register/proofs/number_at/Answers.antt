-- A length byte of at most 24 keeps the number inside its 32 bytes: the bytes behind it are the number of the slot.
use mathlib.Core.Path.{◌≡◌, sym}
use Prim.Native.Nat.{◌-◌, ◌+◌, ◌*◌}
use native.Mathlib.Omega.{arith}
use Rattle.register.proofs.Slots.{number_read}
use Rattle.register.proofs.number_at.Goals as goal

pub returns-clause-fact_2 : goal.returns-clause-fact_2
returns-clause-fact_2 c =
    let start = c.args.k * 32 + 1 in
    let n = c.length_at.result in
    let e : start + n - start ≡ n = omega arith in
    rw (e, c.length_at.ensures.fact_1) (sym (number_read c.args.reg.now c.args.k c.requires.fact_2))
