-- A number of more digits is a tenth of it, which is less, and one digit behind; below 10 it is that digit.
use mathlib.Core.Path.{◌≡◌, ap}
use mathlib.Core.List.{[], ◌∷◌, ◌++◌}
use Prim.Native.Nat.{◌/◌}
use native.Mathlib.Omega.{arith}
use lib.ListN.{length}
use Rattle.desk_replies.specs.Replies.{decimal}
use Rattle.ground.proofs.Put.{put_same, put_put, put_length}
use Rattle.desk_replies.proofs.Replies.{decimal_one, decimal_more, decimal_length}
use Rattle.desk_replies.proofs.+put_decimal.Goals as goal

pub digit-requires : goal.digit-requires
digit-requires t c = c.if-n-lt10.true

pub put_byte-requires : goal.put_byte-requires
put_byte-requires t c =
    omega (arith, ap length (decimal_one c.args.n c.if-n-lt10.true), c.requires)

pub returns-then-n-lt10 : goal.returns-then-n-lt10
returns-then-n-lt10 t c =
    put_same c.put_byte.ensures (cc (decimal_one c.args.n c.if-n-lt10.true))

pub put_decimal-last-requires : goal.put_decimal-last-requires
put_decimal-last-requires t c =
    (omega (arith, c.decreases), omega (arith, decimal_length c.args.n c.if-n-lt10.false, c.requires))

pub put_byte-requires-2 : goal.put_byte-requires-2
put_byte-requires-2 t c =
    let d = decimal_length c.args.n c.if-n-lt10.false in
    omega (arith, d, put_length c.put_decimal-last.ensures, c.put_decimal-last.ensures.behind, c.requires)

pub returns : goal.returns
returns t c =
    let n = c.args.n in
    let e : decimal (n / 10) ++ (c.digit-2.result ∷ []) ≡ decimal n = cc (decimal_more n c.if-n-lt10.false) in
    put_same (put_put c.put_decimal-last.ensures c.put_byte-2.ensures) e
