-- The bytes to come, laid over the output as it is, give what all of them laid over the old one give.
use mathlib.Core.Path.{◌≡◌, sym, ◌∙◌, refl}
use mathlib.Core.List.{[], ◌∷◌}
use Prim.Native.Nat.{◌<◌, ◌+◌}
use native.Mathlib.Omega.{arith}
use lib.ListN.{length, get_or, drop}
use lib.ListN.{length-set, drop_of_length-le}
use lib.Seq.{drop-cons}
use native.Mathlib.Numerals.{add-one}
use native.Mathlib.Nat.{add-zero}
use Rattle.ground.proofs.Laid.{laid_nil, laid_cons}
use Rattle.ground.proofs.copy_in.Goals as goal

pub loop-i-init : goal.loop-i-init
loop-i-init c = (c.requires, refl, rw add-zero)

pub loop-i-preserved : goal.loop-i-preserved
loop-i-preserved c =
    let bs = c.args.bytes.now in
    let i = c.loop-i.i in
    let at = c.args.at in
    let out = c.loop-i.out in
    let h : i < length bs = omega arith in
    let e : at + (i + 1) ≡ at + i + 1 = omega arith in
    let d : drop i bs ≡ get_or bs i 0 ∷ drop (i + 1) bs = rw (add-one, drop-cons bs i 0 h) in (
      omega arith,
      rw length-set (omega arith),
      rw (e, laid_cons out (at + i) (get_or bs i 0) (drop (i + 1) bs), ← d)
          c.loop-i.invariant.2,
    )

pub shape_of-out : goal.shape_of-out
shape_of-out c = c.loop-i.invariant.1

pub returns : goal.returns
returns c = let bs = c.args.bytes.now in
    let e : drop c.loop-i.i bs ≡ [] = drop_of_length-le bs (omega arith) in
    sym (laid_nil _ _) ∙ (rw e at c.loop-i.invariant.2)
