-- None of the numbers passed on the way back is this one; those of its hash that are left decide for all.
use mathlib.Core.Path.{◌≡◌, ap, refl, sym, ◌∙◌}
use Prim.Native.Nat.{◌-◌}
use native.Mathlib.Omega.{arith}
use Rattle.ground.specs.Lists.{eq_list}
use Rattle.repeats.specs.Inner.{entry_of, hash_of, last_hashed}
use Rattle.repeats.proofs.Repeats.{entry_read, last_hashed_le, back_end, back_found, back_on}
use Rattle.repeats.proofs.is_among.Goals as goal
use Rattle.repeats.proofs.is_among.Goals.{After-same, After-from-k}

-- what the comparison tells, and where the number leads back to
told : (c : After-same) →
    c.same.result ≡ eq_list c.args.num.now (entry_of c.args.s.now c.args.at.now (c.loop-k.k - 1))
told c =
    c.same.ensures
    ∙ ap (eq_list c.args.num.now)
    (c.number_here.ensures ∙ entry_read c.args.s.now c.args.at.now (c.loop-k.k - 1))

leads : (c : After-from-k) →
    let f = entry_of c.args.s.now c.args.at.now in
    c.from-k.result ≡ last_hashed f (hash_of (f (c.loop-k.k - 1))) (c.loop-k.k - 1)
leads c =
    c.from-k.ensures
    ∙ c.loop-k.invariant.1.leads (c.loop-k.k - 1)
    (omega (arith, c.loop-k.invariant.2.low))

pub loop-k-init : goal.loop-k-init
loop-k-init c =
    (c.requires.inside, c.requires.leads, record { low = omega arith; has = c.requires.last; rest = refl })

pub number_here-requires : goal.number_here-requires
number_here-requires c =
    c.loop-k.invariant.0.inside (c.loop-k.k - 1) (omega (arith, c.loop-k.invariant.2.low))

pub returns-then-same : goal.returns-then-same
returns-then-same c =
    let tells = told (goal.at.returns-then-same c).After-same in
    sym (back_found _ _ _ _ c.loop-k.invariant.2 _ refl (omega arith) (sym tells ∙ c.if-same.true))

pub loop-k-smaller : goal.loop-k-smaller
loop-k-smaller c =
    let f = entry_of c.args.s.now c.args.at.now in
    let j = c.loop-k.k - 1 in
    omega (arith, leads c, last_hashed_le f (hash_of (f j)) j)

pub loop-k-preserved : goal.loop-k-preserved
loop-k-preserved c =
    let tells = told (goal.at.loop-k-preserved c).After-same in (
      c.loop-k.invariant.0,
      c.loop-k.invariant.1,
      back_on _ _ _ _ c.loop-k.invariant.2 _ refl (omega arith) (sym tells ∙ c.if-same.false) _ (leads c),
    )

pub returns : goal.returns
returns c = sym (back_end _ _ _ _ c.loop-k.invariant.2 (omega arith))
