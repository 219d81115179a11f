-- The numbers of the slots to come, laid behind those down, make the numbers of all n.
use mathlib.Core.Path.{◌≡◌}
use mathlib.Core.List.{List, ◌++◌}
use Prim.Native.Nat.{ℕ, ◌+◌, ◌-◌}
use native.Mathlib.Omega.{arith}
use lib.ListN.{length}
use Rattle.ground.proofs.Put.{Rest, rest_same, rest_lent, rest_fits, rest_inside, rest_end}
use Rattle.register.specs.Register.{number_at}
use Rattle.sheet.specs.Sheet.{number_item}
use Rattle.sheet_write.specs.Inner.{numbers_from}
use Rattle.sheet_write.proofs.Records.{numbers_step, numbers_end}
use Rattle.sheet_write.proofs.put_numbers.Goals as goal
use Rattle.sheet_write.proofs.put_numbers.Goals.{After-slice_known-in-loop-k-1, In-loop-k}

-- slot k's number is to come first, and those behind it
abbrev item : List ℕ → ℕ → List ℕ
item R k = number_item (number_at R k)

abbrev behind : List ℕ → ℕ → ℕ → List ℕ
behind R n k = numbers_from R (k + 1) (n - (k + 1))

going : (c : In-loop-k) →
    Rest c.args.out.now 0 (numbers_from c.args.reg.now 0 c.args.n) c.loop-k.out c.loop-k.at
    (item c.args.reg.now c.loop-k.k ++ behind c.args.reg.now c.args.n c.loop-k.k)
going c = rest_same c.loop-k.invariant (numbers_step c.args.reg.now c.args.n c.loop-k.k (omega arith))

ends : (c : After-slice_known-in-loop-k-1) →
    c.put_number-at.result ≡ length (item c.args.reg.now c.loop-k.k)
ends c = rw (← c.number_at.ensures.fact_2) (omega (arith, c.put_number-at.ensures.behind))

pub put_number-at-requires : goal.put_number-at-requires
put_number-at-requires c =
    (c.number_at.ensures.fact_3, rw c.number_at.ensures.fact_2 (rest_fits _ _ (going (goal.at.put_number-at-requires c).In-loop-k)))

pub overflow_add-at : goal.overflow_add-at
overflow_add-at c =
    let t = going (goal.at.overflow_add-at c).In-loop-k in
    omega (arith, rest_inside (item c.args.reg.now c.loop-k.k) (behind c.args.reg.now c.args.n c.loop-k.k) t, t.size, ends c)

pub loop-k-preserved : goal.loop-k-preserved
loop-k-preserved c =
    rest_lent (item c.args.reg.now c.loop-k.k) (behind c.args.reg.now c.args.n c.loop-k.k) (going (goal.at.loop-k-preserved c).In-loop-k)
    {last = c.put_number-at.new.out}
    (rw (← c.number_at.ensures.fact_2) c.put_number-at.ensures)

pub returns : goal.returns
returns c =
    rest_end c.loop-k.invariant
    (numbers_end c.args.reg.now c.args.n c.loop-k.k (omega arith))
