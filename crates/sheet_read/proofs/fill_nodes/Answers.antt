-- The kits to come, entered in the table as it is, make the whole; good, with room and in listing order, each goes behind the one before.
use Rattle.sheet.specs.Sheet.{bytes_of}
use mathlib.Core.Path.{refl, ap, ◌∙◌}
use mathlib.Core.List.{List}
use Prim.Native.Nat.{ℕ}
use native.Mathlib.Omega.{arith}
use Rattle.index_insert.specs.Enter.{enter_all}
use Rattle.sheet.proofs.Places.{size_at}
use Rattle.sheet_read.specs.Inner.{kits_read}
use Rattle.sheet_read.proofs.Kits.{filling_start, filling_end, filling_on, record_whole, units_short, may_append}
use Rattle.sheet_read.proofs.fill_nodes.Goals as goal

pub loop-k-init : goal.loop-k-init
loop-k-init c =
    (filling_start c.requires c.clear_nodes.ensures c.no_row-prev.ensures, refl)

pub row_in-row-requires : goal.row_in-row-requires
row_in-row-requires c =
    let F = c.loop-k.invariant.0 in
    record {
      whole = record_whole F (omega arith);
      short = units_short F (omega arith);
    }

pub two_at-requires : goal.two_at-requires
two_at-requires c =
    omega (arith, record_whole c.loop-k.invariant.0 (omega arith))

pub append_row-n-requires : goal.append_row-n-requires
append_row-n-requires c =
    let it = may_append c.loop-k.invariant.0 (omega arith) c.row_in-row.result c.row_in-row.ensures
    c.two_at.result c.two_at.ensures in
    record { fact_1 = it.0; fact_2 = it.1 }

pub record_size-at-requires : goal.record_size-at-requires
record_size-at-requires c = omega (arith, record_whole c.loop-k.invariant.0 (omega arith))

pub overflow_add-at : goal.overflow_add-at
overflow_add-at c =
    omega (
      arith,
      c.record_size-at.ensures,
      record_whole c.loop-k.invariant.0 (omega arith),
      size_at (bytes_of c.args.w) c.args.s.now c.loop-k.at,
    )

pub loop-k-preserved : goal.loop-k-preserved
loop-k-preserved c = (
  filling_on c.loop-k.invariant.0 (omega arith) c.row_in-row.result c.row_in-row.ensures
      c.two_at.result c.two_at.ensures c.append_row-n.ensures.fact_1
      c.append_row-n.ensures.fact_2 c.record_size-at.result c.record_size-at.ensures,
  c.append_row-n.auto.nodes ∙ c.loop-k.invariant.1,
)

pub returns : goal.returns
returns c =
    filling_end c.loop-k.invariant.0 (omega arith) ∙ ap
    (λ (N : List ℕ). enter_all N (kits_read (bytes_of c.args.w) c.args.s.now c.args.from c.args.m))
    c.clear_nodes.ensures
