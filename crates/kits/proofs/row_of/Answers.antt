-- row_of: the units of the rest laid behind what is laid are the units of the whole
use Rattle.std.proofs.Common.{◌≡◌, ap, sym, ◌∙◌, refl, ◌+◌, [], length, get_or, replicate, rules, arith}
use Rattle.std.proofs.lemmas.List.{length-replicate}
use Rattle.std.specs.Slice.Iter.{chunks_exact_rest}
use Rattle.ground.proofs.Laid.{laid_nil, laid_laid, length_laid}
use Rattle.kits.specs.Kits.{units, fixed_row}
use Rattle.kits.proofs.Lists.{units_first, count_first, units_short, laid_zeros}
use Rattle.kits.proofs.row_of.Goals as goal

pub loop-line-init : goal.loop-line-init
loop-line-init c =
    let all : chunks_exact_rest c.into_iter-line-iterator.result ≡ c.args.list.now = cc in
    (search rules, refl, rw all (omega arith), rw all (laid_zeros _ c.requires))

pub put_line-row-requires : goal.put_line-row-requires
put_line-row-requires c = omega (arith, count_first _ _ _ _ c.loop-line.invariant.0 c.in-Some.ensures.steps.1)

pub loop-line-preserved : goal.loop-line-preserved
loop-line-preserved c =
    let s = c.in-Some.ensures.steps in
    let two = c.loop-line.invariant.0 in
    let row = c.loop-line.row in
    let p = get_or c.in-Some.line.now 0 0 in
    let q = get_or c.in-Some.line.now 1 0 in
    let line = replicate q p in
    let n = count_first _ _ _ _ two s.1 in
    let e : c.put_line-row.result.len ≡ row.len + length line = omega (arith, length-replicate q p) in (
      s.0 ∙ two,
      ap length c.put_line-row.ensures.0 ∙ length_laid row.places row.len line ∙ c.loop-line.invariant.1,
      omega arith,
      rw (c.put_line-row.ensures.0, e, laid_laid row.places row.len line _, ← units_first _ _ _ _ two s.1) c.loop-line.invariant.3,
    )

pub returns : goal.returns
returns c =
    let s = c.in-None.ensures.steps in
    let row = c.loop-line.row in
    let u : units (chunks_exact_rest c.loop-line.line-iterator) ≡ [] = units_short _ (omega arith) in
    let p : row.places ≡ (fixed_row (units c.args.list.now)).places = sym (laid_nil _ _) ∙ rw u at c.loop-line.invariant.3 in
    let n : row.len ≡ length (units c.args.list.now) = omega (arith, ap length u) in
    λ t. record { places = p t; len = n t }
