-- The rest entered over what is entered is the whole entered over zeros; places rise, so no entry is set twice
use Rattle.std.proofs.Common.{ℕ, ◌+◌, sym, ◌∙◌, ◌≡◌, length-set, rules, arith}
use Rattle.std.proofs.lemmas.List.{length-replicate}
use Rattle.std.specs.Slice.Iter.{chunks_exact_rest}
use Rattle.kits.specs.Kits.{most_place}
use Rattle.kits.proofs.Lists.{line_first}
use Rattle.kits.proofs.Good.{good_lines_lem, good_first, good_wider}
use Rattle.kits.proofs.Quantities.{entered_first, entered_short, entered_all}
use Rattle.kits.proofs.set_quantities.Goals as goal

pub loop-line-init : goal.loop-line-init
loop-line-init c =
    let zeros = c.requires.fact_2 in
    let all : chunks_exact_rest c.into_iter-line-iterator.result ≡ c.args.list.now = cc in (
      search rules,
      rw zeros (length-replicate {A = ℕ} (most_place + 1) 0),
      rw all (good_lines_lem most_place c.args.list.now c.requires.fact_1),
      rw (all, zeros),
    )

pub bounds-amounts-from : goal.bounds-amounts-from
bounds-amounts-from c =
    let i = c.loop-line.invariant in
    let g = good_first (rw (line_first _ _ _ _ i.0 c.in-Some.ensures.steps.1) at i.2) in
    omega arith

pub loop-line-preserved : goal.loop-line-preserved
loop-line-preserved c =
    let i = c.loop-line.invariant in
    let s = c.in-Some.ensures.steps in
    let first = line_first _ _ _ _ i.0 s.1 in
    let g = good_first (rw first at i.2) in (
      s.0 ∙ i.0,
      rw length-set i.1,
      good_wider (omega arith) (omega arith) g.1,
      rw c.from.ensures (sym (entered_first c.loop-line.amounts _ _ _ first) ∙ i.3),
    )

pub returns : goal.returns
returns c =
    let l = c.args.list.now in
    let s = c.in-None.ensures.steps in
    sym (entered_short c.loop-line.amounts (chunks_exact_rest c.loop-line.line-iterator) (omega arith)) ∙ c.loop-line.invariant.3 ∙ entered_all l
    (good_lines_lem most_place l c.requires.fact_1)
