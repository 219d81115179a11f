-- The table has the last number of this hash: from there back, those of the hash decide. Then this number is the last.
use mathlib.Core.Path.{◌≡◌, refl, ◌∙◌, ap}
use native.Mathlib.Omega.{arith}
use Rattle.repeats.specs.Inner.{entry_of, hash_of}
use Rattle.repeats.proofs.Repeats.{entry_read, inside_fewer, starts_low, starts_back, starts_has, starts_tell, hashed_on}
use Rattle.repeats.proofs.repeats_earlier.Goals as goal
use Rattle.repeats.proofs.repeats_earlier.Goals.{After-number_here-num}

-- the number read is the k-th
read : (c : After-number_here-num) →
    c.number_here-num.result.now ≡ entry_of c.args.s.now c.args.at.now c.args.k
read c = c.number_here-num.ensures ∙ entry_read c.args.s.now c.args.at.now c.args.k

pub number_here-num-requires : goal.number_here-num-requires
number_here-num-requires c = c.requires.fact_1.inside c.args.k (omega arith)

pub is_among-again-requires : goal.is_among-again-requires
is_among-again-requires c =
    let f = entry_of c.args.s.now c.args.at.now in
    let k = c.args.k in
    let T = c.requires.fact_2 in
    let is = c.hash-h.ensures.value in
    let low = c.hash-h.ensures.bounded in
    let last = c.from.ensures in
    record {
      inside = inside_fewer c.requires.fact_1 (omega (arith, starts_low f _ _ k _ _ _ T is low last));
      leads = starts_back f _ _ k _ _ _ T is low last;
      last = starts_has f _ _ k _ _ _ T is low last;
    }

pub returns : goal.returns
returns c =
    let f = entry_of c.args.s.now c.args.at.now in
    let k = c.args.k in
    let T = c.requires.fact_2 in
    let is = c.hash-h.ensures.value in
    let low = c.hash-h.ensures.bounded in
    let num = read (goal.at.returns c).After-number_here-num in
    record {
      fact_1 = starts_tell f _ _ k _ _ _ T is low c.from.ensures _ c.is_among-again.ensures num;
      fact_2 = hashed_on f _ _ k _ _ T (omega (arith, c.requires.fact_1.few)) (is ∙ ap hash_of num) low refl;
    }
