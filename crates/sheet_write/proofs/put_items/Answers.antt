-- The sheet is head, numbers, kit count and records; each is set down in the rest behind the last.
use mathlib.Core.Path.{◌≡◌, ap}
use mathlib.Core.List.{List, ◌++◌}
use Prim.Native.Nat.{ℕ, ◌+◌}
use native.Mathlib.Omega.{arith}
use Rattle.ground.specs.Laid.{Put}
use Rattle.ground.proofs.Put.{Rest, rest_behind, rest_lent, rest_fits, rest_inside, last_fits, last_lent, first_fits, tail_of, back, put_same}
use Rattle.register.proofs.Sound.{ready_short}
use Rattle.sheet.specs.Bytes.{two}
use Rattle.sheet.specs.Sheet.{place_bytes, encode, contents_of}
use Rattle.sheet.specs.declared.Sheet.{Sheet}
use Rattle.sheet.proofs.Numbers.{two_length}
use Rattle.sheet_write.specs.Inner.{head_items, numbers_from, all_records}
use Rattle.sheet_write.proofs.Whole.{sheet_items}
use Rattle.sheet_write.proofs.put_items.Goals as goal
use Rattle.sheet_write.proofs.put_items.Goals.{After-slice_known-2-1, After-slice_known-3-1, After-slice_known-4-1, After-slice_known-5-1, Start}

-- what is to come behind the kit count, behind the numbers, and behind the head
abbrev records : List ℕ → Sheet → List ℕ
records N s = all_records (place_bytes s.parts) N

abbrev behind_numbers : List ℕ → Sheet → List ℕ
behind_numbers N s = two s.kits ++ records N s

abbrev behind_head : List ℕ → List ℕ → Sheet → List ℕ
behind_head R N s = numbers_from R 0 s.parts ++ behind_numbers N s

items : (c : Start) → encode (contents_of c.args.reg.now c.args.nodes.now)
    ≡ head_items c.args.sheet.parts ++ behind_head c.args.reg.now c.args.nodes.now c.args.sheet
items c =
    sheet_items c.args.reg.now c.args.nodes.now c.requires.ready c.args.sheet.parts c.args.sheet.kits
    c.requires.counted.parts c.requires.counted.kits c.requires.sound.shape

first : (c : After-slice_known-2-1) →
    Rest c.args.out.now 0 (encode (contents_of c.args.reg.now c.args.nodes.now)) c.put_head-numbers.new.out
    c.put_head-numbers.result (behind_head c.args.reg.now c.args.nodes.now c.args.sheet)
first c = rest_behind _ c.put_head-numbers.ensures (items (goal.at.After-slice_known-2-1 c).Start) c.requires.room

numbers_down : (c : After-slice_known-3-1) →
    Put (tail_of c.put_head-numbers.new.out c.put_head-numbers.result) 0 (numbers_from c.args.reg.now 0 c.args.sheet.parts)
    c.put_numbers.result c.put_numbers.new.out
numbers_down c = put_same c.put_numbers.ensures (ap (numbers_from c.args.reg.now 0) c.from.ensures)

second : (c : After-slice_known-3-1) →
    Rest c.args.out.now 0 (encode (contents_of c.args.reg.now c.args.nodes.now))
    (back c.put_head-numbers.new.out c.put_head-numbers.result c.put_numbers.new.out)
    (c.put_head-numbers.result + c.put_numbers.result) (behind_numbers c.args.nodes.now c.args.sheet)
second c = rest_lent _ _ (first (goal.at.After-slice_known-3-1 c).After-slice_known-2-1) (numbers_down c)

third : (c : After-slice_known-4-1) →
    Rest c.args.out.now 0 (encode (contents_of c.args.reg.now c.args.nodes.now))
    (back (back c.put_head-numbers.new.out c.put_head-numbers.result c.put_numbers.new.out)
    (c.put_head-numbers.result + c.put_numbers.result) c.put_two.new.out)
    (c.put_head-numbers.result + c.put_numbers.result + c.put_two.result) (records c.args.nodes.now c.args.sheet)
third c = rest_lent _ _ (second (goal.at.After-slice_known-4-1 c).After-slice_known-3-1) c.put_two.ensures

records_down : (c : After-slice_known-5-1) →
    Put
    (tail_of (back (back c.put_head-numbers.new.out c.put_head-numbers.result c.put_numbers.new.out)
    (c.put_head-numbers.result + c.put_numbers.result) c.put_two.new.out)
    (c.put_head-numbers.result + c.put_numbers.result + c.put_two.result)) 0 (records c.args.nodes.now c.args.sheet)
    c.put_records.result c.put_records.new.out
records_down c = put_same c.put_records.ensures (ap (λ (w : ℕ). all_records w c.args.nodes.now) c.place_bytes.ensures)

pub put_head-numbers-requires : goal.put_head-numbers-requires
put_head-numbers-requires c = first_fits _ _ _ _ (items (goal.at.put_head-numbers-requires c).Start) c.requires.room

pub slice_bounds-put_numbers-count : goal.slice_bounds-put_numbers-count
slice_bounds-put_numbers-count c =
    omega (arith, rest_inside (numbers_from c.args.reg.now 0 c.args.sheet.parts) (behind_numbers c.args.nodes.now c.args.sheet) (first c))

pub slice_bounds-put_numbers-start : goal.slice_bounds-put_numbers-start
slice_bounds-put_numbers-start c =
    omega (arith, rest_inside (numbers_from c.args.reg.now 0 c.args.sheet.parts) (behind_numbers c.args.nodes.now c.args.sheet) (first c))

pub put_numbers-requires : goal.put_numbers-requires
put_numbers-requires c =
    let e = c.from.ensures in
    record {
      short = rw e (ready_short c.args.reg.now c.requires.ready c.args.sheet.parts c.requires.counted.parts);
      room = rw e (rest_fits _ _ (first (goal.at.put_numbers-requires c).After-slice_known-2-1));
    }

pub overflow_add-count : goal.overflow_add-count
overflow_add-count c =
    let t = first (goal.at.overflow_add-count c).After-slice_known-2-1 in
    let inside = rest_inside (numbers_from c.args.reg.now 0 c.args.sheet.parts) (behind_numbers c.args.nodes.now c.args.sheet) t in
    omega (arith, inside, t.size, (numbers_down c).behind)

pub slice_bounds-put_two-count : goal.slice_bounds-put_two-count
slice_bounds-put_two-count c = omega (arith, rest_inside (two c.args.sheet.kits) (records c.args.nodes.now c.args.sheet) (second c))

pub slice_bounds-put_two-start : goal.slice_bounds-put_two-start
slice_bounds-put_two-start c = omega (arith, rest_inside (two c.args.sheet.kits) (records c.args.nodes.now c.args.sheet) (second c))

pub put_two-requires : goal.put_two-requires
put_two-requires c =
    let t = second (goal.at.put_two-requires c).After-slice_known-3-1 in
    omega (arith, two_length c.args.sheet.kits, rest_fits (two c.args.sheet.kits) (records c.args.nodes.now c.args.sheet) t)

pub overflow_add-records : goal.overflow_add-records
overflow_add-records c =
    let t = second (goal.at.overflow_add-records c).After-slice_known-3-1 in
    omega (arith, rest_inside (two c.args.sheet.kits) (records c.args.nodes.now c.args.sheet) t, t.size, c.put_two.ensures.behind)

pub slice_bounds-put_records-count : goal.slice_bounds-put_records-count
slice_bounds-put_records-count c = omega (arith, (third c).room)

pub slice_bounds-put_records-start : goal.slice_bounds-put_records-start
slice_bounds-put_records-start c = omega (arith, (third c).room)

pub put_records-requires-clause-room : goal.put_records-requires-clause-room
put_records-requires-clause-room c =
    rw c.place_bytes.ensures (last_fits (third (goal.at.put_records-requires-clause-room c).After-slice_known-4-1))

pub overflow_add-result : goal.overflow_add-result
overflow_add-result c =
    let t = third (goal.at.overflow_add-result c).After-slice_known-4-1 in
    omega (arith, t.room, t.size, (records_down c).behind)

pub returns : goal.returns
returns c = last_lent (third (goal.at.returns c).After-slice_known-4-1) (records_down (goal.at.returns c).After-slice_known-5-1)
