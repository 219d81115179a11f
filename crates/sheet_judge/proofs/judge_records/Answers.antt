-- The kits passed, then the run of the rest, are the run of all; the marks, the last row and the node count tell of them.
use mathlib.Core.Path.{◌≡◌, sym, ◌∙◌, refl, ap, ap₂}
use mathlib.Core.Bool.{Bool, true, ◌&&◌, ◌||◌}
use mathlib.Core.List.{List}
use Prim.Native.Nat.{ℕ, ◌+◌, ◌≤◌}
use native.Mathlib.Omega.{arith}
use lib.ListN.{length, take, drop}
use Rattle.ground.specs.Lists.{is_zero}
use Rattle.ground.proofs.Laws.{get_d_zeros, and_right}
use Rattle.kits.specs.Kits.{units, most_units, before, units_in, fixed_row}
use Rattle.kits.specs.declared.Row.{Row}
use Rattle.kits.proofs.Rows.{agreed_right, row_back}
use Rattle.sheet.specs.Bytes.{from_bytes, Bytes}
use Rattle.sheet.specs.Sheet.{bytes_of}
use Rattle.sheet.specs.Reading.{new_kit, record_size}
use Rattle.sheet.specs.Inner.{record_at, list_at, WholeAt}
use Rattle.sheet.proofs.Numbers.{bytes_drop}
use Rattle.sheet.proofs.Places.{end_moved, lent_list_lem}
use Rattle.sheet.proofs.Written.{one_bad}
use Rattle.sheet_judge.specs.Inner.{good_lines, new_tag}
use Rattle.sheet_judge.proofs.Records.{end_none, new_is, first_bad, second_bad, latest_follows, lines_short_lem}
use Rattle.sheet_judge.proofs.Walk.{judging_start, judging_fault, judging_all, judging_on}
use Rattle.sheet_judge.proofs.judge_records.Goals as goal
use Rattle.sheet_judge.proofs.judge_records.Goals.{After-comes_after, After-list_in-list, After-record_good, After-row_of-row}
use Rattle.sheet_judge.proofs.judge_records.Goals.{After-shared_slice_known-1, After-from-tag, In-Some, Else-not-comes_after, Else-not-record_good}

-- what is lent is bytes
bytes : (c : After-shared_slice_known-1) →
    Bytes (drop c.args.from c.args.s.now)
bytes c =
    bytes_drop c.args.s.now c.args.from (λ i. omega (arith, c.type_inv.s i))

-- a record that is whole
moved : (c : In-Some) →
    let w = bytes_of c.place_bytes-w.result in
    WholeAt w c.args.s.now c.loop-kept.end
    × (c.in-Some.next ≡ c.loop-kept.end + record_size w (drop c.loop-kept.end c.args.s.now))
moved c =
    let w = bytes_of c.place_bytes-w.result in
    end_moved w c.args.s.now c.loop-kept.end c.loop-kept.invariant.inside c.in-Some.next c.in-Some.ensures

-- the words that are lent are the record's list
part : (c : After-list_in-list) →
    let w = bytes_of c.place_bytes-w.result in
    take c.list_words-words.result c.list_in-list.result ≡ list_at w c.args.s.now c.loop-kept.end
part c =
    let w = bytes_of c.place_bytes-w.result in
    lent_list_lem w c.args.s.now c.loop-kept.end c.list_words-words.ensures.0 c.list_words-words.ensures.1 c.list_in-list.ensures

-- its tag, as it is read
tag : (c : After-from-tag) →
    c.from-tag.result ≡ from_bytes (take 2 (drop c.loop-kept.end c.args.s.now))
tag c = c.from-tag.ensures ∙ c.two_at.ensures

-- what makes it a new kit
asked : (c : After-from-tag) →
    let w = bytes_of c.place_bytes-w.result in
    let l = list_at w c.args.s.now c.loop-kept.end in
    new_kit w c.args.sheet.parts c.loop-kept.invariant.seen (record_at w c.args.s.now c.loop-kept.end)
    ≡ ((new_tag c.loop-kept.tags c.from-tag.result && good_lines c.args.sheet.parts l)
    && (is_zero c.loop-kept.kept || before (units_in c.loop-kept.prev) (units l)))
asked c =
    let w = bytes_of c.place_bytes-w.result in
    new_is w c.args.s.now c.loop-kept.end c.args.sheet.parts c.loop-kept.invariant.seen
    c.loop-kept.tags c.from-tag.result c.loop-kept.invariant.tags (tag c) (omega arith) ∙ ap
    (λ (b : Bool). (new_tag c.loop-kept.tags c.from-tag.result
    && good_lines c.args.sheet.parts (list_at w c.args.s.now c.loop-kept.end)) && b)
    (latest_follows c.loop-kept.prev c.loop-kept.kept c.loop-kept.invariant.seen
    (units (list_at w c.args.s.now c.loop-kept.end)) c.loop-kept.invariant.latest)

-- its tag and its lines, as they are judged
alone : (c : After-record_good) →
    let w = bytes_of c.place_bytes-w.result in
    c.record_good.result ≡ (new_tag c.loop-kept.tags c.from-tag.result
    && good_lines c.args.sheet.parts (list_at w c.args.s.now c.loop-kept.end))
alone c =
    c.record_good.ensures ∙ ap
    (λ (l : List ℕ). new_tag c.loop-kept.tags c.from-tag.result && good_lines c.args.sheet.parts l)
    (part (goal.at.After-record_good c).After-list_in-list)

short : (c : Else-not-record_good) →
    let w = bytes_of c.place_bytes-w.result in
    length (units (list_at w c.args.s.now c.loop-kept.end)) ≤ most_units
short c =
    let w = bytes_of c.place_bytes-w.result in
    let l = list_at w c.args.s.now c.loop-kept.end in
    lines_short_lem c.args.sheet.parts l
    (and_right (new_tag c.loop-kept.tags c.from-tag.result) (good_lines c.args.sheet.parts l)
    (sym (alone (goal.at.Else-not-record_good c).After-record_good) ∙ c.if-not-record_good.false))

row_is : (c : After-row_of-row) →
    let w = bytes_of c.place_bytes-w.result in
    c.row_of-row.result ≡ fixed_row (units (list_at w c.args.s.now c.loop-kept.end))
row_is c =
    c.row_of-row.ensures ∙ ap (λ (l : List ℕ). fixed_row (units l)) (part (goal.at.After-row_of-row c).After-list_in-list)

fits : (c : After-row_of-row) → c.row_of-row.result.len ≤ most_units
fits c =
    rw (row_is c) (short (goal.at.After-row_of-row c).Else-not-record_good)

back : (c : After-row_of-row) →
    let w = bytes_of c.place_bytes-w.result in
    units_in c.row_of-row.result ≡ units (list_at w c.args.s.now c.loop-kept.end)
back c =
    let w = bytes_of c.place_bytes-w.result in
    rw (row_is c) (row_back (units (list_at w c.args.s.now c.loop-kept.end)))

long : (c : After-row_of-row) → length (units_in c.row_of-row.result) ≡ c.row_of-row.result.len
long c = ap length (back c) ∙ sym (ap (λ (r : Row). r.len) (row_is c))

-- its row's place in the order
told : (c : After-comes_after) →
    let w = bytes_of c.place_bytes-w.result in
    c.comes_after.result ≡ (is_zero c.loop-kept.kept
    || before (units_in c.loop-kept.prev) (units (list_at w c.args.s.now c.loop-kept.end)))
told c =
    c.comes_after.ensures ∙ ap (λ (u : List ℕ). is_zero c.loop-kept.kept || before (units_in c.loop-kept.prev) u)
    (back (goal.at.After-comes_after c).After-row_of-row)

good : (c : Else-not-comes_after) →
    let w = bytes_of c.place_bytes-w.result in
    new_kit w c.args.sheet.parts c.loop-kept.invariant.seen (record_at w c.args.s.now c.loop-kept.end) ≡ true
good c =
    asked (goal.at.Else-not-comes_after c).After-from-tag
    ∙ ap₂ ◌&&◌ (sym (alone (goal.at.Else-not-comes_after c).After-record_good) ∙ c.if-not-record_good.false)
    (sym (told (goal.at.Else-not-comes_after c).After-comes_after) ∙ c.if-not-comes_after.false)

pub loop-kept-init : goal.loop-kept-init
loop-kept-init c =
    judging_start _ c.args.s.now c.args.from c.args.sheet.parts c.from-n.result _ _
    c.place_bytes-w.ensures c.requires (λ t. get_d_zeros 65536 t) refl c.no_row-prev.ensures.1 c.no_row-prev.ensures.0

pub returns-in_default : goal.returns-in_default
returns-in_default c =
    judging_fault c.loop-kept.invariant (bytes (goal.at.returns-in_default c).After-shared_slice_known-1) c.from-n.ensures (omega arith)
    (end_none _ c.args.s.now c.loop-kept.end _ c.in_default.ensures)

pub two_at-requires : goal.two_at-requires
two_at-requires c =
    omega (arith, (moved c).0)

pub list_words-words-requires : goal.list_words-words-requires
list_words-words-requires c =
    omega (arith, (moved (goal.at.list_words-words-requires c).In-Some).0)

pub list_in-list-requires : goal.list_in-list-requires
list_in-list-requires c = (moved (goal.at.list_in-list-requires c).In-Some).0

pub returns-then-not-record_good : goal.returns-then-not-record_good
returns-then-not-record_good c =
    let w = bytes_of c.place_bytes-w.result in
    judging_fault c.loop-kept.invariant (bytes (goal.at.returns-then-not-record_good c).After-shared_slice_known-1) c.from-n.ensures (omega arith)
    (one_bad (record_size w) (new_kit w c.args.sheet.parts c.loop-kept.invariant.seen)
    (drop c.loop-kept.end c.args.s.now) c.loop-kept.end
    (first_bad _ _ (asked (goal.at.returns-then-not-record_good c).After-from-tag)
    (sym (alone (goal.at.returns-then-not-record_good c).After-record_good) ∙ c.if-not-record_good.true)))

pub row_of-row-requires : goal.row_of-row-requires
row_of-row-requires c =
    rw (part (goal.at.row_of-row-requires c).After-list_in-list) (short (goal.at.row_of-row-requires c).Else-not-record_good)

pub returns-then-not-comes_after : goal.returns-then-not-comes_after
returns-then-not-comes_after c =
    let w = bytes_of c.place_bytes-w.result in
    let l = list_at w c.args.s.now c.loop-kept.end in
    judging_fault c.loop-kept.invariant (bytes (goal.at.returns-then-not-comes_after c).After-shared_slice_known-1) c.from-n.ensures (omega arith)
    (one_bad (record_size w) (new_kit w c.args.sheet.parts c.loop-kept.invariant.seen)
    (drop c.loop-kept.end c.args.s.now) c.loop-kept.end
    (second_bad (new_tag c.loop-kept.tags c.from-tag.result && good_lines c.args.sheet.parts l)
    (is_zero c.loop-kept.kept || before (units_in c.loop-kept.prev) (units l)) (asked (goal.at.returns-then-not-comes_after c).After-from-tag)
    (sym (told (goal.at.returns-then-not-comes_after c).After-comes_after) ∙ c.if-not-comes_after.true)))

pub overflow_sub-nodes : goal.overflow_sub-nodes
overflow_sub-nodes c =
    omega (
      arith,
      c.agree.ensures,
      agreed_right (units_in c.loop-kept.prev) (units_in c.row_of-row.result),
      long (goal.at.overflow_sub-nodes c).After-row_of-row,
    )

pub loop-kept-preserved : goal.loop-kept-preserved
loop-kept-preserved c =
    judging_on c.loop-kept.invariant
    (omega arith) (moved (goal.at.loop-kept-preserved c).In-Some).0 (good (goal.at.loop-kept-preserved c).Else-not-comes_after) c.row_of-row.result
    (row_is (goal.at.loop-kept-preserved c).After-row_of-row)
    (short (goal.at.loop-kept-preserved c).Else-not-record_good) c.from-tag.result (tag (goal.at.loop-kept-preserved c).After-from-tag)
    (omega arith) c.agree.result c.agree.ensures c.in-Some.next
    (moved (goal.at.loop-kept-preserved c).In-Some).1

pub returns : goal.returns
returns c =
    judging_all c.loop-kept.invariant (bytes (goal.at.returns c).After-shared_slice_known-1) c.from-n.ensures (omega arith)
