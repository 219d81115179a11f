-- Mark, version and part count in turn, each whole and then right; the first that is not is the first fault.
use mathlib.Core.Path.{◌≡◌, sym, ◌∙◌}
use mathlib.Core.Bool.{true}
use lib.ListN.{take}
use lib.Dec.{eqb}
use Rattle.ground.specs.Lists.{anyb, eq_list}
use Rattle.ground.proofs.Laws.{eq_list_sym}
use Rattle.sheet.specs.Sheet.{mark}
use Rattle.sheet.specs.Reading.{versions}
use Rattle.sheet_judge.proofs.Front.{no_mark, bad_mark, no_version, bad_version, no_count, bad_count, headed}
use Rattle.sheet_judge.proofs.read_head.Goals as goal
use Rattle.sheet_judge.proofs.read_head.Goals.{Else-not-is_version, Else-not-same}

marked : (c : Else-not-same) →
    eq_list mark (take 3 c.args.s.now) ≡ true
marked c =
    eq_list_sym mark (take 3 c.args.s.now) ∙ sym c.same.ensures ∙ c.if-not-same.false

pub returns-then-s-lt-VERSION_AT : goal.returns-then-s-lt-VERSION_AT
returns-then-s-lt-VERSION_AT c = no_mark c.args.s.now c.if-s-lt-VERSION_AT.true

pub returns-then-not-same : goal.returns-then-not-same
returns-then-not-same c =
    bad_mark c.args.s.now
    (eq_list_sym mark (take 3 c.args.s.now) ∙ sym c.same.ensures ∙ c.if-not-same.true)

pub returns-then-s-lt-PARTS_AT : goal.returns-then-s-lt-PARTS_AT
returns-then-s-lt-PARTS_AT c =
    no_version c.args.s.now c.if-s-lt-VERSION_AT.false (marked (goal.at.returns-then-s-lt-PARTS_AT c).Else-not-same) c.if-s-lt-PARTS_AT.true

pub returns-then-not-is_version : goal.returns-then-not-is_version
returns-then-not-is_version c =
    bad_version c.args.s.now c.if-s-lt-VERSION_AT.false (marked (goal.at.returns-then-not-is_version c).Else-not-same)
    c.two_at-version.result c.two_at-version.ensures
    (sym c.is_version.ensures ∙ c.if-not-is_version.true)

-- a version that there is
known : (c : Else-not-is_version) →
    anyb (eqb c.two_at-version.result) versions ≡ true
known c =
    sym c.is_version.ensures ∙ c.if-not-is_version.false

pub returns-then-s-lt-HEAD : goal.returns-then-s-lt-HEAD
returns-then-s-lt-HEAD c =
    no_count c.args.s.now c.if-s-lt-VERSION_AT.false (marked (goal.at.returns-then-s-lt-HEAD c).Else-not-same) c.two_at-version.result c.two_at-version.ensures
    c.if-s-lt-PARTS_AT.false (known (goal.at.returns-then-s-lt-HEAD c).Else-not-is_version) c.if-s-lt-HEAD.true

pub returns-then-not-count_ok : goal.returns-then-not-count_ok
returns-then-not-count_ok c =
    bad_count c.args.s.now c.if-s-lt-VERSION_AT.false (marked (goal.at.returns-then-not-count_ok c).Else-not-same)
    c.two_at-version.result c.two_at-version.ensures
    c.if-s-lt-PARTS_AT.false (known (goal.at.returns-then-not-count_ok c).Else-not-is_version) c.two_at-count.result c.two_at-count.ensures
    (sym c.count_ok.ensures ∙ c.if-not-count_ok.true)

pub returns : goal.returns
returns c =
    headed c.args.s.now c.if-s-lt-VERSION_AT.false (marked (goal.at.returns c).Else-not-same) c.two_at-version.result c.two_at-version.ensures
    c.if-s-lt-PARTS_AT.false (known (goal.at.returns c).Else-not-is_version) c.two_at-count.result c.two_at-count.ensures c.if-s-lt-HEAD.false
    (sym c.count_ok.ensures ∙ c.if-not-count_ok.false) c.from.result c.from.ensures
