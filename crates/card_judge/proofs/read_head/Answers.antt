-- Mark, version, tag and line count in turn, each whole and then right; the first that is not is the first fault.
use mathlib.Core.Path.{sym, ◌∙◌}
use native.Mathlib.Omega.{arith}
use lib.ListN.{take}
use Rattle.sheet.specs.Sheet.{mark_bytes}
use Rattle.card.specs.Card.{card_mark}
use Rattle.card_judge.proofs.Head.{Marked, same_bytes, bad_mark, no_version, bad_version, no_tag, bad_tag, no_count, headed}
use Rattle.card_judge.proofs.read_head.Goals as goal
use Rattle.card_judge.proofs.read_head.Goals.{Else-not-starts_with, then-s-lt-TAG_AT-via-then-s-lt-TAG_AT}
use Rattle.card_judge.proofs.read_head.Goals.{then-s-lt-TAG_AT-via-else-s-lt-TAG_AT+then-two_at-ne-VERSION}

marked : (c : Else-not-starts_with) → Marked c.args.s.now
marked c = record {
  long = c.starts_with.ensures.bound c.if-not-starts_with.false;
  is = sym (same_bytes card_mark (take mark_bytes c.args.s.now)) ∙ sym c.starts_with.ensures.value ∙ c.if-not-starts_with.false;
}

pub returns-then-not-starts_with : goal.returns-then-not-starts_with
returns-then-not-starts_with c =
    bad_mark c.args.s.now
    (sym (same_bytes card_mark (take mark_bytes c.args.s.now)) ∙ sym c.starts_with.ensures.value ∙ c.if-not-starts_with.true)

pub returns-then-s-lt-TAG_AT : goal.returns-then-s-lt-TAG_AT
returns-then-s-lt-TAG_AT c =
    let M = marked (goal.at.returns-then-s-lt-TAG_AT c).Else-not-starts_with in
    elim c.then-s-lt-TAG_AT.branch [
      | then-s-lt-TAG_AT-via-then-s-lt-TAG_AT w ↦ no_version c.args.s.now M w.if-s-lt-TAG_AT.true
      | then-s-lt-TAG_AT-via-else-s-lt-TAG_AT+then-two_at-ne-VERSION w ↦
          bad_version c.args.s.now M w.two_at.result w.two_at.ensures w.if-two_at-ne-VERSION.true
    ]

pub returns-then-s-lt-COUNT_AT : goal.returns-then-s-lt-COUNT_AT
returns-then-s-lt-COUNT_AT c =
    no_tag c.args.s.now (marked (goal.at.returns-then-s-lt-COUNT_AT c).Else-not-starts_with) c.two_at.result c.two_at.ensures
    c.if-s-lt-TAG_AT.false c.if-two_at-ne-VERSION.false c.if-s-lt-COUNT_AT.true

pub returns-then-tag-eq0 : goal.returns-then-tag-eq0
returns-then-tag-eq0 c =
    bad_tag c.args.s.now (marked (goal.at.returns-then-tag-eq0 c).Else-not-starts_with) c.two_at.result c.two_at.ensures
    c.if-s-lt-TAG_AT.false c.if-two_at-ne-VERSION.false c.two_at-tag.result c.two_at-tag.ensures c.if-tag-eq0.true

pub returns-then-s-lt-HEAD : goal.returns-then-s-lt-HEAD
returns-then-s-lt-HEAD c =
    no_count c.args.s.now (marked (goal.at.returns-then-s-lt-HEAD c).Else-not-starts_with) c.two_at.result c.two_at.ensures
    c.if-s-lt-TAG_AT.false c.if-two_at-ne-VERSION.false c.two_at-tag.result c.two_at-tag.ensures c.if-s-lt-COUNT_AT.false
    c.if-tag-eq0.false c.if-s-lt-HEAD.true

pub returns : goal.returns
returns c =
    headed c.args.s.now (marked (goal.at.returns c).Else-not-starts_with) c.two_at.result c.two_at.ensures
    c.if-s-lt-TAG_AT.false c.if-two_at-ne-VERSION.false c.two_at-tag.result c.two_at-tag.ensures c.if-s-lt-COUNT_AT.false
    c.if-tag-eq0.false c.if-s-lt-HEAD.false c.new.result c.new.ensures.0 (c.new.ensures.1 ∙ c.from.ensures)
    (omega (arith, c.new.ensures.1, c.from.ensures))
