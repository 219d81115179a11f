-- So far the front is the lines that were read, and zeros behind.
use mathlib.Core.Path.{◌≡◌, refl, ap, sym, ◌∙◌}
use mathlib.Core.List.{List}
use Prim.Native.Nat.{ℕ, ◌+◌, ◌*◌}
use native.Mathlib.Nat.{suc-mul}
use native.Mathlib.Numerals.{add-one}
use native.Mathlib.Omega.{arith}
use lib.ListN.{length-set, get_or, set, take, drop}
use lib.Seq.{drop-drop, get_or-drop}
use Rattle.ground.proofs.Laid.{laid_nil}
use Rattle.sheet.specs.Bytes.{from_bytes}
use Rattle.sheet.specs.Sheet.{bytes_of, line_bytes, line_words, lines_at}
use Rattle.sheet.specs.Inner.{line_count}
use Rattle.sheet.specs.Reading.{lines_read}
use Rattle.sheet.proofs.Places.{words_of, words_on, lines_count, lines_next}
use Rattle.sheet.proofs.list_in.Goals as goal
use Rattle.sheet.proofs.list_in.Invariants.{So}

next : {w : ℕ} {s : List ℕ} {at k from b : ℕ} {list : List ℕ} (so : So w s at k from list) (x y : ℕ) → b ≡ w →
    x ≡ from_bytes (take w (drop from s)) → y ≡ get_or s (from + b) 0 →
    So w s at (k + 1) (from + b + 1) (set (set list (k * line_words) x) (k * line_words + 1) y)
next {w} {s} {at} {k} {from} {b} so x y z e f =
    let bs = drop (at + lines_at) s in
    let m = k * line_bytes w in
    let p : x ≡ from_bytes (take w (drop m bs)) = e ∙ rw (so.reach, drop-drop) refl in
    let q : y ≡ get_or bs (m + w) 0 = f ∙ ap (λ (i : ℕ). get_or s i 0) (omega (arith, so.reach)) ∙ sym (get_or-drop (at + lines_at) s (m + w) 0) in
    let on = words_on (lines_read w k bs) (k * line_words) x y (sym (lines_count w k bs)) in
    record {
      reach = rw (add-one k) (omega (arith, so.reach, suc-mul k (line_bytes w)));
      long = rw (length-set, length-set) so.long;
      is = rw so.is (on ∙ rw (add-one k, p, q) (ap words_of (sym (lines_next w k bs))));
    }

pub loop-k-init : goal.loop-k-init
unfolding lines_read
loop-k-init c = record { reach = omega arith; long = refl; is = sym (laid_nil _ 0) }

pub loop-k-preserved : goal.loop-k-preserved
loop-k-preserved c =
    next c.loop-k.invariant _ _ c.bytes.ensures c.place_at.ensures c.from.ensures

pub returns : goal.returns
returns c =
    let e : c.loop-k.k ≡ line_count c.args.s.now c.args.at = omega arith in
    c.loop-k.invariant.is
    ∙ ap (λ (k : ℕ). words_of (lines_read (bytes_of c.args.w) k (drop (c.args.at + lines_at) c.args.s.now))) e
