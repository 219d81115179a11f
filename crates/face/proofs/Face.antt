-- A promise below, and its answer taken apart, are what the face promises; and the stretch that shows a number, by numbers.
use mathlib.Core.Path.{◌≡◌, refl, sym, ap, subst, ◌∙◌}
use mathlib.Core.Bool.{Bool, true, false, cond, not}
use mathlib.Core.List.{List}
use Prim.Native.Nat.{ℕ, ◌+◌, ◌-◌, ◌*◌, ◌^◌, ◌<◌, ◌≤◌}
use native.Mathlib.Omega.{arith}
use lib.ListN.{length, take, drop, get_or, length-drop}
use lib.Seq.{length-take-le}
use borrow.Author.Tests.{eqb-true}
use mir.Val.{bool_byte}
use denote.Ref.{Bor}
use Rattle.ground.specs.Lists.{is_zero}
use Rattle.ground.specs.Calls.{Plan, Reply, done, refused, answer, leaves, number_of, value_of, is_refused, Promise}
use Rattle.ground.specs.Stretch.{Stretch}
use Rattle.ground.proofs.Laws.{by_cond}
use Rattle.ground.proofs.Calls.{leaves_done, passed_done, promise_part, refused_leaves}
use Rattle.register.specs.Number.{longest_number}
use Rattle.register.specs.Register.{parts_of, slot_bytes, slot_count, unused_at, used_at}
use Rattle.register.specs.Calls.{showing, stretch_from, stretch_size}
use Rattle.register.proofs.Sound.{ready_short}
use Rattle.register.proofs.Slots.{slot_head}
use Rattle.register.proofs.Answers.{shows}
use Rattle.makers.specs.Calls.{Beside, MakerCall, beside, holder, is_makers, label_from, label_size, plan_of_maker, showing_label}
use Rattle.makers.proofs.Answers.{FoundBeside, Inside, inside_makers, inside_ours, label_empty, label_shown_lem, show_found}
use Rattle.pages.specs.declared.Bookmark.{Bookmark}
use Rattle.answers.specs.Answers.{reply}
use Rattle.ground.specs.Tables.{tables}
use Rattle.sheet.specs.Bytes.{Bytes}
use Rattle.sheet.specs.Reading.{salvage, rescued}
use Rattle.sheet.specs.Calls.{report_of}
use Rattle.sheet.specs.declared.Report.{Report}
use Rattle.sheet_read.specs.declared.Salvaged.{Salvaged}
use Rattle.catalogue.specs.Calls.{Rescues}
use Rattle.demands.proofs.Offsets.{stopped_near}
use Rattle.demands.proofs.Values.{salvaging_small}
use Rattle.demands.proofs.Beside.{makers_value}
use Rattle.face.specs.Face.{Handed, Crosses, LentMark, lent_mark, mark_of, set_to, over_lent, SmallReport, RescueCrosses}
use Rattle.face.specs.Inner.{PlaceShown}

-- what is handed over is what the plan answers
pub handed_answer : {r s : Reply} {n v : ℕ} → Handed r n v → r ≡ s → Handed s n v
handed_answer h e = record { number_is = h.number_is ∙ ap number_of e; value_is = h.value_is ∙ ap value_of e }

pub crossed : {A : Type 0} {call : A → Plan A} {old new : A} {r : Reply} {n v : ℕ} → Promise (call old) old r new → Handed r n v →
    Crosses call old n v new
crossed p h = record { answers = handed_answer h p.answers; lent = p.lent }

-- a reply that the plan answers is as small as the plan's
pub reply_small : {r s : Reply} (b : ℕ) → r ≡ s → value_of s < b → value_of r < b
reply_small b e l = subst (λ x. value_of x < b) (sym e) l

-- a Bool as a number
pub bool_number : (t : Bool) → bool_byte t ≡ cond t 1 0
bool_number true = refl
bool_number false = refl

-- a lent bookmark that is set to what it is stays as it is
same_begun : (n : ℕ) → cond (is_zero n) (cond (not (is_zero n)) 1 0) n ≡ n
same_begun n = go (is_zero n) refl
  where
    go : (b : Bool) → is_zero n ≡ b → cond b (cond (not b) 1 0) n ≡ n
    go true e = sym (eqb-true n 0 e)
    go false e = refl

set_same : (p : LentMark) → set_to p (mark_of p) ≡ p
set_same p = ap (λ (n : ℕ). lent_mark n p.len p.places) (same_begun p.begun)

-- the promise on a bookmark, where it is lent taken apart
pub crossed_mark : (call : Bookmark → Plan Bookmark) (p q : LentMark) (b m : Bookmark) {r : Reply} {n v : ℕ} → b ≡ mark_of p →
    q ≡ set_to p m → Promise (call b) b r m → Handed r n v → Crosses (over_lent call) p n v q
crossed_mark call p q b m {r} is set h handed =
    let k = promise_part (set_to p) (call (mark_of p)) (mark_of p) r m (subst (λ (x : Bookmark). Promise (call x) x r m) is h) in
    crossed (subst (λ (x : LentMark). Promise (over_lent call p) x r q) (set_same p) (rw set k)) handed

-- A call that shows the number at a place has found it where it is done
pub show_place : (p : ℕ) (R : List ℕ) (r : Reply) → r ≡ answer (showing p R) → PlaceShown r p
show_place p R r is e = (shows R p (value_of r) (sym is ∙ passed_done r e)).some

pub label_place : (p : ℕ) (B : Beside) (r : Reply) → r ≡ answer (showing_label p B) → PlaceShown r p
label_place p B r is e = (show_found p B (value_of r) (sym is ∙ passed_done r e)).some

-- where a stretch starts
pub from_refused : (p : ℕ) (R : List ℕ) (r : Reply) → r ≡ answer (showing p R) → is_refused r ≡ true → 0 ≡ stretch_from p R
unfolding stretch_from
from_refused p R r e t = sym (refused_leaves (answer (showing p R)) 0 ((p - 1) * slot_bytes + 1) (ap is_refused (sym e) ∙ t))

pub from_done : (p : ℕ) (R : List ℕ) (q v : ℕ) → answer (showing p R) ≡ done v → q ≡ p → (q - 1) * slot_bytes + 1 ≡ stretch_from p R
unfolding stretch_from
from_done p R q v e w =
    ap (λ x. (x - 1) * slot_bytes + 1) w ∙ sym (leaves_done (answer (showing p R)) v 0 ((p - 1) * slot_bytes + 1) e)

-- so the stretch of a place that is found starts there
pub show_from : (p : ℕ) (R : List ℕ) (r : Reply) → r ≡ answer (showing p R) → leaves r 0 ((p - 1) * slot_bytes + 1) ≡ stretch_from p R
unfolding stretch_from
show_from p R r is = ap (λ (x : Reply). leaves x 0 ((p - 1) * slot_bytes + 1)) is

pub label_from_lem : (p : ℕ) (B : Beside) (r : Reply) → r ≡ answer (showing_label p B) → leaves r 0 ((p - 1) * slot_bytes + 1) ≡ label_from p B
unfolding label_from
label_from_lem p B r is = ap (λ (x : Reply). leaves x 0 ((p - 1) * slot_bytes + 1)) is

-- a number of a table lies inside it
number_long : (T : List ℕ) (k : ℕ) → k < slot_count T → get_or T (k * slot_bytes) 0 ≤ longest_number →
    length (take (get_or T (k * slot_bytes) 0) (drop (k * slot_bytes + 1) T)) ≡ get_or T (k * slot_bytes) 0
number_long T k u short = length-take-le _ _ (simp length-drop (omega arith))

size_done : (p : ℕ) (R : List ℕ) (v : ℕ) → answer (showing p R) ≡ done v →
    length (take (get_or R ((p - 1) * slot_bytes) 0) (drop ((p - 1) * slot_bytes + 1) R)) ≡ get_or R ((p - 1) * slot_bytes) 0
size_done p R v e =
    let s = shows R p v e in
    let t = ready_short R s.ready (length (parts_of R)) refl in
    let h : p - 1 < length (parts_of R) = omega (arith, s.some, s.held) in
    number_long R (p - 1) (omega (arith, t.inside)) (t.short (p - 1) h)

size_by : (p : ℕ) (R : List ℕ) (a : Reply) → answer (showing p R) ≡ a →
    length (take (leaves a 0 (get_or R ((p - 1) * slot_bytes) 0)) (drop (leaves a 0 ((p - 1) * slot_bytes + 1)) R))
    ≡ leaves a 0 (get_or R ((p - 1) * slot_bytes) 0)
unfolding leaves
size_by p R (done v) e = size_done p R v e
size_by p R (refused n v) e = refl

-- so the stretch has as many bytes as it is promised
pub stretch_long : (p : ℕ) (R r : List ℕ) → r ≡ take (stretch_size p R) (drop (stretch_from p R) R) → length r ≡ stretch_size p R
unfolding stretch_from stretch_size
stretch_long p R r h = ap length h ∙ size_by p R (answer (showing p R)) refl

-- Labels: a call of the maker's table has no value
pub maker_small : (c : MakerCall) (B : Beside) {r : Reply} → r ≡ answer (plan_of_maker c B) → value_of r < 2 ^ 32
maker_small c B e = reply_small _ e (omega (arith, makers_value c B))

-- whether a slot is used, as its length byte says
pub used_said : (M : List ℕ) (k n : ℕ) → n ≡ get_or M (k * slot_bytes) 0 → not (is_zero n) ≡ used_at M k
unfolding used_at unused_at
used_said M k n e = ap (λ x. not (is_zero x)) (e ∙ sym (slot_head M k))

-- what is held by one of two tables
now_held : (b : Bool) (s t : Bor (List ℕ)) → (cond b t s).now ≡ cond b t.now s.now
now_held true s t = refl
now_held false s t = refl

-- the label lies inside the table that holds it
label_inside : (p : ℕ) (B : Beside) → FoundBeside p B → Inside (holder p B B.register B.makers) (p - 1)
label_inside p B f =
    by_cond (λ (T : List ℕ). Inside T (p - 1)) (is_makers p B) B.makers B.register (λ _. inside_makers f (p - 1) refl)
    (λ _. inside_ours f (p - 1) refl)

label_size_lem : (p : ℕ) (B : Beside) (a : Reply) → answer (showing_label p B) ≡ a →
    length (take (label_size p B) (drop (label_from p B) (holder p B B.register B.makers))) ≡ label_size p B
label_size_lem p B (done v) e =
    let w = label_shown_lem p B v e in
    let h = label_inside p B (show_found p B v e) in
    rw (w.1, w.2) (number_long (holder p B B.register B.makers) (p - 1) h.there h.short)
label_size_lem p B (refused n v) e = let w = label_empty p B (ap is_refused e) in rw w.2

-- so its stretch has as many bytes as it is promised
pub label_long : (p : ℕ) (s t r : Bor (List ℕ)) →
    let B = beside s.now t.now in
    Stretch (holder p B s t) r (label_from p B) (label_size p B) → length r.now ≡ label_size p B
label_long p s t r h =
    let B = beside s.now t.now in
    ap length (h.holds ∙ ap (λ (l : List ℕ). take (label_size p B) (drop (label_from p B) l)) (now_held (is_makers p B) s t))
    ∙ label_size_lem p B (answer (showing_label p B)) refl

-- Salvage: its promise and its report taken apart, and why each number of the report has room in 32 bits
pub rescue_crossed : {s R N R' N' : List ℕ} {x : Salvaged} {n : ℕ} {p : Report} → Rescues s R N x R' N' → n ≡ number_of (reply x.answer) →
    p ≡ x.report → RescueCrosses s (tables R N) n p (tables R' N')
rescue_crossed {s = s} h number report =
    let e = h.promised.answers in
    record {
      number_is = number ∙ ap number_of e;
      report_is = report ∙ h.reported ∙ ap (λ (a : Reply). report_of a (rescued (salvage s))) e;
      lent = h.promised.lent;
    }

report_small : (s : List ℕ) (a : Reply) → Bytes s → value_of a < 2 ^ 32 → SmallReport (report_of a (rescued (salvage s)))
unfolding report_of
report_small s (done v) h l = record { kept = l; announced = omega (arith, (stopped_near s h).0); third = omega (arith, (stopped_near s h).1) }
report_small s (refused n v) h l = record { kept = omega arith; announced = omega arith; third = l }

pub rescue_small : {s R N R' N' : List ℕ} {x : Salvaged} → Bytes s → Rescues s R N x R' N' → SmallReport x.report
rescue_small {s = s} {R = R} {N = N} {x = x} b h =
    subst SmallReport (sym h.reported)
    (report_small s (reply x.answer) b (reply_small _ h.promised.answers (salvaging_small s (tables R N) b)))
