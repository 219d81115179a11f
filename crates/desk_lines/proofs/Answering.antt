-- What each kind of line answers: from the promises of the calls and the bytes set down to the desk's definitions.
use mathlib.Core.Path.{◌≡◌, refl, ap, sym, ◌∙◌}
use mathlib.Core.Bool.{false}
use mathlib.Core.List.{List, [], ◌∷◌, ◌++◌}
use Prim.Native.Nat.{ℕ, ◌≤◌}
use native.Mathlib.Omega.{arith}
use lib.ListN.{length, get_or, take}
use lib.Seq.{length-take-le}
use borrow.Author.Tests.{ne_eqb, ltb-false}
use lib.Dec.{ltb}
use Rattle.ground.specs.Laid.{laid}
use Rattle.ground.specs.Calls.{Case, given, Plan, Reply, done, refused, number_of, value_of, decide, answer, leaves, memory, Promise, set_down}
use Rattle.ground.proofs.Calls.{refused_says, refused_leaves, leaves_done, done_passes}
use Rattle.ground.proofs.Laid.{length_laid}
use Rattle.register.specs.Calls.{registering}
use Rattle.questions.specs.Questions.{is_containing}
use Rattle.ground.specs.Tables.{Tables, tables}
use Rattle.catalogue.specs.Calls.{Question, on_register, finding, any_kit, all_kits, writing}
use Rattle.answers.specs.Answers.{reply, Answer}
use Rattle.answers.specs.declared.Refusal.{Refusal}
use Rattle.std.proofs.Common.{Ok, Err}
use Rattle.desk_text.specs.Letters as letter
use Rattle.desk_text.specs.Lines.{fields_from}
use Rattle.desk_replies.specs.Replies.{reply_line, ReplyStands}
use Rattle.desk_replies.proofs.Replies.{reply_same}
use Rattle.desk_lists.specs.Typed.{typed, stopped, looked_up}
use Rattle.desk_lists.specs.Inner.{typed_as, ReadAs}
use Rattle.answers.proofs.Answers.{refuses}
use Rattle.desk_lines.specs.Desk.{called, shown, register_line, call_of, Answers}
use Rattle.desk_lines.specs.Inner.{set_down_by, printed}

-- what is set down lies inside the output
decide_last : (cs : List Case) (c : Case) (v w : ℕ) → decide (cs ++ (c ∷ [])) v ≡ done w → (c.test ≡ false) × (w ≡ v)
unfolding decide
decide_last [] c v w e = let p = done_passes c [] v w e in (p.0, cc p.1)
decide_last (d ∷ cs) c v w e = decide_last cs c v w (done_passes d (cs ++ (c ∷ [])) v w e).1

module _ (cs : List Case) (xs o : List ℕ) where
  set_down_done : (v : ℕ) → answer (set_down cs xs o) ≡ done v → v ≤ length (memory (set_down cs xs o) o)
  unfolding answer set_down memory
  set_down_done v e =
      let p = decide_last cs (given (ltb (length o) (length xs)) 12 (length xs)) (length xs) v e in
      let h : length xs ≤ length o = ltb-false (length o) (length xs) p.0 in
      let m : memory (set_down cs xs o) o ≡ laid o 0 xs = leaves_done (answer (set_down cs xs o)) v o (laid o 0 xs) e in
      let n : length (memory (set_down cs xs o) o) ≡ length o = ap length m ∙ length_laid o 0 xs in
      omega (arith, p.1)

  set_down_inside : set_down_by (answer (set_down cs xs o)) ≤ length (memory (set_down cs xs o) o)
  unfolding leaves
  set_down_inside = go (answer (set_down cs xs o)) refl
    where
      go : (a : Reply) → answer (set_down cs xs o) ≡ a → set_down_by a ≤ length (memory (set_down cs xs o) o)
      go (refused n v) e = omega arith
      go (done v) e = set_down_done v e

-- what an answer says that it has set down, as a function that was lent the output promises it
promised_inside : (p : Plan (List ℕ)) (o : List ℕ) (a : Reply) (m : List ℕ) → set_down_by (answer p) ≤ length (memory p o) → Promise p o a m →
    set_down_by a ≤ length m
promised_inside p o a m h q = rw (q.answers, q.lent) h

pub listed_inside : (question : Question) (l : List ℕ) (T : Tables) (o : List ℕ) (a : Reply) (m : List ℕ) →
    Promise (all_kits question l T o) o a m → set_down_by a ≤ length m
unfolding all_kits
listed_inside question l T o a m q = promised_inside _ o a m (set_down_inside _ _ o) q

pub written_inside : (T : Tables) (o : List ℕ) (a : Reply) (m : List ℕ) → Promise (writing T o) o a m → set_down_by a ≤ length m
unfolding writing
written_inside T o a m q = promised_inside _ o a m (set_down_inside _ _ o) q

-- the reply to a call that sets something down
pub shown_put : {old new : List ℕ} {r : ℕ} (x : ℕ) (print : List ℕ → List ℕ) (p : Plan (List ℕ)) (o : List ℕ) (a : Reply) (m : List ℕ) →
    Promise p o a m → ReplyStands old (printed x print a m) r new → ReplyStands old (shown x print p o) r new
unfolding shown
shown_put x print p o a m q h = rw (← q.answers, ← q.lent) h

pub leaves_same : {A : Type 0} (b : Reply) (m : A) → leaves b m m ≡ m
unfolding leaves
leaves_same (done v) m = refl
leaves_same (refused n v) m = refl

-- the reply to a call on the tables
module _ {old new : List ℕ} {r : ℕ} (x : ℕ) (T : Tables) where
  pub called_put : (p : Plan Tables) (a : Reply) (U : Tables) → Promise p T a U →
      ReplyStands old (reply_line x (number_of a) (value_of a) []) r new → Answers (called x p T) old r new U
  unfolding called
  called_put p a U q h = record { reply = rw (← q.answers) h; left = q.lent }

-- one that leaves them
kept_promise : (p : Plan Tables) (T : Tables) (a : Reply) → p.after ≡ T → a ≡ answer p → Promise p T a T
unfolding memory
kept_promise p T a e f = record { answers = f; lent = sym (ap (leaves (answer p) T) e ∙ leaves_same (answer p) T) }

pub finding_keeps : (l : List ℕ) (T : Tables) (a : Reply) → a ≡ answer (finding l T) → Promise (finding l T) T a T
unfolding finding
finding_keeps l T a f = kept_promise _ T a refl f

pub any_keeps : (question : Question) (l : List ℕ) (T : Tables) (a : Reply) → a ≡ answer (any_kit question l T) → Promise (any_kit question l T) T a T
unfolding any_kit
any_keeps question l T a f = kept_promise _ T a refl f

-- a registration, seen from both tables
on_register_lem : (b : Reply) (R M N : List ℕ) → leaves b (tables R N) (tables M N) ≡ tables (leaves b R M) N
unfolding leaves
on_register_lem (done v) R M N = refl
on_register_lem (refused n v) R M N = refl

pub register_put : {old new : List ℕ} {r : ℕ} (fs : List (List ℕ)) (R N n : List ℕ) (a : Reply) (M : List ℕ) → n ≡ get_or fs 0 [] →
    Promise (registering n R) R a M → ReplyStands old (reply_line letter.registers (number_of a) (value_of a) []) r new →
    Answers (register_line fs (tables R N)) old r new (tables M N)
unfolding register_line memory answer
register_put fs R N n a M e q h =
    called_put letter.registers (tables R N) (on_register (tables R N) (registering (get_or fs 0 []) R)) a (tables M N)
    (record {
      answers = rw (← e) q.answers;
      lent = rw (← e)
          (ap (λ m. tables m N) q.lent ∙ sym (on_register_lem (answer (registering n R)) R (registering n R).after N));
    })
    h

-- the call of S, and of every letter that has no call of its own
pub call_containing : (x t : ℕ) (l : List ℕ) (T : Tables) (a : Reply) → (x ≡ letter.inserts → ⊥) → (x ≡ letter.finds → ⊥) →
    (x ≡ letter.deletes → ⊥) → (x ≡ letter.any_within → ⊥) → a ≡ answer (any_kit is_containing l T) → Promise (call_of x t l T) T a T
unfolding call_of
call_containing x t l T a n1 n2 n3 n4 f =
    rw (ne_eqb x letter.inserts n1, ne_eqb x letter.finds n2, ne_eqb x letter.deletes n3, ne_eqb x letter.any_within n4)
    (any_keeps is_containing l T a f)

-- a list that was read, n words of it, or a lookup that was refused
module _ (R l : List ℕ) (from : ℕ) (a : Answer) (out : List ℕ) (d : ReadAs R l from (reply a) out) where
  pub read_stopped : (e : Refusal) → a ≡ Err e → looked_up R (fields_from l from) ≡ stopped (number_of (reply a)) (value_of (reply a))
  read_stopped e q = sym d.says ∙ ap (λ (z : Reply). typed_as z out) (refused_says (reply a) (rw q (refuses e)))

  module _ (n : ℕ) (q : a ≡ Ok n) where
    read_done : reply a ≡ done n
    read_done = ap reply q

    pub read_typed : looked_up R (fields_from l from) ≡ typed (take n out)
    read_typed = sym d.says ∙ ap (λ (z : Answer). typed_as (reply z) out) q

    pub read_inside : n ≤ length out
    unfolding leaves
    read_inside = rw q at d.inside

module _ (a : Answer) (o : List ℕ) where
  -- refused: nothing behind the value
  pub printed_refused : {old new : List ℕ} {r : ℕ} (x : ℕ) (print : List ℕ → List ℕ) (e : Refusal) → a ≡ Err e →
      ReplyStands old (reply_line x (number_of (reply a)) (value_of (reply a)) []) r new → ReplyStands old (printed x print (reply a) o) r new
  printed_refused x print e q p =
      let k = refused_leaves (reply a) [] (print (take (value_of (reply a)) o)) (rw q (refuses e)) in
      reply_same p (ap (reply_line x (number_of (reply a)) (value_of (reply a))) (sym k))

  -- done: what was set down, printed
  module _ (n : ℕ) (q : a ≡ Ok n) (h : set_down_by (reply a) ≤ length o) where
    pub done_inside : n ≤ length o
    unfolding leaves
    done_inside = rw q at h

    pub done_length : n ≡ length (take n o)
    done_length = sym (length-take-le n o done_inside)

    pub printed_done : {old new : List ℕ} {r : ℕ} (x : ℕ) (print : List ℕ → List ℕ) →
        ReplyStands old (reply_line x 0 (length (take n o)) (print (take n o))) r new → ReplyStands old (printed x print (reply a) o) r new
    unfolding leaves
    printed_done x print p = rw q (reply_same p (ap (λ k. reply_line x 0 k (print (take n o))) (sym done_length)))
