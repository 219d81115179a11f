-- What an output held before a line never shows in its reply; replies come one after the other.
use mathlib.Core.Path.{◌≡◌, refl, sym, ap, ◌∙◌}
use mathlib.Core.Bool.{Bool, true, false, cond}
use mathlib.Core.List.{List, [], ◌∷◌, ◌++◌, append_assoc, append-nil}
use Prim.Native.Nat.{ℕ, ◌≤◌}
use lib.ListN.{length, take}
use lib.Dec.{eqb, ltb}
use lib.Seq.{take-append_seam}
use borrow.Author.Tests.{ltb-false}
use Rattle.ground.specs.Laid.{laid}
use Rattle.ground.specs.Calls.{Case, given, Reply, done, refused, number_of, value_of, decide, answer, leaves, memory, set_down}
use Rattle.ground.specs.Tables.{Tables}
use Rattle.ground.proofs.Laid.{laid_front}
use Rattle.ground.proofs.Calls.{done_passes}
use Rattle.questions.specs.Questions.{is_within, is_containing, all_of}
use Rattle.sheet.specs.Sheet.{encode}
use Rattle.tables.specs.Lent.{lent_both, lent_list}
use Rattle.catalogue.specs.Calls.{Question, contents, all_kits, writing}
use Rattle.desk_text.specs.Letters as letter
use Rattle.desk_text.specs.Lines.{Parsed, none, line, parsed}
use Rattle.desk_input.specs.Lines.{answered}
use Rattle.desk_replies.specs.Replies.{tags_text, reply_line}
use Rattle.desk_lists.specs.Typed.{Typed, typed, stopped, looked_up}
use Rattle.desk_lines.specs.Desk.{Answered, shown, sheet_text, write_line, with_list, asked, ask_line, at_desk, left_by}
use Rattle.desk_lines.proofs.Left.{left_by_lem}
use Rattle.desk_demands.specs.Text.{replies_to}
use Rattle.desk_demands.specs.Demands.{OutputsNeverShow, RepliesInTurn}

-- the value of a reply that is done is the one decided, and no refusal was given, the last neither
pub done_value : (cs : List Case) (v w : ℕ) → decide cs v ≡ done w → w ≡ v
unfolding decide
done_value [] v w e = cc
done_value (c ∷ cs) v w e = done_value cs v w (done_passes c cs v w e).1

last_passes : (cs : List Case) (c : Case) (v w : ℕ) → decide (cs ++ (c ∷ [])) v ≡ done w → c.test ≡ false
last_passes [] c v w e = (done_passes c [] v w e).0
last_passes (d ∷ cs) c v w e = last_passes cs c v w (done_passes d (cs ++ (c ∷ [])) v w e).1

-- the reply to a call that sets xs down
module _ (x : ℕ) (print : List ℕ → List ℕ) (cs : List Case) (xs : List ℕ) where
  unfoldable pub room : ℕ → Reply
  room n = decide (cs ++ (given (ltb n (length xs)) 12 (length xs) ∷ [])) (length xs)

  unfoldable pub said_of : Reply → List ℕ
  said_of r = reply_line x (number_of r) (value_of r) (leaves r [] (print xs))

  all_shown : (o : List ℕ) (r : Reply) → room (length o) ≡ r →
      leaves r [] (print (take (value_of r) (leaves r o (laid o 0 xs)))) ≡ leaves r [] (print xs)
  unfolding leaves room
  all_shown o (done v) e =
      let h : length xs ≤ length o = ltb-false (length o) (length xs)
      (last_passes cs (given (ltb (length o) (length xs)) 12 (length xs)) (length xs) v e) in
      ap print
      (ap (λ (n : ℕ). take n (laid o 0 xs)) (done_value _ (length xs) v e) ∙ ap (take (length xs)) (laid_front o xs h)
      ∙ take-append_seam xs _)
  all_shown o (refused n v) e = refl

  pub shown_is : (o : List ℕ) → shown x print (set_down cs xs o) o ≡ said_of (room (length o))
  unfolding shown set_down answer memory room said_of
  shown_is o =
      let r = room (length o) in
      ap (reply_line x (number_of r) (value_of r)) (all_shown o r refl)

  shown_same : (o o' : List ℕ) → length o ≡ length o' → shown x print (set_down cs xs o) o ≡ shown x print (set_down cs xs o') o'
  shown_same o o' e = shown_is o ∙ ap (λ (n : ℕ). said_of (room n)) e ∙ sym (shown_is o')

cond_says : (b : Bool) (x y u v : Answered) → x.says ≡ u.says → y.says ≡ v.says → (cond b x y).says ≡ (cond b u v).says
cond_says true x y u v e f = e
cond_says false x y u v e f = f

module _ (o s o' s' : List ℕ) (T : Tables) (eo : length o ≡ length o') (es : length s ≡ length s') where
  listed_same : (x : ℕ) (question : Question) (l : List ℕ) →
      shown x tags_text (all_kits question l T o) o ≡ shown x tags_text (all_kits question l T o') o'
  unfolding all_kits
  listed_same x question l = shown_same x tags_text (lent_list T l) (all_of question l T.nodes) o o' eo

  written_same : (x : ℕ) → shown x sheet_text (writing T s) s ≡ shown x sheet_text (writing T s') s'
  unfolding writing
  written_same x = shown_same x sheet_text (lent_both T) (encode (contents T)) s s' es

  asked_same : (x t : ℕ) (l : List ℕ) → (asked x t o T l).says ≡ (asked x t o' T l).says
  unfolding asked
  asked_same x t l =
      cond_says (eqb x letter.all_within) _ _ _ _ (listed_same x is_within l)
      (cond_says (eqb x letter.all_containing) _ _ _ _ (listed_same x is_containing l) refl)

  with_same : (x t : ℕ) (r : Typed) → (with_list x T (asked x t o T) r).says ≡ (with_list x T (asked x t o' T) r).says
  unfolding with_list
  with_same x t (typed l) = asked_same x t l
  with_same x t (stopped n v) = refl

  desk_same : (p : Parsed) → (at_desk p o s T).says ≡ (at_desk p o' s' T).says
  unfolding at_desk write_line ask_line
  desk_same none = refl
  desk_same (line x t fs) =
      cond_says (eqb x letter.registers) _ _ _ _ refl
      (cond_says (eqb x letter.writes) _ _ _ _ (written_same letter.writes) (with_same x t (looked_up T.register fs)))

pub outputs_never_show : OutputsNeverShow
outputs_never_show p o s o' s' T eo es = desk_same o s o' s' T eo es p

pub replies_in_turn : RepliesInTurn
unfolding replies_to answered
replies_in_turn [] l o s T = append-nil (at_desk (parsed l) o s T).says
replies_in_turn (k ∷ ls) l o s T =
    let a = at_desk (parsed k) o s T in
    let e : a.after ≡ left_by k T = left_by_lem k o s T in
    ap (◌++◌ a.says) (replies_in_turn ls l o s a.after)
    ∙ sym (append_assoc a.says (replies_to ls o s a.after) (at_desk (parsed l) o s (answered left_by ls a.after)).says)
    ∙ ap (λ (U : Tables). (a.says ++ replies_to ls o s a.after) ++ (at_desk (parsed l) o s (answered left_by ls U)).says) e
