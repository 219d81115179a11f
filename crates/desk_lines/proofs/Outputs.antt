-- What each kind of line answers and leaves in the outputs, by the tests that lead to it; and what a line promises is all that could meet it.
use mathlib.Core.Path.{◌≡◌, refl, sym, ◌∙◌}
use mathlib.Core.List.{List, []}
use Prim.Native.Nat.{ℕ}
use native.Mathlib.Omega.{arith}
use borrow.Author.Tests.{eq-eqb, ne_eqb}
use Rattle.ground.specs.Calls.{Reply, number_of, value_of, memory, Promise}
use Rattle.questions.specs.Questions.{is_within, is_containing}
use Rattle.ground.specs.Tables.{Tables}
use Rattle.catalogue.specs.Calls.{all_kits, writing}
use Rattle.desk_text.specs.Letters as letter
use Rattle.desk_text.specs.Lines.{Parsed, none, line, parsed}
use Rattle.desk_replies.specs.Replies.{reply_line, other_line, tags_text, ReplyStands}
use Rattle.desk_lists.specs.Typed.{typed, stopped, looked_up}
use Rattle.desk_lines.specs.Desk.{register_line, write_line, with_list, call_of, asked, ask_line, at_desk, Answers}
use Rattle.desk_lines.specs.Inner.{printed, asked_places, typed_places, ask_places, places_after, sheet_after, Outputs}
use Rattle.desk_lines.proofs.Answering.{called_put, shown_put}

-- a question on a list
module _ {old new : List ℕ} {r : ℕ} (x t : ℕ) (o : List ℕ) (T : Tables) (l : List ℕ) (a : Reply) where
  module _ (m : List ℕ) (h : ReplyStands old (printed x tags_text a m) r new) where
    pub asked_all_within : x ≡ letter.all_within → Promise (all_kits is_within l T o) o a m →
        (Answers (asked x t o T l) old r new T) × (m ≡ asked_places x o T l)
    unfolding asked asked_places
    asked_all_within e q =
        rw (eq-eqb x letter.all_within e) (record { reply = shown_put x tags_text (all_kits is_within l T o) o a m q h; left = refl }, q.lent)

    pub asked_all_containing : x ≡ letter.all_containing → Promise (all_kits is_containing l T o) o a m →
        (Answers (asked x t o T l) old r new T) × (m ≡ asked_places x o T l)
    unfolding asked asked_places
    asked_all_containing e q =
        rw (ne_eqb x letter.all_within (λ w. absurd (omega (arith, e, w))), eq-eqb x letter.all_containing e)
        (record { reply = shown_put x tags_text (all_kits is_containing l T o) o a m q h; left = refl }, q.lent)

  pub asked_call : (U : Tables) → (x ≡ letter.all_within → ⊥) → (x ≡ letter.all_containing → ⊥) → Promise (call_of x t l T) T a U →
      ReplyStands old (reply_line x (number_of a) (value_of a) []) r new → (Answers (asked x t o T l) old r new U) × (o ≡ asked_places x o T l)
  unfolding asked asked_places
  asked_call U n m q h =
      rw (ne_eqb x letter.all_within n, ne_eqb x letter.all_containing m) (called_put x T (call_of x t l T) a U q h, refl)

-- a line with a list: the list was read, or a lookup was refused
module _ {old new : List ℕ} {r : ℕ} (x t : ℕ) (fs : List (List ℕ)) (o : List ℕ) (T : Tables) where
  pub ask_typed : (l m : List ℕ) (U : Tables) → looked_up T.register fs ≡ typed l →
      (Answers (asked x t o T l) old r new U) × (m ≡ asked_places x o T l) → (Answers (ask_line x t fs o T) old r new U) × (m ≡ ask_places x fs o T)
  unfolding ask_line with_list typed_places
  ask_typed l m U e h = rw e h

  pub ask_stopped : (n v : ℕ) → looked_up T.register fs ≡ stopped n v → ReplyStands old (reply_line x n v []) r new →
      (Answers (ask_line x t fs o T) old r new T) × (o ≡ ask_places x fs o T)
  unfolding ask_line with_list typed_places
  ask_stopped n v e h = rw e (record { reply = h; left = refl }, refl)

-- a line, by its letter
module _ {old new : List ℕ} {r : ℕ} (p : Parsed) (o s : List ℕ) (T : Tables) where
  pub other_served : p ≡ none → ReplyStands old other_line r new → (Answers (at_desk p o s T) old r new T) × (Outputs p o s T o s)
  unfolding at_desk places_after sheet_after
  other_served e h = (rw e (record { reply = h; left = refl }), record { places = rw e refl; sheet = rw e refl })

  module _ (x t : ℕ) (fs : List (List ℕ)) (e : p ≡ line x t fs) where
    pub register_served : (U : Tables) → x ≡ letter.registers → Answers (register_line fs T) old r new U →
        (Answers (at_desk p o s T) old r new U) × (Outputs p o s T o s)
    unfolding at_desk places_after sheet_after
    register_served U i h =
        let q = eq-eqb x letter.registers i in (rw (e, q) h, record { places = rw (e, q) refl; sheet = rw (e, q) refl })

    pub write_served : (m : List ℕ) → x ≡ letter.writes → ReplyStands old (write_line T s).says r new → m ≡ memory (writing T s) s →
        (Answers (at_desk p o s T) old r new T) × (Outputs p o s T o m)
    unfolding at_desk places_after sheet_after write_line
    write_served m i h f =
        let q = ne_eqb x letter.registers (λ g. absurd (omega (arith, g, i))) in
        let w = eq-eqb x letter.writes i in
        (rw (e, q, w) (record { reply = h; left = refl }), record { places = rw (e, q, w) refl; sheet = rw (e, q, w) f })

    pub ask_served : (m : List ℕ) (U : Tables) → (x ≡ letter.registers → ⊥) → (x ≡ letter.writes → ⊥) →
        (Answers (ask_line x t fs o T) old r new U) × (m ≡ ask_places x fs o T) → (Answers (at_desk p o s T) old r new U) × (Outputs p o s T m s)
    unfolding at_desk places_after sheet_after
    ask_served m U n1 n2 h =
        let q = ne_eqb x letter.registers n1 in
        let w = ne_eqb x letter.writes n2 in
        (rw (e, q, w) h.0, record { places = rw (e, q, w) h.1; sheet = rw (e, q, w) refl })

-- two outcomes that meet the promise of a line are one
pub answer_line_pinned : (l o s old : List ℕ) (T : Tables) (r r' : ℕ) (new new' : List ℕ) (U U' : Tables) (p p' t t' : List ℕ)
    → Answers (at_desk (parsed l) o s T) old r new U → Answers (at_desk (parsed l) o s T) old r' new' U'
    → Outputs (parsed l) o s T p t → Outputs (parsed l) o s T p' t'
    → (r ≡ r') × (new ≡ new') × (U ≡ U') × (p ≡ p') × (t ≡ t')
answer_line_pinned l o s old T r r' new new' U U' p p' t t' a b c d = (
  a.reply.put.behind ∙ sym b.reply.put.behind,
  a.reply.put.lies ∙ sym b.reply.put.lies,
  a.left ∙ sym b.left,
  c.places ∙ sym d.places,
  c.sheet ∙ sym d.sheet,
)
