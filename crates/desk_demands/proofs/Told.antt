-- Every reply of the desk is told by the calls of the line and by what the accepted calls before it left.
use mathlib.Core.Path.{◌≡◌, refl, sym, ap, subst, ◌∙◌}
use mathlib.Core.Bool.{Bool, true, false, cond}
use mathlib.Core.List.{List, [], ◌∷◌, ◌++◌, append-nil}
use Prim.Native.Nat.{ℕ}
use lib.ListN.{get_or}
use lib.Dec.{eqb}
use borrow.Author.Tests.{eqb-true}
use Rattle.ground.specs.Calls.{Plan, Reply, done, refused, number_of, value_of, answer, leaves, set_down}
use Rattle.ground.specs.Tables.{Tables}
use Rattle.register.specs.Register.{slot_count}
use Rattle.register.specs.Calls.{looking_up}
use Rattle.nodes.specs.Nodes.{size}
use Rattle.nodes.specs.Held.{tags_of}
use Rattle.questions.specs.Questions.{is_within, is_containing, all_of}
use Rattle.sheet.specs.Sheet.{Contents, encode}
use Rattle.tables.specs.Lent.{lent_both, lent_list}
use Rattle.catalogue.specs.Calls.{contents, Call, register_part, look_up, insert_kit, find_kit, delete_kit, any_within, any_containing}
use Rattle.catalogue.specs.Calls.{all_within, all_containing, write_sheet, plan_of, inserting, finding, deleting, any_kit, all_kits, writing}
use Rattle.demands.specs.Model.{entered}
use Rattle.demands.specs.Demand1.{told}
use Rattle.demands.proofs.Brought.{Brought, brought}
use Rattle.demands.proofs.NeverEmpty.{AllListed, never_empty}
use Rattle.demands.proofs.Sizes.{sizes}
use Rattle.demands.proofs.Answers.{the_fitting, has_contents}
use Rattle.demands.proofs.Told.{call_told}
use Rattle.desk_text.specs.Letters as letter
use Rattle.desk_text.specs.Lines.{Parsed, none, line, parsed}
use Rattle.desk_replies.specs.Replies.{tags_text, reply_line}
use Rattle.desk_lists.specs.Typed.{Typed, typed, stopped, in_front_of, looked_up}
use Rattle.desk_text.specs.Amounts.{amount_of}
use Rattle.desk_lines.specs.Sizes.{desk_slots, desk_nodes}
use Rattle.desk_lines.specs.Desk.{Answered, called, shown, sheet_text, register_line, write_line, with_list, call_of, asked, ask_line, at_desk}
use Rattle.desk_demands.specs.Made.{lookups, call_with, call_behind, calls_of_line, desk_of}
use Rattle.desk_demands.specs.Demands.{shown_for, told_line, told_of, letter_of, DeskTold}
use Rattle.desk_demands.proofs.Made.{desk_is_catalogue}
use Rattle.desk_demands.proofs.Outputs.{said_of, room, shown_is}

-- the last of some calls is the answer
last_told : (x : ℕ) (m : Contents) (cs : List Call) (c : Call) → told_of x m (cs ++ (c ∷ [])) ≡ told_line x m c
unfolding told_of
last_told x m [] c = refl
last_told x m (d ∷ []) c = refl
last_told x m (d ∷ e ∷ cs) c = last_told x m (e ∷ cs) c

-- lookups of which the last was refused, with n and v: the answer that it gives
record Ends (m : Contents) (x n v : ℕ) (cs : List Call) : Type 0 where
  front : List Call
  last : Call
  is : cs ≡ front ++ (last ∷ [])
  says : reply_line x n v [] ≡ told_line x m last

abbrev EndsIf : Contents → ℕ → Typed → List Call → Type 0
EndsIf m x (typed l) cs = Unit
EndsIf m x (stopped n v) cs = Ends m x n v cs

-- Tables of the desk's size that have m
module _ {T : Tables} {m : Contents} (b : Brought T m) (all : AllListed T) (hs : slot_count T.register ≡ desk_slots)
    (hr : size T.nodes ≡ desk_nodes) where
  pub is_told : (c : Call) → answer (plan_of c T) ≡ told desk_slots desk_nodes m c
  is_told c = call_told b all desk_slots desk_nodes hs hr c

  -- a call that shows nothing, and one that sets something down
  call_line : (x : ℕ) (c : Call) → shown_for m c ≡ [] →
      reply_line x (number_of (answer (plan_of c T))) (value_of (answer (plan_of c T))) [] ≡ told_line x m c
  unfolding told_line leaves
  call_line x c e =
      ap (λ (r : Reply). reply_line x (number_of r) (value_of r) []) (is_told c) ∙ ap (reply_line x _ _) (go (told desk_slots desk_nodes m c))
    where
      go : (r : Reply) → [] ≡ leaves r [] (shown_for m c)
      go (done v) = sym e
      go (refused n v) = refl

  shown_line : (x : ℕ) (print : List ℕ → List ℕ) (c : Call) (xs : List ℕ) → print xs ≡ shown_for m c →
      reply_line x (number_of (answer (plan_of c T))) (value_of (answer (plan_of c T))) (leaves (answer (plan_of c T)) [] (print xs)) ≡ told_line x m c
  unfolding told_line
  shown_line x print c xs e =
      ap (λ (r : Reply). reply_line x (number_of r) (value_of r) (leaves r [] (print xs))) (is_told c)
      ∙ ap (λ (ys : List ℕ). let r = told desk_slots desk_nodes m c in reply_line x (number_of r) (value_of r) (leaves r [] ys)) e

  listed_within : (x : ℕ) (l o : List ℕ) → shown x tags_text (all_kits is_within l T o) o ≡ told_line x m (all_within l o)
  unfolding all_kits all_of plan_of answer set_down said_of room shown_for
  listed_within x l o =
      shown_is x tags_text (lent_list T l) (all_of is_within l T.nodes) o
      ∙ shown_line x tags_text (all_within l o) (all_of is_within l T.nodes) (ap (λ ks. tags_text (tags_of ks)) (the_fitting b is_within l))

  listed_containing : (x : ℕ) (l o : List ℕ) → shown x tags_text (all_kits is_containing l T o) o ≡ told_line x m (all_containing l o)
  unfolding all_kits all_of plan_of answer set_down said_of room shown_for
  listed_containing x l o =
      shown_is x tags_text (lent_list T l) (all_of is_containing l T.nodes) o
      ∙ shown_line x tags_text (all_containing l o) (all_of is_containing l T.nodes)
      (ap (λ ks. tags_text (tags_of ks)) (the_fitting b is_containing l))

  written_told : (x : ℕ) (s : List ℕ) → shown x sheet_text (writing T s) s ≡ told_line x m (write_sheet s)
  unfolding writing plan_of answer set_down said_of room shown_for
  written_told x s =
      shown_is x sheet_text (lent_both T) (encode (contents T)) s
      ∙ shown_line x sheet_text (write_sheet s) (encode (contents T)) (ap (λ (c : Contents). sheet_text (encode c)) (has_contents b))

  module _ (x t : ℕ) (o : List ℕ) where
    by_letter : (z : Bool) (u v : Answered) (c d : Call) → u.says ≡ told_line x m c → v.says ≡ told_line x m d →
        (cond z u v).says ≡ told_line x m (cond z c d)
    by_letter true u v c d e f = e
    by_letter false u v c d e f = f

    unfoldable plainly : Plan Tables → List ℕ
    plainly p = reply_line x (number_of (answer p)) (value_of (answer p)) []

    by_plan : (z : Bool) (p q : Plan Tables) (c d : Call) → plainly p ≡ told_line x m c → plainly q ≡ told_line x m d →
        plainly (cond z p q) ≡ told_line x m (cond z c d)
    by_plan true p q c d e f = e
    by_plan false p q c d e f = f

    asked_told : (l : List ℕ) → (asked x t o T l).says ≡ told_line x m (call_with x t o l)
    unfolding asked called call_of call_with plainly plan_of shown_for
    asked_told l =
        by_letter (eqb x letter.all_within) _ _ _ _ (listed_within x l o)
        (by_letter (eqb x letter.all_containing) _ _ _ _ (listed_containing x l o)
        (by_plan (eqb x letter.inserts) (inserting l t T) _ _ _ (call_line x (insert_kit l t) refl)
        (by_plan (eqb x letter.finds) (finding l T) _ _ _ (call_line x (find_kit l) refl)
        (by_plan (eqb x letter.deletes) (deleting l T) _ _ _ (call_line x (delete_kit l) refl)
        (by_plan (eqb x letter.any_within) (any_kit is_within l T) (any_kit is_containing l T) _ _ (call_line x (any_within l) refl)
        (call_line x (any_containing l) refl))))))

    lookups_end : (fs : List (List ℕ)) → EndsIf m x (looked_up T.register fs) (lookups T.register fs)
    unfolding looked_up lookups in_front_of leaves plan_of answer shown_for
    lookups_end [] = tt
    lookups_end (n ∷ []) = tt
    lookups_end (n ∷ q ∷ fs) = go (answer (looking_up n T.register)) refl (looked_up T.register fs) (lookups_end fs)
      where
        go : (r : Reply) → answer (looking_up n T.register) ≡ r → (y : Typed) → EndsIf m x y (lookups T.register fs) →
            EndsIf m x (in_front_of r (amount_of q) y) (look_up n ∷ leaves r [] (lookups T.register fs))
        go (refused k v) e y h =
            record {
              front = [];
              last = look_up n;
              is = refl;
              says = ap (λ (r : Reply). reply_line x (number_of r) (value_of r) []) (sym e) ∙ call_line x (look_up n) refl;
            }
        go (done p) e (typed l) h = tt
        go (done p) e (stopped k v) h =
            record { front = look_up n ∷ h.front; last = h.last; is = ap (◌∷◌ (look_up n)) h.is; says = h.says }

    behind_told : (y : Typed) (cs : List Call) → EndsIf m x y cs → (with_list x T (asked x t o T) y).says ≡ told_of x m (cs ++ call_behind x t o y)
    unfolding with_list call_behind
    behind_told (typed l) cs h = asked_told l ∙ sym (last_told x m cs (call_with x t o l))
    behind_told (stopped n v) cs h =
        h.says ∙ sym (last_told x m h.front h.last) ∙ ap (told_of x m) (sym h.is ∙ sym (append-nil cs))

    by_line : (z : Bool) (u v : Answered) (cs ds : List Call) → (z ≡ true → u.says ≡ told_of x m cs) → v.says ≡ told_of x m ds →
        (cond z u v).says ≡ told_of x m (cond z cs ds)
    by_line true u v cs ds e f = e refl
    by_line false u v cs ds e f = f

    -- a letter that was tested for
    said_with : (y : ℕ) (c : Call) → eqb x y ≡ true → told_line y m c ≡ told_of x m (c ∷ [])
    unfolding told_of
    said_with y c h = ap (λ (z : ℕ). told_line z m c) (sym (eqb-true x y h))

  line_told : (p : Parsed) (o s : List ℕ) → (at_desk p o s T).says ≡ told_of (letter_of p) m (calls_of_line p o s T)
  unfolding at_desk register_line called write_line ask_line calls_of_line plan_of answer told_of shown_for
  line_told none o s = refl
  line_told (line x t fs) o s =
      let n = get_or fs 0 [] in
      by_line x t o (eqb x letter.registers) _ _ _ _
      (λ h. call_line letter.registers (register_part n) refl ∙ said_with x t o letter.registers (register_part n) h)
      (by_line x t o (eqb x letter.writes) _ _ _ _
      (λ h. written_told letter.writes s ∙ said_with x t o letter.writes (write_sheet s) h)
      (behind_told x t o (looked_up T.register fs) (lookups T.register fs) (lookups_end x t o fs)))

pub desk_told : DeskTold
unfolding desk_of
desk_told input l o s =
    let d = desk_is_catalogue input in
    let a = desk_of input in
    let z = sizes a d.1 in
    subst (λ (T : Tables). (at_desk (parsed l) o s T).says ≡ told_of (letter_of (parsed l)) (entered a) (calls_of_line (parsed l) o s T))
    (sym d.0) (line_told (brought a d.1) (never_empty a d.1) z.slots z.room (parsed l) o s)
