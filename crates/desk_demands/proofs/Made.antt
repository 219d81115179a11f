-- The desk is a catalogue: its tables are those that the calls of its lines leave, and two desks tell each other by their sheets.
use mathlib.Core.Path.{◌≡◌, refl, sym, ap, subst, ◌∙◌}
use mathlib.Core.Bool.{Bool, true, false, cond, ◌&&◌}
use mathlib.Core.List.{List, [], ◌∷◌, ◌++◌}
use Prim.Native.Nat.{ℕ, ◌<◌}
use native.Mathlib.Omega.{arith}
use lib.ListN.{length, get_or}
use lib.Dec.{eqb, leb}
use borrow.Author.Tests.{leb-true}
use Rattle.ground.specs.Lists.{every, allb, anyb}
use Rattle.ground.specs.Limits.{two_limit}
use Rattle.ground.specs.Calls.{Plan, Reply, done, refused, answer, leaves, memory}
use Rattle.ground.specs.Tables.{Tables}
use Rattle.ground.proofs.Laws.{by_cond, every_at, and_left}
use Rattle.register.specs.Calls.{looking_up}
use Rattle.nodes.proofs.Sorted.{Every, none as no_more, also, every_mem, every_append}
use Rattle.sheet.specs.Bytes.{Bytes}
use Rattle.questions.specs.Questions.{is_within, is_containing}
use Rattle.catalogue.specs.Calls.{Call, empty_both, register_part, look_up, show_at, insert_kit, find_kit, delete_kit, any_within, any_containing}
use Rattle.catalogue.specs.Calls.{count_kits, all_within, all_containing, all_almost, turn_within, turn_containing, write_sheet, read_sheet, salvage_sheet, plan_of}
use Rattle.catalogue.specs.Calls.{inserting, finding, deleting, any_kit, read_card, write_card}
use Rattle.demands.specs.Model.{run, ReadsBytes, sheet, torn, card, TypesSay, Allowed, begun, tables_of}
use Rattle.demands.specs.Demand3.{Writes}
use Rattle.demands.proofs.Sheets.{sheets_tell}
use Rattle.desk_text.specs.Letters as letter
use Rattle.desk_text.specs.Amounts.{amount_of, largest_amount, small, good_amount}
use Rattle.desk_text.specs.Lines.{longest_line, fields_of, filled, good_pairs, Parsed, none, line, line_if, exactly, pairs, amount_and_pairs}
use Rattle.desk_text.specs.Lines.{behind_letter, lettered, parsed}
use Rattle.desk_input.specs.Lines.{lines_of, answered}
use Rattle.desk_lists.specs.Typed.{Typed, typed, stopped, looked_up}
use Rattle.desk_lines.specs.Sizes.{empty_desk, begun_desk}
use Rattle.desk_lines.specs.Desk.{Answered, called, register_line, write_line, with_list, call_of, asked, ask_line, at_desk, left_by}
use Rattle.desk_lines.proofs.Answering.{leaves_same}
use Rattle.desk_demands.specs.Text.{lent_places, lent_sheet}
use Rattle.desk_demands.specs.Made.{lookups, call_with, call_behind, calls_of_line, calls_of, desk_of}
use Rattle.desk_demands.specs.Demands.{DeskIsCatalogue, DesksTell}

------------------------------------------------------------------------
-- The tables that calls leave

run_append : (cs ds : List Call) (T : Tables) → run (cs ++ ds) T ≡ run ds (run cs T)
unfolding run
run_append [] ds T = refl
run_append (c ∷ cs) ds T = run_append cs ds (memory (plan_of c T) T)

look_keeps : (n : List ℕ) (T : Tables) → memory (plan_of (look_up n) T) T ≡ T
unfolding plan_of looking_up memory
look_keeps n T = leaves_same (answer (plan_of (look_up n) T)) T

lookups_keep : (fs : List (List ℕ)) (T : Tables) → run (lookups T.register fs) T ≡ T
unfolding run lookups leaves
lookups_keep [] T = refl
lookups_keep (n ∷ []) T = refl
lookups_keep (n ∷ q ∷ fs) T =
    ap (run (leaves (answer (looking_up n T.register)) [] (lookups T.register fs))) (look_keeps n T)
    ∙ go (answer (looking_up n T.register)) (lookups_keep fs T)
  where
    go : (r : Reply) → run (lookups T.register fs) T ≡ T → run (leaves r [] (lookups T.register fs)) T ≡ T
    go (done v) e = e
    go (refused m v) e = refl

-- the tables after one call, by which call it is
module _ (T : Tables) where
  unfoldable after_call : Call → Tables
  after_call c = memory (plan_of c T) T

  by_letter : (b : Bool) (c d : Call) (x y : Answered) → after_call c ≡ x.after → after_call d ≡ y.after →
      after_call (cond b c d) ≡ (cond b x y).after
  by_letter true c d x y e f = e
  by_letter false c d x y e f = f

  by_plan : (b : Bool) (c d : Call) (p q : Plan Tables) → after_call c ≡ memory p T → after_call d ≡ memory q T →
      after_call (cond b c d) ≡ memory (cond b p q) T
  by_plan true c d p q e f = e
  by_plan false c d p q e f = f

  -- a call that sets something down leaves the tables
  all_keeps : (c : Call) → (plan_of c T).after ≡ T → after_call c ≡ T
  unfolding after_call memory
  all_keeps c e = ap (leaves (answer (plan_of c T)) T) e ∙ leaves_same (answer (plan_of c T)) T

  call_left : (x t : ℕ) (o l : List ℕ) → after_call (call_with x t o l) ≡ (asked x t [] T l).after
  unfolding call_with asked called call_of after_call plan_of
  call_left x t o l =
      by_letter (eqb x letter.all_within) _ _ _ _ (all_keeps (all_within l o) refl)
      (by_letter (eqb x letter.all_containing) _ _ _ _ (all_keeps (all_containing l o) refl)
      (by_plan (eqb x letter.inserts) _ _ (inserting l t T) _ refl
      (by_plan (eqb x letter.finds) _ _ (finding l T) _ refl
      (by_plan (eqb x letter.deletes) _ _ (deleting l T) _ refl
      (by_plan (eqb x letter.any_within) (any_within l) (any_containing l) (any_kit is_within l T) (any_kit is_containing l T) refl refl)))))

  behind_left : (x t : ℕ) (o : List ℕ) (r : Typed) → run (call_behind x t o r) T ≡ (with_list x T (asked x t [] T) r).after
  unfolding run call_behind with_list after_call
  behind_left x t o (typed l) = call_left x t o l
  behind_left x t o (stopped n v) = refl

  list_left : (x t : ℕ) (fs : List (List ℕ)) (o : List ℕ) →
      run (lookups T.register fs ++ call_behind x t o (looked_up T.register fs)) T ≡ (ask_line x t fs [] T).after
  unfolding ask_line
  list_left x t fs o =
      let cs = call_behind x t o (looked_up T.register fs) in
      run_append (lookups T.register fs) cs T ∙ ap (run cs) (lookups_keep fs T) ∙ behind_left x t o (looked_up T.register fs)

  by_line : (b : Bool) (cs ds : List Call) (x y : Answered) → run cs T ≡ x.after → run ds T ≡ y.after →
      run (cond b cs ds) T ≡ (cond b x y).after
  by_line true cs ds x y e f = e
  by_line false cs ds x y e f = f

  -- the calls of a line leave what the line leaves
  pub line_left : (p : Parsed) (o s : List ℕ) → run (calls_of_line p o s T) T ≡ (at_desk p [] [] T).after
  unfolding run calls_of_line at_desk register_line called write_line plan_of after_call
  line_left none o s = refl
  line_left (line x t fs) o s =
      by_line (eqb x letter.registers) _ _ _ _ refl
      (by_line (eqb x letter.writes) _ _ _ _ (all_keeps (write_sheet s) refl) (list_left x t fs o))

-- and those of many lines
lines_left : (ls : List (List ℕ)) (o s : List ℕ) (T : Tables) → answered left_by ls T ≡ run (calls_of ls o s T) T
unfolding answered left_by calls_of run
lines_left [] o s T = refl
lines_left (l ∷ ls) o s T =
    let cs = calls_of_line (parsed l) o s T in
    let e : run cs T ≡ (at_desk (parsed l) [] [] T).after = line_left T (parsed l) o s in
    ap (answered left_by ls) (sym e) ∙ lines_left ls o s (run cs T) ∙ sym (run_append cs (calls_of ls o s (run cs T)) T)

------------------------------------------------------------------------
-- The calls are of an allowed kind: a tag is typed as an amount, and no sheet is read

abbrev TagFits : Parsed → Type 0
TagFits none = Unit
TagFits (line x t fs) = t < two_limit

if_fits : (b : Bool) (x t : ℕ) (fs : List (List ℕ)) → (b ≡ true → t < two_limit) → TagFits (line_if b x t fs)
unfolding line_if
if_fits b x t fs h = by_cond TagFits b (line x t fs) none h (λ _. tt)

amount_fits : (f : List ℕ) → good_amount f ≡ true → amount_of f < two_limit
unfolding good_amount small
amount_fits f h = omega (arith, leb-true (amount_of f) largest_amount (every_at _ 1 (every_at _ 3 h)))

tag_fits : (x : ℕ) (fs : List (List ℕ)) → TagFits (amount_and_pairs x fs)
unfolding amount_and_pairs
tag_fits x [] = tt
tag_fits x (t ∷ fs) =
    if_fits (good_amount t && good_pairs fs) x (amount_of t) fs (λ h. amount_fits t (and_left (good_amount t) (good_pairs fs) h))

no_tag : 0 < two_limit
no_tag = omega arith

letter_fits : (x : ℕ) (fs : List (List ℕ)) → TagFits (behind_letter x fs)
unfolding behind_letter exactly pairs
letter_fits x fs =
    by_cond TagFits (eqb x letter.registers) _ _ (λ _. if_fits _ x 0 fs (λ _. no_tag)) (λ _.
    by_cond TagFits (eqb x letter.inserts) _ _ (λ _. tag_fits x fs) (λ _.
    by_cond TagFits (eqb x letter.writes) _ _ (λ _. if_fits _ x 0 fs (λ _. no_tag)) (λ _.
    by_cond TagFits (anyb (eqb x) letter.takes_list) _ none (λ _. if_fits _ x 0 fs (λ _. no_tag)) (λ _. tt))))

fields_fit : (fs : List (List ℕ)) → TagFits (lettered fs)
unfolding lettered
fields_fit [] = tt
fields_fit (f ∷ fs) = by_cond TagFits (eqb (length f) 1) (behind_letter (get_or f 0 0) fs) none (λ _. letter_fits (get_or f 0 0) fs) (λ _. tt)

line_fits : (l : List ℕ) → TagFits (parsed l)
unfolding parsed
line_fits l =
    let good = every (leb 1 (length l) ∷ leb (length l) longest_line ∷ allb filled (fields_of l) ∷ []) in
    by_cond TagFits good (lettered (fields_of l)) none (λ _. fields_fit (fields_of l)) (λ _. tt)

-- of a call: its tag is a 16-bit number, and it reads bytes
abbrev Fit : Call → Type 0
Fit empty_both = Unit
Fit (register_part n) = Unit
Fit (look_up n) = Unit
Fit (show_at p) = Unit
Fit (insert_kit l t) = t < two_limit
Fit (find_kit l) = Unit
Fit (delete_kit l) = Unit
Fit (count_kits l) = Unit
Fit (any_within l) = Unit
Fit (any_containing l) = Unit
Fit (all_within l o) = Unit
Fit (all_containing l o) = Unit
Fit (all_almost d l o) = Unit
Fit (turn_within l b) = Unit
Fit (turn_containing l b) = Unit
Fit (write_sheet o) = Unit
Fit (read_sheet s) = Bytes s
Fit (salvage_sheet s) = Bytes s
Fit (write_card l o) = Unit
Fit (read_card s) = Bytes s

fit_bytes : {s : List ℕ} {c : Call} → ReadsBytes s c → Fit c → Bytes s
fit_bytes sheet f = f
fit_bytes torn f = f
fit_bytes card f = f

fit_typed : (c : Call) → Fit c → TypesSay c
fit_typed c f = record { tag = λ l t e. subst Fit (sym e) f; bytes = λ s r. fit_bytes r f }

lookups_fit : (R : List ℕ) (fs : List (List ℕ)) → Every Fit (lookups R fs)
unfolding lookups leaves
lookups_fit R [] = no_more
lookups_fit R (n ∷ []) = no_more
lookups_fit R (n ∷ q ∷ fs) = also tt (go (answer (looking_up n R)) (lookups_fit R fs))
  where
    go : (r : Reply) → Every Fit (lookups R fs) → Every Fit (leaves r [] (lookups R fs))
    go (done v) e = e
    go (refused m v) e = no_more

with_fits : (x t : ℕ) (o l : List ℕ) → t < two_limit → Fit (call_with x t o l)
unfolding call_with
with_fits x t o l h =
    by_cond Fit (eqb x letter.all_within) (all_within l o) _ (λ _. tt) (λ _.
    by_cond Fit (eqb x letter.all_containing) (all_containing l o) _ (λ _. tt) (λ _.
    by_cond Fit (eqb x letter.inserts) (insert_kit l t) _ (λ _. h) (λ _.
    by_cond Fit (eqb x letter.finds) (find_kit l) _ (λ _. tt) (λ _.
    by_cond Fit (eqb x letter.deletes) (delete_kit l) _ (λ _. tt) (λ _.
    by_cond Fit (eqb x letter.any_within) (any_within l) (any_containing l) (λ _. tt) (λ _. tt))))))

behind_fits : (x t : ℕ) (o : List ℕ) (r : Typed) → t < two_limit → Every Fit (call_behind x t o r)
unfolding call_behind
behind_fits x t o (typed l) h = also (with_fits x t o l h) no_more
behind_fits x t o (stopped n v) h = no_more

line_calls_fit : (p : Parsed) (o s : List ℕ) (T : Tables) → TagFits p → Every Fit (calls_of_line p o s T)
unfolding calls_of_line
line_calls_fit none o s T h = no_more
line_calls_fit (line x t fs) o s T h =
    by_cond (Every Fit) (eqb x letter.registers) (register_part (get_or fs 0 []) ∷ []) _ (λ _. also tt no_more) (λ _.
    by_cond (Every Fit) (eqb x letter.writes) (write_sheet s ∷ []) _ (λ _. also tt no_more) (λ _.
    every_append (lookups_fit T.register fs) (behind_fits x t o (looked_up T.register fs) h)))

calls_fit : (ls : List (List ℕ)) (o s : List ℕ) (T : Tables) → Every Fit (calls_of ls o s T)
unfolding calls_of
calls_fit [] o s T = no_more
calls_fit (l ∷ ls) o s T =
    every_append (line_calls_fit (parsed l) o s T (line_fits l)) (calls_fit ls o s (run (calls_of_line (parsed l) o s T) T))

------------------------------------------------------------------------
-- The statements

pub desk_allowed : (input : List ℕ) → Allowed (desk_of input)
unfolding desk_of
desk_allowed input =
    let f = calls_fit (lines_of input) lent_places lent_sheet begun_desk in
    record {
      some_slot = omega arith;
      few_slots = omega arith;
      some_node = omega arith;
      few_nodes = omega arith;
      typed = λ c m. fit_typed c (every_mem f m);
    }

pub desk_is_catalogue : DeskIsCatalogue
unfolding desk_of tables_of begun begun_desk empty_desk
desk_is_catalogue input = (lines_left (lines_of input) lent_places lent_sheet begun_desk, desk_allowed input)

pub desks_tell : DesksTell
desks_tell input input' o p s t w u =
    let a = desk_is_catalogue input in
    let b = desk_is_catalogue input' in
    sheets_tell (desk_of input) (desk_of input') o p s t a.1 b.1 (subst (λ (T : Tables). Writes T o s) a.0 w)
    (subst (λ (T : Tables). Writes T p t) b.0 u)
