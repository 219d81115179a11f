-- Inner: no promise of the house rests on what stands here; inner contracts and proofs speak by it.
-- What the desk's functions ask of their outputs, and what a line leaves in the outputs.
use Rattle.std.specs.Prelude.{◌≡◌, cond, List, [], ℕ, ◌+◌, ◌*◌, ◌≤◌, length, take, eqb}
use Rattle.ground.specs.Calls.{Reply, number_of, value_of, leaves, memory}
use Rattle.questions.specs.Questions.{is_within, is_containing}
use Rattle.ground.specs.Tables.{Tables}
use Rattle.catalogue.specs.Calls.{all_kits, writing}
use Rattle.desk_text.specs.Lines.{Parsed, none, line}
use Rattle.desk_text.specs.Letters as letter
use Rattle.desk_replies.specs.Replies.{reply_line}
use Rattle.desk_replies.specs.Inner.{head_room, tag_room}
use Rattle.desk_lists.specs.Typed.{Typed, typed, stopped, looked_up}

------------------------------------------------------------------------
-- What the desk's functions ask and print

-- the output has room for every reply, whatever is listed in the places or written to the sheet
pub record Room (places sheet out : List ℕ) : Type 0 where
  pub listing : head_room + tag_room * length places + 1 ≤ length out
  pub written : head_room + 1 + 2 * length sheet + 1 ≤ length out

-- how much an answer says that it has set down
abbrev pub set_down_by : Reply → ℕ
set_down_by a = leaves a 0 (value_of a)

-- the reply to an answer that has set something down in an output
abbrev pub printed : ℕ → (List ℕ → List ℕ) → Reply → List ℕ → List ℕ
printed x print a o = reply_line x (number_of a) (value_of a) (leaves a [] (print (take (value_of a) o)))

------------------------------------------------------------------------
-- What a line leaves in the outputs that are lent to it. "What lies behind the answer keeps its contents."

-- the places o after a question on a list: "b and s list all"
unfoldable pub asked_places : ℕ → List ℕ → Tables → List ℕ → List ℕ
asked_places x o T l =
    cond (eqb x letter.all_within) (memory (all_kits is_within l T o) o)
    (cond (eqb x letter.all_containing) (memory (all_kits is_containing l T o) o) o)

-- a lookup that was refused leaves them
unfoldable pub typed_places : ℕ → List ℕ → Tables → Typed → List ℕ
typed_places x o T (typed l) = asked_places x o T l
typed_places x o T (stopped n v) = o

abbrev pub ask_places : ℕ → List (List ℕ) → List ℕ → Tables → List ℕ
ask_places x fs o T = typed_places x o T (looked_up T.register fs)

-- the places after a line
unfoldable pub places_after : Parsed → List ℕ → Tables → List ℕ
places_after none o T = o
places_after (line x t fs) o T =
    cond (eqb x letter.registers) o
    (cond (eqb x letter.writes) o
    (ask_places x fs o T))

-- the sheet bytes s after a line: "W writes"
unfoldable pub sheet_after : Parsed → List ℕ → Tables → List ℕ
sheet_after none s T = s
sheet_after (line x t fs) s T =
    cond (eqb x letter.registers) s
    (cond (eqb x letter.writes) (memory (writing T s) s) s)

-- the outputs after a line, of those before it
pub record Outputs (p : Parsed) (o s : List ℕ) (T : Tables) (o' s' : List ℕ) : Type 0 where
  pub places : o' ≡ places_after p o T
  pub sheet : s' ≡ sheet_after p s T
