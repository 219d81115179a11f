-- The demands at the desk. The file and the law that prove a statement stand behind "Proof", in proofs/.
use Rattle.std.specs.Prelude.{◌≡◌, ◌↔◌, true, cond, List, [], ◌∷◌, ◌++◌, ℕ, ◌≤◌, length, eqb}
use Rattle.ground.specs.Lists.{anyb}
use Rattle.ground.specs.Calls.{number_of, value_of, leaves}
use Rattle.ground.specs.Tables.{Tables}
use Rattle.nodes.specs.Held.{tags_of}
use Rattle.questions.specs.Questions.{is_within, is_containing}
use Rattle.sheet.specs.Sheet.{Contents, encode}
use Rattle.catalogue.specs.Calls.{Call, empty_both, register_part, look_up, show_at, insert_kit, find_kit, delete_kit, any_within, any_containing}
use Rattle.catalogue.specs.Calls.{count_kits, all_within, all_containing, all_almost, turn_within, turn_containing, write_sheet, read_sheet, salvage_sheet}
use Rattle.catalogue.specs.Calls.{read_card, write_card}
use Rattle.demands.specs.Model.{Allowed, tables_of, entered, listed_in, answering}
use Rattle.demands.specs.Demand1.{told}
use Rattle.demands.specs.Demand3.{Writes, Agree}
use Rattle.desk_text.specs.Letters as letter
use Rattle.desk_text.specs.Lines.{Parsed, none, line, parsed}
use Rattle.desk_input.specs.Lines.{answered}
use Rattle.desk_replies.specs.Replies.{tags_text, reply_line, other_line}
use Rattle.desk_lines.specs.Sizes.{desk_slots, desk_nodes, output_places}
use Rattle.desk_lines.specs.Desk.{sheet_text, at_desk, left_by}
use Rattle.desk_demands.specs.Text.{replies_to}
use Rattle.desk_demands.specs.Made.{calls_of_line, desk_of, tables_after}

-- [14.17] After any input the desk has the tables of a catalogue that was begun empty and brought on by the calls that its lines make: whatever the
-- demands say of such catalogues, they say of the desk. Proof: Made, `desk_is_catalogue`
abbrev pub DeskIsCatalogue : Type 0
DeskIsCatalogue = (input : List ℕ) → (tables_after input ≡ tables_of (desk_of input)) × Allowed (desk_of input)

-- [14.18] DEMAND 3 of two desks: the sheets that W writes, with room, agree in every byte exactly when what the accepted calls left is the same.
-- Proof: Made, `desks_tell`
abbrev pub DesksTell : Type 0
DesksTell =
    (input input' o p s t : List ℕ) → Writes (tables_after input) o s → Writes (tables_after input') p t →
    (s ≡ t) ↔ Agree (entered (desk_of input)) (entered (desk_of input'))

-- DEMANDS 1 AND 2: every reply, in terms of the calls that the line makes and of what the accepted calls before it left (`told`, `answering`).
-- "then tags for b and s, or the sheet in capital hex for W": what a call of the desk shows behind its number and value
unfoldable pub shown_for : Contents → Call → List ℕ
shown_for m (all_within l o) = tags_text (tags_of (answering is_within l m))
shown_for m (all_containing l o) = tags_text (tags_of (answering is_containing l m))
shown_for m (write_sheet o) = sheet_text (encode (listed_in m))
shown_for m empty_both = []
shown_for m (register_part n) = []
shown_for m (look_up n) = []
shown_for m (show_at p) = []
shown_for m (insert_kit l t) = []
shown_for m (find_kit l) = []
shown_for m (delete_kit l) = []
shown_for m (count_kits l) = []
shown_for m (any_within l) = []
shown_for m (any_containing l) = []
shown_for m (all_almost d l o) = []
shown_for m (turn_within l b) = []
shown_for m (turn_containing l b) = []
shown_for m (read_sheet s) = []
shown_for m (salvage_sheet s) = []
shown_for m (write_card l o) = []
shown_for m (read_card s) = []

-- "A reply line is letter, number, value", and what is shown "when done": the reply of a desk that has m to a call, with the letter x
unfoldable pub told_line : ℕ → Contents → Call → List ℕ
told_line x m c = let r = told desk_slots desk_nodes m c in reply_line x (number_of r) (value_of r) (leaves r [] (shown_for m c))

-- to a line that makes some calls: the last is the answer; "Other lines answer `?`"
unfoldable pub told_of : ℕ → Contents → List Call → List ℕ
told_of x m [] = other_line
told_of x m (c ∷ []) = told_line x m c
told_of x m (c ∷ d ∷ cs) = told_of x m (d ∷ cs)

abbrev pub letter_of : Parsed → ℕ
letter_of none = 0
letter_of (line x t fs) = x

-- [14.19] after any input, to any line, whatever outputs are lent. Proof: Told, `desk_told`
abbrev pub DeskTold : Type 0
DeskTold =
    (input l o s : List ℕ) →
    (at_desk (parsed l) o s (tables_after input)).says
    ≡ told_of (letter_of (parsed l)) (entered (desk_of input)) (calls_of_line (parsed l) o s (tables_after input))

-- (the replies to some lines, one after the other, are these: the last is what is answered to the last line on the tables that those before
-- it left) Proof: Outputs, `replies_in_turn`
abbrev pub RepliesInTurn : Type 0
RepliesInTurn =
    (ls : List (List ℕ)) (l o s : List ℕ) (T : Tables) →
    replies_to (ls ++ (l ∷ [])) o s T ≡ replies_to ls o s T ++ (at_desk (parsed l) o s (answered left_by ls T)).says

-- The numbers that a reply may have, by its letter. 1 and 2 are not among them, since the desk's tables are never damaged; nor 5,
-- since places are looked up; nor 13 and 14, whose calls it never makes; nor 12 for b and s, since 2,048 places are enough for 2,048 nodes.
unfoldable pub numbers_of : ℕ → List ℕ
numbers_of x =
    cond (eqb x letter.registers) (0 ∷ 3 ∷ 9 ∷ 12 ∷ 16 ∷ [])
    (cond (eqb x letter.writes) (0 ∷ 12 ∷ [])
    (cond (eqb x letter.inserts) (0 ∷ 3 ∷ 4 ∷ 6 ∷ 7 ∷ 8 ∷ 9 ∷ 10 ∷ 11 ∷ 12 ∷ 19 ∷ [])
    (0 ∷ 3 ∷ 4 ∷ 6 ∷ 11 ∷ [])))

-- a reply: `?`, or a letter with one of its numbers
pub data Said : List ℕ → Type 0 where
  other : Said other_line
  reply : (x n v : ℕ) (rest : List ℕ) → anyb (eqb n) (numbers_of x) ≡ true → Said (reply_line x n v rest)

-- [13.19] (its bytes tell the letter and the number) Proof: Numbers, `one_number`
abbrev pub OneNumber : Type 0
OneNumber =
    (x n v : ℕ) (rest : List ℕ) (x' n' v' : ℕ) (rest' : List ℕ) → reply_line x n v rest ≡ reply_line x' n' v' rest' → (x ≡ x') × (n ≡ n')

-- [13.19] after any input, to any line, with the desk's places. Proof: Said, `never_said`
abbrev pub NeverSaid : Type 0
NeverSaid = (input l o s : List ℕ) → output_places ≤ length o → Said (at_desk (parsed l) o s (tables_after input)).says

-- [14.19] What the outputs held before a line never shows in its reply, so it does not matter what is lent but how much. Proof: Outputs,
-- `outputs_never_show`
abbrev pub OutputsNeverShow : Type 0
OutputsNeverShow =
    (p : Parsed) (o s o' s' : List ℕ) (T : Tables) → length o ≡ length o' → length s ≡ length s' →
    (at_desk p o s T).says ≡ (at_desk p o' s' T).says
