-- Document 01, "The desk program", as calls: those that the lines of an input make, one after the other, and the catalogue that they bring on.
use Rattle.std.specs.Prelude.{cond, List, [], ◌∷◌, ◌++◌, ℕ, get_or, eqb}
use Rattle.ground.specs.Calls.{answer, leaves}
use Rattle.ground.specs.Tables.{Tables}
use Rattle.register.specs.Calls.{looking_up}
use Rattle.catalogue.specs.Calls.{Call, register_part, look_up, insert_kit, find_kit, delete_kit, any_within, any_containing, all_within}
use Rattle.catalogue.specs.Calls.{all_containing, write_sheet}
use Rattle.demands.specs.Model.{run, Catalogue}
use Rattle.desk_text.specs.Letters as letter
use Rattle.desk_text.specs.Lines.{Parsed, none, line, parsed}
use Rattle.desk_input.specs.Lines.{lines_of, answered}
use Rattle.desk_lists.specs.Typed.{Typed, typed, stopped, looked_up}
use Rattle.desk_lines.specs.Sizes.{desk_slots, desk_nodes, begun_desk}
use Rattle.desk_lines.specs.Desk.{left_by}
use Rattle.desk_demands.specs.Text.{lent_places, lent_sheet}

-- "Part numbers are looked up first, left to right; a lookup refusal is the answer": of some pairs the lookups, and none behind a refusal
unfoldable pub lookups : List ℕ → List (List ℕ) → List Call
lookups R [] = []
lookups R (n ∷ []) = []
lookups R (n ∷ q ∷ fs) = look_up n ∷ leaves (answer (looking_up n R)) [] (lookups R fs)

-- "K tag, then number and quantity pairs, inserts; F finds; D deletes; B any within; S any containing; b and s list all", in the places o
unfoldable pub call_with : ℕ → ℕ → List ℕ → List ℕ → Call
call_with x t o l =
    cond (eqb x letter.all_within) (all_within l o)
    (cond (eqb x letter.all_containing) (all_containing l o)
    (cond (eqb x letter.inserts) (insert_kit l t)
    (cond (eqb x letter.finds) (find_kit l)
    (cond (eqb x letter.deletes) (delete_kit l)
    (cond (eqb x letter.any_within) (any_within l)
    (any_containing l))))))

-- the call behind the lookups, where none was refused
unfoldable pub call_behind : ℕ → ℕ → List ℕ → Typed → List Call
call_behind x t o (typed l) = call_with x t o l ∷ []
call_behind x t o (stopped n v) = []

-- the calls that a line makes on the tables T, lent the places o and the sheet s: `?` answers a line that makes none
unfoldable pub calls_of_line : Parsed → List ℕ → List ℕ → Tables → List Call
calls_of_line none o s T = []
calls_of_line (line x t fs) o s T =
    cond (eqb x letter.registers) (register_part (get_or fs 0 []) ∷ [])
    (cond (eqb x letter.writes) (write_sheet s ∷ [])
    (lookups T.register fs ++ call_behind x t o (looked_up T.register fs)))

-- the calls that some lines make, each on the tables that those before it left
unfoldable pub calls_of : List (List ℕ) → List ℕ → List ℕ → Tables → List Call
calls_of [] o s T = []
calls_of (l ∷ ls) o s T = let cs = calls_of_line (parsed l) o s T in cs ++ calls_of ls o s (run cs T)

-- the desk as a catalogue: begun empty, and brought on by the calls that the lines of its input make
unfoldable pub desk_of : List ℕ → Catalogue
desk_of input = record { slots = desk_slots; room = desk_nodes; calls = calls_of (lines_of input) lent_places lent_sheet begun_desk }

-- the tables that the desk has after an input (`Serves`, of the crate desk)
abbrev pub tables_after : List ℕ → Tables
tables_after input = answered left_by (lines_of input) begun_desk
