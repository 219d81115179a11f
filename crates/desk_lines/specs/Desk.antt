-- Document 01, "The desk program": what each line answers, and the tables afterwards, over the definitions of the calls.
use Rattle.std.specs.Prelude.{◌≡◌, cond, List, [], ◌∷◌, ℕ, get_or, take, eqb}
use Rattle.ground.specs.Calls.{Plan, answer, leaves, memory, number_of, value_of}
use Rattle.register.specs.Calls.{registering}
use Rattle.questions.specs.Questions.{is_within, is_containing}
use Rattle.ground.specs.Tables.{Tables}
use Rattle.catalogue.specs.Calls.{on_register, inserting, finding, deleting, any_kit, all_kits, writing}
use Rattle.desk_text.specs.Letters as letter
use Rattle.desk_text.specs.Lines.{space, Parsed, none, line, parsed}
use Rattle.desk_replies.specs.Replies.{hex_of, tags_text, reply_line, other_line, ReplyStands}
use Rattle.desk_lists.specs.Typed.{Typed, typed, stopped, looked_up}

-- a reply, and the tables afterwards
pub record Answered : Type 0 where
  pub says : List ℕ
  pub after : Tables

-- "A reply line is letter, number, value": the reply of a call on the tables T
unfoldable pub called : ℕ → Plan Tables → Tables → Answered
called x p T = record { says = reply_line x (number_of (answer p)) (value_of (answer p)) []; after = memory p T }

-- [13.18] "then tags for b and s, or the sheet in capital hex for W, when done": the reply of a call that sets something down in the
-- output o
unfoldable pub shown : ℕ → (List ℕ → List ℕ) → Plan (List ℕ) → List ℕ → List ℕ
shown x print p o =
    reply_line x (number_of (answer p)) (value_of (answer p)) (leaves (answer p) [] (print (take (value_of (answer p)) (memory p o))))

unfoldable pub sheet_text : List ℕ → List ℕ
sheet_text s = space ∷ hex_of s

-- [13.16] "P number registers": the number is the one field behind the letter
unfoldable pub register_line : List (List ℕ) → Tables → Answered
register_line fs T = called letter.registers (on_register T (registering (get_or fs 0 []) T.register)) T

-- [13.16] "W writes", into the lent sheet s
unfoldable pub write_line : Tables → List ℕ → Answered
write_line T s = record { says = shown letter.writes sheet_text (writing T s) s; after = T }

-- [13.14] "Part numbers are looked up first, left to right; a lookup refusal is the answer": what the letter x then asks of the list
unfoldable pub with_list : ℕ → Tables → (List ℕ → Answered) → Typed → Answered
with_list x T asks (typed l) = asks l
with_list x T asks (stopped n v) = record { says = reply_line x n v []; after = T }

-- [13.16] "K tag, then number and quantity pairs, inserts; F finds; D deletes; B any within; S any containing": the call with the tag t
-- and the list l
unfoldable pub call_of : ℕ → ℕ → List ℕ → Tables → Plan Tables
call_of x t l T =
    cond (eqb x letter.inserts) (inserting l t T)
    (cond (eqb x letter.finds) (finding l T)
    (cond (eqb x letter.deletes) (deleting l T)
    (cond (eqb x letter.any_within) (any_kit is_within l T)
    (any_kit is_containing l T))))

-- [13.16] "b and s list all", in the lent places o
unfoldable pub asked : ℕ → ℕ → List ℕ → Tables → List ℕ → Answered
asked x t o T l =
    cond (eqb x letter.all_within) (record { says = shown x tags_text (all_kits is_within l T o) o; after = T })
    (cond (eqb x letter.all_containing) (record { says = shown x tags_text (all_kits is_containing l T o) o; after = T })
    (called x (call_of x t l T) T))

unfoldable pub ask_line : ℕ → ℕ → List (List ℕ) → List ℕ → Tables → Answered
ask_line x t fs o T = with_list x T (asked x t o T) (looked_up T.register fs)

-- [13.13] what a line that was taken apart answers, by its letter. "Other lines answer `?`, once each"
unfoldable pub at_desk : Parsed → List ℕ → List ℕ → Tables → Answered
at_desk none o s T = record { says = other_line; after = T }
at_desk (line x t fs) o s T =
    cond (eqb x letter.registers) (register_line fs T)
    (cond (eqb x letter.writes) (write_line T s)
    (ask_line x t fs o T))

-- [13.20] the tables after a line: the same whatever outputs are lent (proofs/Left, `left_by_lem`)
unfoldable pub left_by : List ℕ → Tables → Tables
left_by l T = (at_desk (parsed l) [] [] T).after

-- [13.20] What answering a line promises: the reply stands at the start of the output, r bytes long and whole, and the tables are what
-- they should be
pub record Answers (a : Answered) (old : List ℕ) (r : ℕ) (new : List ℕ) (T : Tables) : Type 0 where
  pub reply : ReplyStands old a.says r new
  pub left : T ≡ a.after
