-- Document 01, "Calls and what they answer": the calls that are lent both tables, each as the list of its refusals in the paper's order,
-- its value, and what it leaves in the memory that it may write.
use Rattle.std.specs.Prelude.{◌≡◌, Bool, not, List, [], ◌∷◌, ◌++◌, ℕ, length, ltb}
use Rattle.ground.specs.Lists.{is_zero}
use Rattle.ground.specs.Laid.{zeroed}
use Rattle.ground.specs.Calls.{given, Plan, plan, Promise, set_down, Both}
use Rattle.register.specs.Register.{parts_of, slot_count}
use Rattle.register.specs.Calls.{registering, looking_up, showing}
use Rattle.kits.specs.Kits.{most_units, units, list_faults}
use Rattle.nodes.specs.Nodes.{size}
use Rattle.nodes.specs.Held.{Kit, held, listed, tag_in, count_beginning}
use Rattle.index_insert.specs.Enter.{enter, lacks}
use Rattle.index_delete.specs.Strike.{strike}
use Rattle.index.specs.Index.{entry_refusals, missing_refusals}
use Rattle.questions.specs.Questions.{is_within, is_containing, any_of, all_of}
use Rattle.shortfalls.specs.Shortfalls.{most_short, list_almost}
use Rattle.pages.specs.Pages.{good_bookmark, turn_page}
use Rattle.pages.specs.declared.Bookmark.{Bookmark}
use Rattle.sheet.specs.Sheet.{Contents, contents_of, without_empty, encode}
use Rattle.sheet.specs.Reading.{decode, said, salvage, rescued}
use Rattle.sheet.specs.Calls.{sheet_refusals, salvage_refusals, report_of}
use Rattle.sheet_read.specs.Filling.{filling}
use Rattle.card.specs.Card.{card_of, encode_card, list_on}
use Rattle.card.specs.Reading.{decode_card, said_card}
use Rattle.card.specs.Calls.{card_refusals}
use Rattle.sheet_read.specs.declared.Salvaged.{Salvaged}
use Rattle.answers.specs.Answers.{Answer, reply}
use Rattle.ground.specs.Tables.{Tables, tables}
use Rattle.tables.specs.Lent.{part_count, lengths, lent_both, lent_list}

-- [1.3] what the catalogue has
abbrev pub contents : Tables → Contents
contents T = contents_of T.register T.nodes

-- the tag of the held kit with this list, 0 where it is not held
abbrev pub tag_of : Tables → List ℕ → ℕ
tag_of T l = tag_in (units l) (held T.nodes)

-- [10.1] "Empty both tables: zeros"; "Emptying and reading give 1 but never 2"
unfoldable pub emptying : Tables → Plan Tables
emptying T = plan (lengths T) 0 (tables (zeroed T.register) (zeroed T.nodes))

-- [8.7, 8.8, 7.11, 10.2] "Insert list and tag: nodes newly taken": "then 8; then 4 for odd length; then line by line 4, 5, 6; then 7, 9,
-- 10, .., 12", and 19 "after 7 and before 9"
unfoldable pub inserting : List ℕ → ℕ → Tables → Plan Tables
inserting l t T =
    plan (lent_both T
    ++ (given (is_zero t) 8 0
    ∷ (list_faults (part_count T) l
    ++ (given (ltb most_units (length (units l))) 7 0
    ∷ entry_refusals (units l) t T.nodes))))
    (lacks T.nodes 0 (units l))
    (tables T.register (enter T.nodes (units l) t))

-- [10.3, 10.15] "Find a list, delete a list: its tag"
unfoldable pub finding : List ℕ → Tables → Plan Tables
finding l T = plan (lent_list T l ++ missing_refusals (units l) T.nodes) (tag_of T l) T

-- [10.4, 10.15] "delete a list: its tag"
unfoldable pub deleting : List ℕ → Tables → Plan Tables
deleting l T = plan (lent_list T l ++ missing_refusals (units l) T.nodes) (tag_of T l) (tables T.register (strike T.nodes (units l)))

-- [10.14] "A new call gives the count for a list's units as a beginning, 0 where no such path exists"
unfoldable pub counting : List ℕ → Tables → Plan Tables
counting l T = plan (lent_list T l) (count_beginning (units l) (listed T.nodes)) T

-- a question that is asked of a list's units and a kit: `is_within`, `is_containing` or `is_almost d`
abbrev pub Question : Type 0
Question = List ℕ → Kit → Bool

-- [10.5, 10.6] "Any kit within the bin; any kit containing the list"
unfoldable pub any_kit : Question → List ℕ → Tables → Plan Tables
any_kit question l T = plan (lent_list T l) (any_of question l T.nodes) T

-- [10.7, 10.8] "All such kits": set down at the start of a lent output of 16-bit numbers
unfoldable pub all_kits : Question → List ℕ → Tables → List ℕ → Plan (List ℕ)
all_kits question l T o = set_down (lent_list T l) (all_of question l T.nodes) o

-- [8.14, 10.9] "list the tags of exactly those kits whose shortfall is at most d .. with the shortfall of each in a second lent output":
-- "new 14, d above 64, after the list checks and before 12"
unfoldable pub almost_kits : ℕ → List ℕ → Tables → Both → Plan Both
almost_kits d l T o = list_almost (lent_list T l ++ (given (ltb most_short d) 14 0 ∷ [])) d l T.nodes o

-- [8.15, 10.16] "a bookmark that is lent to the call and moved on in place": "new 15, .., after the list checks"
unfoldable pub turning : Question → List ℕ → Tables → Bookmark → Plan Bookmark
turning question l T b = turn_page (lent_list T l ++ (given (not (good_bookmark (part_count T) b)) 15 0 ∷ [])) question l T.nodes b

-- [10.10] "Write the sheet at the start of a lent output: bytes written"
unfoldable pub writing : Tables → List ℕ → Plan (List ℕ)
writing T o = set_down (lent_both T) (encode (contents T)) o

-- [10.11, 12.20] "Read a sheet: kits read": "1 for each table, then 13, then 12"; "Reading leaves the tables as if emptied, then filled in sheet
-- order"; of a sheet from before that has an empty kit, "drops it" and does not count it among the kits read
unfoldable pub reading : List ℕ → Tables → Plan Tables
reading s T =
    plan (lengths T ++ sheet_refusals s (slot_count T.register) (size T.nodes))
    (length (without_empty (said (decode s))).kits)
    (filling (without_empty (said (decode s))) T)

-- [10.17, 12.22] "The salvage call .. fills the tables as reading would from a sheet with just those kits": "1 as in reading, then 13 up to the kit
-- count, then 12 for the kept part"; an empty kit is dropped, and not counted among the kits kept
unfoldable pub salvaging : List ℕ → Tables → Plan Tables
salvaging s T =
    plan (lengths T ++ salvage_refusals s (slot_count T.register) (size T.nodes))
    (length (without_empty (rescued (salvage s)).kept).kits)
    (filling (without_empty (rescued (salvage s)).kept) T)

-- [10.18] "Write a card for a held list, value the bytes": "those of finding a list, then 12 with the bytes needed"
unfoldable pub writing_card : List ℕ → Tables → List ℕ → Plan (List ℕ)
writing_card l T o =
    set_down (lent_list T l ++ missing_refusals (units l) T.nodes) (encode_card (card_of (parts_of T.register) l (tag_of T l))) o

-- [12.27] the list that a card says in a catalogue, and its tag
abbrev pub list_said : List ℕ → Tables → List ℕ
list_said s T = list_on (parts_of T.register) (said_card (decode_card s))

abbrev pub tag_said : List ℕ → ℕ
tag_said s = (said_card (decode_card s)).tag

-- [10.19] "read a card into the index, value the nodes taken": "1 and 2 for the tables, then 13 .., then 11 .., then insertion's 9, 10 and 12", and 19
-- "on .. reading its card, after 7 and before 9"
unfoldable pub reading_card : List ℕ → Tables → Plan Tables
reading_card s T =
    plan (lent_both T ++ (card_refusals (parts_of T.register) s ++ entry_refusals (units (list_said s T)) (tag_said s) T.nodes))
    (lacks T.nodes 0 (units (list_said s T)))
    (tables T.register (enter T.nodes (units (list_said s T)) (tag_said s)))

-- What a call that may write the tables promises of its answer and of the tables R' and N' afterwards
abbrev pub Leaves : (Tables → Plan Tables) → List ℕ → List ℕ → Answer → List ℕ → List ℕ → Type 0
Leaves call R N a R' N' = Promise (call (tables R N)) (tables R N) (reply a) (tables R' N')

-- what a call that may write an output o promises of its answer and of the output p afterwards
abbrev pub Sets : (List ℕ → Plan (List ℕ)) → List ℕ → Answer → List ℕ → Type 0
Sets call o a p = Promise (call o) o (reply a) p

-- what a step with a bookmark b promises of its answer and of the bookmark c afterwards
abbrev pub Turns : Question → List ℕ → List ℕ → List ℕ → Bookmark → Answer → Bookmark → Type 0
Turns question R N l b a c = Promise (turning question l (tables R N) b) b (reply a) c

-- what salvage promises: of its answer and the tables as any call, and the three numbers of its report
pub record Rescues (s R N : List ℕ) (x : Salvaged) (R' N' : List ℕ) : Type 0 where
  pub promised : Leaves (salvaging s) R N x.answer R' N'
  pub reported : x.report ≡ report_of (reply x.answer) (rescued (salvage s))

-- A call, with what is lent to it besides the tables
pub data Call : Type 0 where
  empty_both : Call
  register_part look_up : List ℕ → Call
  show_at : ℕ → Call
  insert_kit : List ℕ → ℕ → Call
  find_kit delete_kit count_kits any_within any_containing : List ℕ → Call
  all_within all_containing : List ℕ → List ℕ → Call
  all_almost : ℕ → List ℕ → Both → Call
  turn_within turn_containing : List ℕ → Bookmark → Call
  write_sheet read_sheet salvage_sheet read_card : List ℕ → Call
  write_card : List ℕ → List ℕ → Call

-- a call on the register alone
abbrev pub on_register : Tables → Plan (List ℕ) → Plan Tables
on_register T p = plan p.cases p.value (tables p.after T.nodes)

-- a call that leaves the tables as they are
abbrev pub apart : {A : Type 0} → Tables → Plan A → Plan Tables
apart T p = plan p.cases p.value T

unfoldable pub plan_of : Call → Tables → Plan Tables
plan_of empty_both T = emptying T
plan_of (register_part n) T = on_register T (registering n T.register)
plan_of (look_up n) T = on_register T (looking_up n T.register)
plan_of (show_at p) T = on_register T (showing p T.register)
plan_of (insert_kit l t) T = inserting l t T
plan_of (find_kit l) T = finding l T
plan_of (delete_kit l) T = deleting l T
plan_of (count_kits l) T = counting l T
plan_of (any_within l) T = any_kit is_within l T
plan_of (any_containing l) T = any_kit is_containing l T
plan_of (all_within l o) T = apart T (all_kits is_within l T o)
plan_of (all_containing l o) T = apart T (all_kits is_containing l T o)
plan_of (all_almost d l o) T = apart T (almost_kits d l T o)
plan_of (turn_within l b) T = apart T (turning is_within l T b)
plan_of (turn_containing l b) T = apart T (turning is_containing l T b)
plan_of (write_sheet o) T = apart T (writing T o)
plan_of (read_sheet s) T = reading s T
plan_of (salvage_sheet s) T = salvaging s T
plan_of (write_card l o) T = apart T (writing_card l T o)
plan_of (read_card s) T = reading_card s T
