-- What a call promises where numbers cross: the answer's number is returned, its value goes out through a lent number, and the memory is as the
-- plan leaves it. Stated by the paper's reply alone, so that nothing of how a program holds an answer is needed to read it.
use Rattle.std.specs.Prelude.{◌≡◌, cond, not, List, ℕ, ◌<◌, ◌^◌}
use Rattle.ground.specs.Lists.{is_zero}
use Rattle.ground.specs.Calls.{Plan, plan, Reply, number_of, value_of, answer, memory}
use Rattle.ground.specs.Tables.{Tables}
use Rattle.makers.specs.Calls.{Beside, beside}
use Rattle.pages.specs.declared.Bookmark.{Bookmark}
use Rattle.sheet.specs.Reading.{salvage, rescued}
use Rattle.sheet.specs.Calls.{report_of}
use Rattle.sheet.specs.declared.Report.{Report}
use Rattle.catalogue.specs.Calls.{salvaging}

-- [7.9] "Each answer is a number (0 for done) and a value"
pub record Handed (r : Reply) (number value : ℕ) : Type 0 where
  pub number_is : number ≡ number_of r
  pub value_is : value ≡ value_of r

-- [7.9] a call that may write: its answer, and every word that it is lent to write, of those before
pub record Crosses {A : Type 0} (call : A → Plan A) (old : A) (number value : ℕ) (new : A) : Type 0 where
  pub answers : Handed (answer (call old)) number value
  pub lent : new ≡ memory (call old) old

-- a call that may write the maker's table, and is lent the register beside it
abbrev pub beside_lent : (Beside → Plan (List ℕ)) → List ℕ → List ℕ → Plan (List ℕ)
beside_lent call R M = call (beside R M)

-- A bookmark crosses taken apart: a number for whether paging has begun, the length of the row, and 64 places
pub record LentMark : Type 0 where
  pub begun : ℕ
  pub len : ℕ
  pub places : List ℕ

abbrev pub lent_mark : ℕ → ℕ → List ℕ → LentMark
lent_mark n k ps = record { begun = n; len = k; places = ps }

-- 0 is not begun, any other number is begun
abbrev pub mark_of : LentMark → Bookmark
mark_of p = record { begun = not (is_zero p.begun); row = record { places = p.places; len = p.len } }

-- what is lent, set to a bookmark: a number other than 0 stays as it is, and 0 is 1 once paging has begun
abbrev pub set_to : LentMark → Bookmark → LentMark
set_to p b = lent_mark (cond (is_zero p.begun) (cond b.begun 1 0) p.begun) b.row.len b.row.places

-- a call that may write a bookmark, where it is lent so
abbrev pub over_lent : (Bookmark → Plan Bookmark) → LentMark → Plan LentMark
over_lent call p = let q = call (mark_of p) in plan q.cases q.value (set_to p q.after)

-- A report crosses in three numbers of 32 bits
abbrev pub report_out : ℕ → ℕ → ℕ → Report
report_out kept announced third = record { kept = kept; announced = announced; third = third }

pub record SmallReport (p : Report) : Type 0 where
  pub kept : p.kept < 2 ^ 32
  pub announced : p.announced < 2 ^ 32
  pub third : p.third < 2 ^ 32

-- [7.9] salvage of the sheet s: the number of its answer, "the kits kept, the kits announced, and the offset", or what "a refused call reports", and
-- every word of both tables
pub record RescueCrosses (s : List ℕ) (old : Tables) (number : ℕ) (report : Report) (new : Tables) : Type 0 where
  pub number_is : number ≡ number_of (answer (salvaging s old))
  pub report_is : report ≡ report_of (answer (salvaging s old)) (rescued (salvage s))
  pub lent : new ≡ memory (salvaging s old) old
