-- Document 01, the table of refusals, and the numbers that requests added: the number and value of each answer.
use Rattle.ground.specs.Calls.{Reply, done, refused}
use Rattle.std.specs.Prelude.{ℕ, Result, Ok, Err}
use Rattle.answers.specs.declared.Refusal.{Refusal}
use Rattle.answers.specs.declared.Refusal.TheVariants as v

-- [7.8] "Each answer is a number (0 for done) and a value"
abbrev pub refusal : Refusal → Reply
refusal v.WrongLength = refused 1 0
refusal v.NotSound = refused 2 0
refusal v.BadNumber = refused 3 0
refusal (v.Unordered x) = refused 4 x
refusal (v.Unregistered x) = refused 5 x
refusal (v.Amount x) = refused 6 x
refusal v.TooMany = refused 7 0
refusal v.NoTag = refused 8 0
refusal (v.Held x) = refused 9 x
refusal v.TagBorne = refused 10 0
refusal (v.NotHeld x) = refused 11 x
refusal (v.NoRoom x) = refused 12 x
refusal (v.Fault x) = refused 13 x
refusal v.TooFar = refused 14 0
refusal v.BadBookmark = refused 15 0
refusal v.Punctuated = refused 16 0
refusal v.NoUnits = refused 19 0

abbrev pub Answer : Type 0
Answer = Result ℕ Refusal

abbrev pub reply : Answer → Reply
reply (Ok x) = done x
reply (Err e) = refusal e

-- what a check says, whatever it gives where it passes
abbrev pub checked : {T : Type 0} → Result T Refusal → Reply
checked (Ok x) = done 0
checked (Err e) = refusal e
