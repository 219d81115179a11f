-- Inner: no promise of the house rests on what stands here; inner contracts and proofs speak by it.
-- What the judge of a sheet answers, and what each of its functions says of the sheet from a place on.
use Rattle.std.specs.Prelude.{◌≡◌, Option, Some, None, Result, Ok, Err, Bool, true, ◌&&◌, not, List, [], ◌∷◌, ℕ, ◌+◌, ◌-◌, ◌≤◌, ◌<◌, length, drop, get_or, leb}
use Rattle.ground.specs.Limits.{most_parts, two_limit}
use Rattle.ground.specs.Lists.{anyb, is_zero}
use Rattle.repeats.specs.Inner.{number_here, next_place}
use Rattle.register.specs.Number.{good_number}
use Rattle.kits.specs.Kits.{good_list, units, most_units, units_in}
use Rattle.kits.specs.Inner.{agreed}
use Rattle.kits.specs.declared.Row.{Row}
use Rattle.nodes.specs.Held.{Kit, all_beginnings}
use Rattle.sheet.specs.Bytes.{from_bytes, two_bytes}
use Rattle.sheet.specs.Inner.{head_bytes}
use Rattle.sheet.specs.Reading.{Item, item, fault, Reading, onward, one, bytes, any_two, number_size, new_number, numbers, has_tag, Front, run_of}
use Rattle.sheet.specs.Reading.{Salvage, salvaged, salvage}
use Rattle.sheet.specs.Reading as paper
use Rattle.sheet.specs.declared.Sheet.{Sheet}
use Rattle.sheet_judge.specs.declared.Found.{Found}
use Rattle.sheet_judge.specs.declared.Run.{Run}

-- the counts that a sheet announces
abbrev pub sheet_of : Salvage → Sheet
sheet_of x = record { parts = length x.kept.parts; kits = x.announced }

-- a run of these kits that ends at an offset: how many, the nodes that they need, and where it ends
abbrev pub run_to : List Kit → ℕ → Run
run_to ks o = record { kept = length ks; nodes = 1 + length (all_beginnings ks); end = o }

unfoldable pub run_told : paper.Run → Run
run_told r = run_to r.kits r.offset

-- the offset of the first faulty item; or the counts, and the run of records
abbrev pub Judged : Type 0
Judged = Result Found ℕ

unfoldable pub judged_of : Item Salvage → Judged
judged_of (item x bs o) = Ok (record { sheet = sheet_of x; run = run_to x.kept.kits x.stopped })
judged_of (fault o) = Err o

-- what is kept behind a front
abbrev pub behind_front : Front → Reading Salvage
behind_front f bs o = item (salvaged f (run_of f bs o)) (run_of f bs o).rest (run_of f bs o).offset

-- behind the numbers ps: kit count, kit records
unfoldable pub behind_numbers : List (List ℕ) → Reading Salvage
behind_numbers ps bs o = onward (one (bytes two_bytes) any_two bs o) (λ k. behind_front (record { parts = ps; announced = from_bytes k }))

-- mark, version and part count were read: the part count, or the first fault
pub record Headed (s : List ℕ) (n : ℕ) : Type 0 where
  pub inside : head_bytes ≤ length s
  pub few : n ≤ most_parts
  pub goes : salvage s ≡ onward (numbers n [] (drop head_bytes s) head_bytes) behind_numbers

abbrev pub head_says : List ℕ → Result ℕ ℕ → Type 0
head_says s (Err o) = salvage s ≡ fault o
head_says s (Ok n) = Headed s n

-- n numbers were read: where they end, or the first fault
pub record Numbered (s : List ℕ) (n at : ℕ) : Type 0 where
  pub ns : List (List ℕ)
  pub many : length ns ≡ n
  pub inside : at ≤ length s
  pub goes : numbers n [] (drop head_bytes s) head_bytes ≡ item ns (drop at s) at

abbrev pub numbers_say : List ℕ → ℕ → Result ℕ ℕ → Type 0
numbers_say s n (Err o) = numbers n [] (drop head_bytes s) head_bytes ≡ fault o
numbers_say s n (Ok at) = Numbered s n at

-- where the number at a place ends, a good one; none where it is cut short or not good
pub record GoodNumber (s : List ℕ) (at r : ℕ) : Type 0 where
  pub good : good_number (number_here s at) ≡ true
  pub inside : next_place s at ≤ length s
  pub ends : r ≡ next_place s at

abbrev pub NumberEnds : List ℕ → ℕ → Option ℕ → Type 0
NumberEnds s at None = (seen : List (List ℕ)) → one number_size (new_number seen) (drop at s) at ≡ fault at
NumberEnds s at (Some r) = GoodNumber s at r

-- the lines of a list obey the rules, with n parts
unfoldable pub good_lines : ℕ → List ℕ → Bool
good_lines n l = good_list n l && leb (length (units l)) most_units

-- the marks of the tags seen: not 0 where a kit bears the tag
abbrev pub Tags : List ℕ → List Kit → Type 0
Tags marks seen = (t : ℕ) → t < two_limit → anyb (has_tag t) seen ≡ not (is_zero (get_or marks t 0))

-- a tag, and none that is marked
unfoldable pub new_tag : List ℕ → ℕ → Bool
new_tag marks t = not (is_zero t) && is_zero (get_or marks t 0)

-- prev is the row of the latest of k kits seen
unfoldable pub Latest : Row → ℕ → List Kit → Type 0
Latest prev k [] = k ≡ 0
Latest prev k (x ∷ seen) = (0 < k) × (units_in prev ≡ x.row)

-- how many nodes kits in listing order add, behind a row: each what it does not share with the one before
unfoldable pub growth : List ℕ → List Kit → ℕ
growth r [] = 0
growth r (k ∷ ks) = (length k.row - agreed r k.row) + growth k.row ks
