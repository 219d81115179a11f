-- Inner: no promise of the house rests on what stands here; inner contracts and proofs speak by it.
-- Reading a sheet into tables of right lengths, and what stands in a sheet from a place on.
use Rattle.std.specs.Prelude.{◌≡◌, Bool, true, ◌&&◌, List, [], ◌∷◌, ℕ, zero, suc, ◌+◌, ◌≤◌, ◌<◌, length, drop, get_or, eqb, ltb}
use Rattle.ground.specs.Lists.{allb, distinct, is_zero}
use Rattle.ground.specs.Limits.{most_parts}
use Rattle.ground.specs.Calls.{Plan, plan, Promise}
use Rattle.answers.specs.Answers.{Answer, reply}
use Rattle.repeats.specs.Inner.{next_place}
use Rattle.kits.specs.Kits.{units}
use Rattle.register.specs.Number.{longest_number}
use Rattle.register.specs.Register.{slot_count, register_length}
use Rattle.nodes.specs.Nodes.{size, nodes_length}
use Rattle.nodes.specs.Held.{Kit, tags_of, all_beginnings}
use Rattle.sheet.specs.Sheet.{Contents, without_empty}
use Rattle.sheet.specs.Inner.{Width, good_kit, rising, head_bytes, end_at, record_at, list_at}
use Rattle.sheet.specs.Reading.{decode, said, record_size, kit_in, salvage, rescued}
use Rattle.sheet.specs.Calls.{room_refusals, sheet_refusals, salvage_refusals, report_of}
use Rattle.ground.specs.Tables.{Tables}
use Rattle.sheet_read.specs.Filling.{filling}
use Rattle.sheet_read.specs.declared.Salvaged.{Salvaged}

-- 13, then 12; "kits read", of which an empty kit is none
unfoldable pub reading_into : List ℕ → Tables → Plan Tables
reading_into s T =
    plan (sheet_refusals s (slot_count T.register) (size T.nodes))
    (length (without_empty (said (decode s))).kits)
    (filling (without_empty (said (decode s))) T)

-- 12 where there is no room for some contents, or else both tables filled with them, but for an empty kit
unfoldable pub taking_in : Contents → Tables → Plan Tables
taking_in c T = plan (room_refusals c (slot_count T.register) (size T.nodes)) (length (without_empty c).kits) (filling (without_empty c) T)

-- request 12: "13 up to the kit count, then 12 for the kept part"; the kits kept, of which an empty kit is none
unfoldable pub salvaging_into : List ℕ → Tables → Plan Tables
salvaging_into s T =
    plan (salvage_refusals s (slot_count T.register) (size T.nodes))
    (length (without_empty (rescued (salvage s)).kept).kits)
    (filling (without_empty (rescued (salvage s)).kept) T)

-- of a sheet and the tables before: the answer, and the tables after
abbrev pub ReadPromise : List ℕ → Tables → Answer → Tables → Type 0
ReadPromise s T r M = Promise (reading_into s T) T (reply r) M

abbrev pub TakePromise : List ℕ → Tables → Answer → Tables → Type 0
TakePromise s T r M = Promise (taking_in (rescued (salvage s)).kept T) T (reply r) M

pub record SalvagePromise (s : List ℕ) (T : Tables) (r : Salvaged) (M : Tables) : Type 0 where
  pub promised : Promise (salvaging_into s T) T (reply r.answer) M
  pub reported : r.report ≡ report_of (reply r.answer) (rescued (salvage s))

-- the m kits whose records, in which places take w bytes, stand from a place on, and where they end
unfoldable pub kits_read : ℕ → List ℕ → ℕ → ℕ → List Kit
kits_read w s at zero = []
kits_read w s at (suc m) = kit_in w (record_at w s at) ∷ kits_read w s (at + record_size w (drop at s)) m

unfoldable pub end_read : ℕ → List ℕ → ℕ → ℕ → ℕ
end_read w s at zero = at
end_read w s at (suc m) = end_read w s (at + record_size w (drop at s)) m

-- whether there is a first of m such kits, and it is empty
abbrev pub empty_first : ℕ → List ℕ → ℕ → ℕ → Bool
empty_first w s at m = ltb 0 m && is_zero (length (units (list_at w s at)))

-- a number stands in the sheet s at a place, and a register has a slot k
pub record NumberStands (s : List ℕ) (at k : ℕ) (R : List ℕ) : Type 0 where
  pub inside : next_place s at ≤ length s
  pub short : get_or s at 0 ≤ longest_number
  pub slot : k < slot_count R

-- n numbers stand in the sheet s, behind its head, and a register has room for them
pub record NumbersStand (s : List ℕ) (n : ℕ) (R : List ℕ) : Type 0 where
  pub fits : register_length R ≡ true
  pub slots : n ≤ slot_count R
  pub inside : end_at s head_bytes n ≤ length s
  pub short : (k : ℕ) → k < n → get_or s (end_at s head_bytes k) 0 ≤ longest_number

-- m good kit records, in which places take w bytes, stand in the sheet s from a place on, and a node table has room for them
pub record KitsStand (w : ℕ) (s : List ℕ) (at m : ℕ) (N : List ℕ) : Type 0 where
  pub width : Width w
  pub parts : ℕ
  pub few : parts ≤ most_parts
  pub inside : end_read w s at m ≤ length s
  pub good : allb (good_kit parts) (kits_read w s at m) ≡ true
  pub unlike : distinct eqb (tags_of (kits_read w s at m)) ≡ true
  pub rises : rising (kits_read w s at m) ≡ true
  pub fits : nodes_length N ≡ true
  pub room : 1 + length (all_beginnings (kits_read w s at m)) ≤ size N
