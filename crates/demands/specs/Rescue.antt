-- REQUEST 12: "A stick pulled early leaves half a sheet. The salvage call needs a faultless mark, version, part list and kit count. It keeps the longest
-- faultless run of kit records from the first on, never more than the kit count, fills the tables as reading would from a sheet with just those kits,
-- and reports the kits kept, the kits announced, and the offset of the first fault or else the sheet's length. Demand 3 takes what is kept as read, the
-- torn sheet not as accepted. Refusals: 1 as in reading, then 13 up to the kit count, then 12 for the kept part; a refused call reports 0 for kept and
-- announced, with the refusal's value in the third place." 1 exactly, never 2, and what is told from any list of calls: Demand1. The law that proves a
-- statement stands behind "Proof", in proofs/Rescue.
use Rattle.std.specs.Prelude.{◌≡◌, ◌↔◌, ◌⊎◌, true, false, List, ◌++◌, ◌+◌, ◌^◌, ◌<◌, ◌≤◌, ℕ, drop, length, take}
use Rattle.ground.specs.Lists.{concat}
use Rattle.ground.specs.Calls.{answer, done, memory, refused}
use Rattle.ground.specs.Tables.{Tables}
use Rattle.register.specs.Register.{slot_count}
use Rattle.nodes.specs.Nodes.{size}
use Rattle.sheet.specs.Bytes.{Bytes, two}
use Rattle.sheet.specs.Sheet.{Contents, encode, nodes_needed, record_items, slots_needed, version, without_empty}
use Rattle.sheet.specs.Reading.{decode, fault, front, is_fault, rescued, said, salvage}
use Rattle.sheet.specs.Calls.{report_of}
use Rattle.sheet.specs.declared.Report.{Report}
use Rattle.sheet_read.specs.Filling.{Roomy}
use Rattle.sheet_faults.specs.Faults.{front_items, items_of, kit_items, record_at_fault, start_of_cut, whole_items, width_of}
use Rattle.catalogue.specs.Calls.{contents, reading, salvaging}
use Rattle.demands.specs.Model.{has}
use Rattle.demands.specs.Demand1.{LengthWrong, the_lengths}
use Rattle.demands.specs.Demand3.{Writes, before_count}

-- what is kept of a sheet, and the "sheet with just those kits"
abbrev pub kept_from : List ℕ → Contents
kept_from s = (rescued (salvage s)).kept

abbrev pub sheet_kept : List ℕ → List ℕ
sheet_kept s = encode (kept_from s)

-- what salvage reports beside its answer
abbrev pub report_in : List ℕ → Tables → Report
report_in s T = report_of (answer (salvaging s T)) (rescued (salvage s))

abbrev pub reports : ℕ → ℕ → ℕ → Report
reports k n o = record { kept = k; announced = n; third = o }

-- [14.41] of a sheet without fault and any tables, salvage answers as reading and leaves the same tables; it reports the kits read, the kits on the
-- sheet, and its length. Proof: `salvage_as_reading`
abbrev pub SalvageIsReading : Type 0
SalvageIsReading =
    (s : List ℕ) (T : Tables) → Bytes s → is_fault (decode s) ≡ false →
    (answer (salvaging s T) ≡ answer (reading s T))
    × (memory (salvaging s T) T ≡ memory (reading s T) T)
    × ((k : ℕ) → answer (reading s T) ≡ done k → report_in s T ≡ reports k (length (said (decode s)).kits) (length s))

-- [14.42] "fills the tables as reading would from a sheet with just those kits": of any sheet with "a faultless mark, version, part list and kit count",
-- and any tables, with the same answer; that sheet is faultless and says just what is kept. Proof: `salvage_keeps`
abbrev pub SalvageKeeps : Type 0
SalvageKeeps =
    (s : List ℕ) (T : Tables) → Bytes s → is_fault (front s 0) ≡ false →
    (answer (salvaging s T) ≡ answer (reading (sheet_kept s) T))
    × (memory (salvaging s T) T ≡ memory (reading (sheet_kept s) T) T)
    × (is_fault (decode (sheet_kept s)) ≡ false)
    × (said (decode (sheet_kept s)) ≡ kept_from s)

-- [14.43] it is done exactly with such a sheet and "12 for the kept part" passed: the value is the kits kept, an empty one not counted. Proof:
-- `salvage_exactly`
abbrev pub SalvageExactly : Type 0
SalvageExactly =
    (s : List ℕ) (T : Tables) (k : ℕ) → Bytes s →
    (answer (salvaging s T) ≡ done k) ↔ ((is_fault (front s 0) ≡ false) × Roomy (kept_from s) T × (k ≡ length (without_empty (kept_from s)).kits))

-- [14.43] and then the tables have just what is kept. Proof: `salvage_has_kept`
abbrev pub SalvageHasKept : Type 0
SalvageHasKept =
    (s : List ℕ) (T : Tables) (k : ℕ) → Bytes s → answer (salvaging s T) ≡ done k → contents (memory (salvaging s T) T) ≡ without_empty (kept_from s)

-- [14.43] "13 up to the kit count", with the offset of the item at fault: exactly there, whatever stands behind. Proof: `thirteen_exactly`
abbrev pub ThirteenExactly : Type 0
ThirteenExactly =
    (s : List ℕ) (T : Tables) (v : ℕ) → Bytes s →
    (answer (salvaging s T) ≡ refused 13 v) ↔ ((LengthWrong the_lengths T → ⊥) × (front s 0 ≡ fault v))

-- [14.43] "then 12 for the kept part": exactly where the slots do not suffice for all parts, or else the nodes for the kits kept. Proof:
-- `twelve_exactly`
abbrev pub TwelveExactly : Type 0
TwelveExactly =
    (s : List ℕ) (T : Tables) (v : ℕ) →
    let slots = slot_count T.register in
    let c = kept_from s in
    (answer (salvaging s T) ≡ refused 12 v) ↔ (
    (LengthWrong the_lengths T → ⊥)
    × (is_fault (front s 0) ≡ false)
    × (((slots < slots_needed c) × (v ≡ slots_needed c))
    ⊎ ((slots_needed c ≤ slots) × (size T.nodes < nodes_needed c) × (v ≡ nodes_needed c))))

-- [14.44] "reports the kits kept, the kits announced, and the offset"; "a refused call reports 0 for kept and announced, with the refusal's value in
-- the third place", and leaves the tables. Proof: `salvage_reports`
abbrev pub SalvageReports : Type 0
SalvageReports =
    (s : List ℕ) (T : Tables) →
    ((k : ℕ) → answer (salvaging s T) ≡ done k → report_in s T ≡ reports k (rescued (salvage s)).announced (rescued (salvage s)).stopped)
    × ((n v : ℕ) → answer (salvaging s T) ≡ refused n v → (report_in s T ≡ reports 0 0 v) × (memory (salvaging s T) T ≡ T))

-- [7.2] each of the three below 2^32. Proof: `report_fits`
abbrev pub ReportFits : Type 0
ReportFits =
    (s : List ℕ) (T : Tables) → Bytes s →
    ((report_in s T).kept < 2 ^ 32) × ((report_in s T).announced < 2 ^ 32) × ((report_in s T).third < 2 ^ 32)

-- [14.44] "the longest faultless run of kit records from the first on, never more than the kit count": up to the offset the sheet is its front and the
-- records of the kits kept, and where these are fewer than announced, the record behind them is at fault. Proof: `keeps_longest`
abbrev pub KeepsLongest : Type 0
KeepsLongest =
    (s : List ℕ) → Bytes s → is_fault (front s 0) ≡ false →
    let x = rescued (salvage s) in
    let c = x.kept in
    (take x.stopped s ≡ before_count c.parts ++ (two x.announced ++ record_items (version (length c.parts)) c.kits))
    × (length c.kits ≤ x.announced)
    × (length c.kits < x.announced → record_at_fault c (drop x.stopped s) ≡ true)

-- [14.44] "the offset of the first fault or else the sheet's length": the fault that reading finds, also in bytes behind the last record announced. Proof:
-- `first_fault`
abbrev pub FirstFault : Type 0
FirstFault =
    (s : List ℕ) → Bytes s → is_fault (front s 0) ≡ false →
    (is_fault (decode s) ≡ true → decode s ≡ fault (rescued (salvage s)).stopped)
    × (is_fault (decode s) ≡ false → (rescued (salvage s)).stopped ≡ length s)

-- [14.45] "A stick pulled early leaves half a sheet": an accepted sheet, cut anywhere behind its kit count, is salvaged as the sheet is read that has the
-- kits whose records are whole; all its kits are announced, and the offset is where the cut record starts. Proof: `cut_anywhere`
abbrev pub CutAnywhere : Type 0
CutAnywhere =
    (s : List ℕ) (n : ℕ) (T : Tables) → Bytes s → is_fault (decode s) ≡ false →
    let c = said (decode s) in
    let o = length (concat (front_items c.parts (length c.kits))) in
    let half = take (o + n) s in
    let sheet = encode (has c.parts (take (whole_items (kit_items (width_of c) c.kits) n) c.kits)) in
    (answer (salvaging half T) ≡ answer (reading sheet T))
    × (memory (salvaging half T) T ≡ memory (reading sheet T) T)
    × ((k : ℕ) → answer (reading sheet T) ≡ done k → report_in half T ≡ reports k (length c.kits) (start_of_cut (items_of c) (o + n)))

-- [14.46] "Demand 3 takes what is kept as read": whatever the tables held before, what is written after a salvage that is done, with room, is the
-- faultless sheet with just the kits kept. Proof: `written_after`
abbrev pub WrittenAfter : Type 0
WrittenAfter =
    (s : List ℕ) (T : Tables) (o : List ℕ) (k : ℕ) → Bytes s → answer (salvaging s T) ≡ done k →
    let sheet = encode (without_empty (kept_from s)) in
    length sheet ≤ length o → Writes (memory (salvaging s T) T) o sheet × (is_fault (decode sheet) ≡ false)

-- [14.46] "the torn sheet not as accepted": one at fault is refused by reading, also where salvage is done. Proof: `torn_not_accepted`
abbrev pub TornNotAccepted : Type 0
TornNotAccepted =
    (s : List ℕ) (T : Tables) (k : ℕ) → Bytes s → answer (salvaging s T) ≡ done k → is_fault (decode s) ≡ true →
    answer (reading s T) ≡ refused 13 (rescued (salvage s)).stopped
