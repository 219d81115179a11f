-- Document 01, "The KIT sheet": "13's value is the offset where the first faulty item starts". The items of a sheet as bytes, and where a sheet
-- is at fault that is cut, has an item at fault or has bytes behind its end, as statements that the laws prove.
use Rattle.std.specs.Prelude.{◌≡◌, Bool, true, false, cond, List, [], ◌∷◌, ◌++◌, map, reverse, ℕ, suc, ◌+◌, ◌-◌, ◌≤◌, ◌<◌, length, take, drop, ltb}
use Rattle.ground.specs.Calls.{refused, decide}
use Rattle.ground.specs.Limits.{most_parts, two_limit}
use Rattle.ground.specs.Lists.{concat, eq_list}
use Rattle.nodes.specs.Held.{Kit}
use Rattle.sheet.specs.Bytes.{two, two_bytes, Bytes}
use Rattle.sheet.specs.Sheet.{Contents, mark, mark_bytes, version, place_bytes, number_item, record_item, encode}
use Rattle.sheet.specs.Reading.{item, fault, one, bytes, is_version, good_part_count, number_size, new_number, record_size, new_kit, Run}
use Rattle.sheet.specs.Reading.{Front, front, run_of, decode, is_fault, said, salvage, rescued}
use Rattle.sheet.specs.Calls.{sheet_refusals}

-- "Items are mark, version, part count, each number with its length": these numbers, of a sheet that announces n
abbrev pub part_items : ℕ → List (List ℕ) → List (List ℕ)
part_items n ps = mark ∷ two (version n) ∷ two n ∷ map number_item ps

-- "kit count": n kits announced
unfoldable pub front_items : List (List ℕ) → ℕ → List (List ℕ)
front_items ps n = part_items (length ps) ps ++ (two n ∷ [])

-- "each kit record"
abbrev pub kit_items : ℕ → List Kit → List (List ℕ)
kit_items w ks = map (record_item w) ks

-- how many bytes a place takes in the records of a sheet that says c
abbrev pub width_of : Contents → ℕ
width_of c = place_bytes (length c.parts)

-- of a sheet that says c, and announces n kits
abbrev pub announced_items : Contents → ℕ → List (List ℕ)
announced_items c n = front_items c.parts n ++ kit_items (width_of c) c.kits

abbrev pub items_of : Contents → List (List ℕ)
items_of c = announced_items c (length c.kits)

-- the offset at which the item starts in which byte n stands; behind them all, the one at which they end
unfoldable pub start_of_cut : List (List ℕ) → ℕ → ℕ
start_of_cut [] n = 0
start_of_cut (b ∷ bs) n = cond (ltb n (length b)) 0 (length b + start_of_cut bs (n - length b))

-- how many items are whole in the first n bytes
unfoldable pub whole_items : List (List ℕ) → ℕ → ℕ
whole_items [] n = 0
whole_items (b ∷ bs) n = cond (ltb n (length b)) 0 (suc (whole_items bs (n - length b)))

-- the run of records in bs, which are the first n bytes of these kits' records: it has the kits whose records are whole
abbrev pub run_to_cut : ℕ → List Kit → ℕ → List ℕ → ℕ → Run
run_to_cut w ks n bs o = record {
  kits = take (whole_items (kit_items w ks) n) ks;
  rest = drop (start_of_cut (kit_items w ks) n) bs;
  offset = o + start_of_cut (kit_items w ks) n;
  missing = length ks - whole_items (kit_items w ks) n;
}

-- what the front of a sheet says
abbrev pub announcing : List (List ℕ) → ℕ → Front
announcing ps n = record { parts = ps; announced = n }

-- the bytes behind these numbers begin with no number, or those behind the kits of c with no record, that may follow: "cut short, against a rule
-- above, repeated (number or tag), or, for a kit, not after the one before it in listing order"; the latest is seen first
unfoldable pub number_at_fault : List (List ℕ) → List ℕ → Bool
number_at_fault ps bs = is_fault (one number_size (new_number (reverse ps)) bs 0)

unfoldable pub record_at_fault : Contents → List ℕ → Bool
record_at_fault c bs = is_fault (one (record_size (width_of c)) (new_kit (width_of c) (length c.parts) (reverse c.kits)) bs 0)

-- A sheet is its items. Proof: proofs/Faults, `items_make_sheet`
abbrev pub ItemsMakeSheet : Type 0
ItemsMakeSheet = (c : Contents) → concat (items_of c) ≡ encode c

-- [12.14] "The end is at fault when bytes remain". Proof: proofs/Faults, `fault_behind`
abbrev pub FaultBehind : Type 0
FaultBehind = (s : List ℕ) (x : ℕ) (bs : List ℕ) → Bytes s → is_fault (decode s) ≡ false → decode (s ++ (x ∷ bs)) ≡ fault (length s)

-- [12.14] "An item is at fault when cut short": of an accepted sheet, cut to its first n bytes. Proof: proofs/Faults, `fault_at_cut`
abbrev pub FaultAtCut : Type 0
FaultAtCut =
    (s : List ℕ) (n : ℕ) → Bytes s → is_fault (decode s) ≡ false → n < length s →
    decode (take n s) ≡ fault (start_of_cut (items_of (said (decode s))) n)

-- [12.14] Mark, version or part count at fault, behind what is right: in the version of any number p. Proof: proofs/Rules, `fault_at_opening`
abbrev pub FaultAtOpening : Type 0
FaultAtOpening =
    (p : ℕ) (bs : List ℕ) →
    (is_fault (one (bytes mark_bytes) (eq_list mark) bs 0) ≡ true → decode bs ≡ fault 0)
    × (is_fault (one (bytes two_bytes) is_version bs 0) ≡ true → decode (mark ++ bs) ≡ fault (length mark))
    × (is_fault (one (bytes two_bytes) (good_part_count (version p)) bs 0) ≡ true →
    decode (mark ++ (two (version p) ++ bs)) ≡ fault (length (mark ++ two (version p))))

-- [12.14] The items of an accepted sheet to its last number, more parts announced, and behind them a number at fault. Proof: proofs/Rules, `fault_at_number`
abbrev pub FaultAtNumber : Type 0
FaultAtNumber =
    (s : List ℕ) (n : ℕ) (bs : List ℕ) → Bytes s → is_fault (decode s) ≡ false →
    let ps = (said (decode s)).parts in
    length ps < n → n ≤ most_parts → number_at_fault ps bs ≡ true → decode (concat (part_items n ps) ++ bs) ≡ fault (length (concat (part_items n ps)))

-- [12.14] All its items, more kits announced, and behind them a record at fault. Proof: proofs/Rules, `fault_at_record`
abbrev pub FaultAtRecord : Type 0
FaultAtRecord =
    (s : List ℕ) (n : ℕ) (bs : List ℕ) → Bytes s → is_fault (decode s) ≡ false →
    let c = said (decode s) in
    length c.kits < n → n < two_limit → record_at_fault c bs ≡ true →
    decode (concat (announced_items c n) ++ bs) ≡ fault (length (concat (announced_items c n)))

-- Of an accepted sheet that is cut so many bytes behind its kit count, the front is read, and the run of records has the kits whose records are
-- whole. Proof: proofs/Faults, `kept_at_cut`
abbrev pub KeptAtCut : Type 0
KeptAtCut =
    (s : List ℕ) (n : ℕ) → Bytes s → is_fault (decode s) ≡ false →
    let c = said (decode s) in
    let f = announcing c.parts (length c.kits) in
    let o = length (concat (front_items c.parts (length c.kits))) in
    let bs = take n (concat (kit_items (width_of c) c.kits)) in
    (front (take (o + n) s) 0 ≡ item f bs o) × (run_of f bs o ≡ run_to_cut (width_of c) c.kits n bs o)

-- Request 12: "It keeps the longest faultless run of kit records from the first on, never more than the kit count". Of an accepted sheet that is cut
-- anywhere up to its kit count, salvage finds the item at fault that is cut; of one that is cut so many bytes behind it, the kits are kept whose
-- records are whole, and the run stops where the cut one starts. Proof: proofs/Torn, `salvaged_at_cut`
abbrev pub SalvagedAtCut : Type 0
SalvagedAtCut =
    (s : List ℕ) (n : ℕ) → Bytes s → is_fault (decode s) ≡ false →
    let c = said (decode s) in
    let o = length (concat (front_items c.parts (length c.kits))) in
    (n < o → salvage (take n s) ≡ fault (start_of_cut (items_of c) n))
    × (is_fault (salvage (take (o + n) s)) ≡ false)
    × (rescued (salvage (take (o + n) s)) ≡ record {
      kept = record { parts = c.parts; kits = take (whole_items (kit_items (width_of c) c.kits) n) c.kits };
      announced = length c.kits;
      stopped = start_of_cut (items_of c) (o + n);
    })

-- Of any sheet no more kits are kept than announced, and where there are fewer, the record behind them is at fault: a longer run is not faultless.
-- Proof: proofs/Torn, `longest_run`
abbrev pub LongestRun : Type 0
LongestRun =
    (s : List ℕ) → Bytes s → is_fault (salvage s) ≡ false →
    let x = rescued (salvage s) in
    (length x.kept.kits ≤ x.announced)
    × (length x.kept.kits < x.announced → record_at_fault x.kept (drop x.stopped s) ≡ true)

-- The same as answers of reading, whatever room the tables have. Proofs: proofs/Faults, `behind_refused`, `cut_refused`
abbrev pub BehindRefused : Type 0
BehindRefused =
    (s : List ℕ) (x : ℕ) (bs : List ℕ) (slots nodes v : ℕ) → Bytes s → is_fault (decode s) ≡ false →
    decide (sheet_refusals (s ++ (x ∷ bs)) slots nodes) v ≡ refused 13 (length s)

abbrev pub CutRefused : Type 0
CutRefused =
    (s : List ℕ) (n slots nodes v : ℕ) → Bytes s → is_fault (decode s) ≡ false → n < length s →
    decide (sheet_refusals (take n s) slots nodes) v ≡ refused 13 (start_of_cut (items_of (said (decode s))) n)
