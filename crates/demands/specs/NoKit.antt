-- REQUEST 14: "An empty kit is no kit .. Insertion no longer takes it. An empty kit already in a table can be found by its empty list and deleted, and its
-- tag stays taken until then. Listings, pages, any-kit answers and counts pass over it, though the root's stored word includes it." Here of any tables;
-- which kits are spoken of, and that none without a unit is held from any list of calls: Demand2; of sheets: Demand3. The law that proves a statement
-- stands behind "Proof", in proofs/NoKit.
use Rattle.std.specs.Prelude.{◌≡◌, ◌↔◌, cond, ◌+◌, ◌<◌, ◌≤◌, ℕ, length}
use mathlib.Core.List.{List, Memᴰ, []}
use Rattle.ground.specs.Calls.{answer, done, memory, refused}
use Rattle.ground.specs.Tables.{Tables}
use Rattle.kits.specs.Kits.{most_units, units}
use Rattle.nodes.specs.Nodes.{tagged, tally}
use Rattle.nodes.specs.Held.{held, listed, tag_in}
use Rattle.catalogue.specs.Calls.{Call, contents, counting, deleting, finding, inserting}
use Rattle.demands.specs.Demand2.{Asked}
use Rattle.demands.specs.Model.{TypesSay, Words, empty_kit, listed_in, log, model, run}

-- [14.30] "new 19, on inserting it .., after 7 and before 9", with the value 0: exactly where nothing is refused of the tables, the tag is not 0 and
-- the list has no line. So also where an empty kit is held or the tag is taken; and no other list is refused so. Proof: `nineteen_exactly`
abbrev pub NineteenExactly : Type 0
NineteenExactly =
    (l : List ℕ) (t v : ℕ) (T : Tables) → (answer (inserting l t T) ≡ refused 19 v) ↔ (Asked T l × (0 < t) × (l ≡ []) × (v ≡ 0))

-- [14.31] "can be found by its empty list". Proof: `empty_found`
abbrev pub EmptyFound : Type 0
EmptyFound = (T : Tables) (t : ℕ) → Asked T [] → Memᴰ (empty_kit t) (held T.nodes) → answer (finding [] T) ≡ done t

-- [14.31] "and deleted": then just the kits with a unit are held, and the catalogue has what it had. Proof: `empty_struck`
abbrev pub EmptyStruck : Type 0
EmptyStruck =
    (T : Tables) (t : ℕ) → Asked T [] → Memᴰ (empty_kit t) (held T.nodes) →
    (answer (deleting [] T) ≡ done t)
    × (held (memory (deleting [] T) T).nodes ≡ listed T.nodes)
    × (contents (memory (deleting [] T) T) ≡ contents T)

-- [14.31] "and its tag stays taken until then": 10 for a kit that could be inserted with another. Proof: `empty_bears`
abbrev pub EmptyBears : Type 0
EmptyBears =
    (T : Tables) (l : List ℕ) (t : ℕ) → Asked T l → 0 < length (units l) → length (units l) ≤ most_units → tag_in (units l) (held T.nodes) ≡ 0 →
    Memᴰ (empty_kit t) (held T.nodes) → answer (inserting l t T) ≡ refused 10 0

-- [14.32] "counts pass over it, though the root's stored word includes it": the count for the empty list. Proof: `empty_list_counts`
abbrev pub EmptyListCounts : Type 0
EmptyListCounts =
    (T : Tables) → Asked T [] →
    (answer (counting [] T) ≡ done (length (listed T.nodes)))
    × (cond (tagged T.nodes 0) 1 0 + length (listed T.nodes) ≡ tally T.nodes 0)

-- [14.33] demand 3's "what a catalogue has", of tables that were not begun empty: what they had, and what the accepted calls entered or read, less
-- what later calls struck out, cleared or replaced. Proof: `has_what_was_left`
abbrev pub HasWhatWasLeft : Type 0
HasWhatWasLeft =
    (T : Tables) (cs : List Call) → Asked T [] → Words T → ((c : Call) → Memᴰ c cs → TypesSay c) →
    contents (run cs T) ≡ listed_in (model (log cs T) (contents T))
