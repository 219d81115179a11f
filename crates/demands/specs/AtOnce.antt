-- REQUEST 11: "People enter a kit, see that it was wrong, and delete it at once. Show that for every pair of sound tables and every list and tag that
-- insertion accepts, deleting that list next gives back both tables in every byte, and finding it then answers 11." That the node table is given back word for
-- word, and that a kit deleted and entered again may stand at other nodes, are laws of `index_undo`.
use Rattle.std.specs.Prelude.{◌≡◌, List, ℕ}
use Rattle.ground.specs.Calls.{answer, done, memory, refused}
use Rattle.ground.specs.Tables.{Tables}
use Rattle.catalogue.specs.Calls.{deleting, finding, inserting}

-- both tables after a list was inserted, and after it was deleted next
abbrev pub inserted : List ℕ → ℕ → Tables → Tables
inserted l t T = memory (inserting l t T) T

abbrev pub deleted_next : List ℕ → ℕ → Tables → Tables
deleted_next l t T = memory (deleting l (inserted l t T)) (inserted l t T)

-- [14.34] of any tables: an insertion that is done says that they are sound. Proof: AtOnce, `undone_at_once`
abbrev pub UndoneAtOnce : Type 0
UndoneAtOnce =
    (T : Tables) (l : List ℕ) (t n : ℕ) → answer (inserting l t T) ≡ done n →
    (answer (deleting l (inserted l t T)) ≡ done t) × (deleted_next l t T ≡ T) × (answer (finding l (deleted_next l t T)) ≡ refused 11 0)
