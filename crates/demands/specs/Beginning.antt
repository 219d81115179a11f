-- REQUEST 7: "The tablet shows how many kits begin with a chosen row of parts .. A new call gives the count for a list's units as a beginning, 0
-- where no such path exists." The law that proves a statement stands behind "Proof", in proofs/Beginning.
use Rattle.std.specs.Prelude.{◌≡◌, ◌↔◌, true, false, cond, ◌+◌, ℕ, length}
use mathlib.Core.List.{List, Memᴰ, [], ◌++◌, ◌∷◌}
use Rattle.ground.specs.Calls.{answer, decide, done}
use Rattle.ground.specs.Tables.{Tables}
use Rattle.kits.specs.Kits.{begins, list_faults, units}
use Rattle.nodes.specs.Held.{Kit, count_beginning, listed}
use Rattle.catalogue.specs.Calls.{counting}
use Rattle.demands.specs.Demand2.{Asked}
use Rattle.demands.specs.Model.{Allowed, Catalogue, entered, tables_of}

-- of tables that are asked and not refused: how many of the kits begin with the units. Proof: `count_says`
abbrev pub CountSays : Type 0
CountSays = (l : List ℕ) (T : Tables) → Asked T l → answer (counting l T) ≡ done (count_beginning (units l) (listed T.nodes))

-- [14.25] from any list of calls: how many of the kits entered begin with the units; what else is answered, the list alone decides. Proof:
-- `count_answers`
abbrev pub CountAnswers : Type 0
CountAnswers =
    (a : Catalogue) (l : List ℕ) → Allowed a → answer (counting l (tables_of a)) ≡ decide
    (list_faults (length (entered a).parts) l) (count_beginning (units l) (entered a).kits)

------------------------------------------------------------------------
-- What is counted, so that no other number could be meant

-- [14.26] of no kits none; and a kit more adds one exactly where its row begins with the units. Proof: `counts_none`, `counts_more`
abbrev pub CountsNone : Type 0
CountsNone = (r : List ℕ) → count_beginning r [] ≡ 0

-- [14.26]
abbrev pub CountsMore : Type 0
CountsMore = (r : List ℕ) (k : Kit) (ks : List Kit) → count_beginning r (k ∷ ks) ≡ cond (begins r k.row) 1 0 + count_beginning r ks

-- [14.26] a row begins with some units exactly where it is these and something behind them, or nothing. Proof: `begins_exactly`
abbrev pub BeginsExactly : Type 0
BeginsExactly = (r s : List ℕ) → (begins r s ≡ true) ↔ ((b : List ℕ) × (s ≡ r ++ b))

-- [14.26] "0 where no such path exists": exactly where no kit begins with the units. Proof: `none_begins_exactly`
abbrev pub NoneBeginsExactly : Type 0
NoneBeginsExactly =
    (r : List ℕ) (ks : List Kit) → (count_beginning r ks ≡ 0) ↔ ((k : Kit) → Memᴰ k ks → begins r k.row ≡ false)

-- [14.25] so from any list of calls the empty list counts all kits entered. Proof: `empty_counts_all`
abbrev pub EmptyCountsAll : Type 0
EmptyCountsAll = (a : Catalogue) → Allowed a → answer (counting [] (tables_of a)) ≡ done (length (entered a).kits)
