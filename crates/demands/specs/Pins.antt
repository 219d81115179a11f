-- Document 01, "What the promises pin": nothing else could meet a promise, counts are not made up, values fit.
use Rattle.std.specs.Prelude.{◌≡◌, List, ◌∷◌, ◌+◌, ◌<◌, ◌^◌, ℕ, length}
use Rattle.ground.specs.Calls.{Promise, Reply, answer, done, value_of}
use Rattle.ground.specs.Tables.{Tables}
use Rattle.kits.specs.Kits.{units}
use Rattle.nodes.specs.Nodes.{used_nodes}
use Rattle.nodes.specs.Held.{all_beginnings}
use Rattle.catalogue.specs.Calls.{Call, inserting, plan_of}
use Rattle.demands.specs.Demand1.{SetsDown, Output, setting_down}
use Rattle.demands.specs.Model.{Allowed, Catalogue, TypesSay, Words, entered, tables_of}

-- [14.14] Document 01, "What the promises pin": "for every input, refused ones too, each public promise determines the answer and every lent word
-- and byte afterwards". Proof: Refusals, `tables_pinned`, `output_pinned`
abbrev pub TablesPinned : Type 0
TablesPinned = (c : Call) (T U W : Tables) (r s : Reply) → Promise (plan_of c T) T r U → Promise (plan_of c T) T s W → (r ≡ s) × (U ≡ W)

-- [14.14]
abbrev pub OutputPinned : Type 0
OutputPinned =
    (x : SetsDown) (T : Tables) (o p q : Output x) (r s : Reply) → Promise (setting_down x T o) o r p → Promise (setting_down x T o) o s q →
    (r ≡ s) × (p ≡ q)

-- [14.15] "Made-up counts fall with the table": "nodes used are always 1 plus the number of different nonempty beginnings of held kits", and "nodes
-- taken are the growth of the beginnings", in terms of the kits entered. (A listing's value is in `AllAnswers`; "kits read are the sheet's
-- records", but an empty kit's, in the plan of reading.) Proof: Counts, `nodes_counted`, `nodes_taken_lem`
abbrev pub NodesCounted : Type 0
NodesCounted = (a : Catalogue) → Allowed a → length (used_nodes (tables_of a).nodes) ≡ 1 + length (all_beginnings (entered a).kits)

-- [14.15]
abbrev pub NodesTaken : Type 0
NodesTaken =
    (a : Catalogue) (l : List ℕ) (t v : ℕ) → Allowed a → answer (inserting l t (tables_of a)) ≡ done v → length
    (all_beginnings (record { row = units l; tag = t } ∷ (entered a).kits)) ≡ length (all_beginnings (entered a).kits) + v

-- [7.2] "Each answer is a number (0 for done) and a value below 2^32", whatever is lent. Proof: Values, `values_fit`
abbrev pub ValuesFit : Type 0
ValuesFit =
    (c : Call) (T : Tables) → Words T → TypesSay c → value_of (answer (plan_of c T)) < 2 ^ 32
