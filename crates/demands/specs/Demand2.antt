-- DEMAND 2: "A kit fits a bin exactly when, for each part, the kit's quantity is no more than the bin's .. 'No kit fits' is said exactly when
-- none held fits; a listing shows each fitting kit once, in the fixed order .. Part numbers are one only if every character agrees."
use Rattle.std.specs.Prelude.{◌≡◌, ◌↔◌, true, ◌-◌, ◌<◌, ◌≤◌, ℕ, drop, get_or, length, take}
use mathlib.Core.List.{List, Memᴰ, [], ◌++◌, ◌∷◌}
use Rattle.ground.specs.Calls.{answer, decide, done, is_refused, memory}
use Rattle.ground.specs.Tables.{Tables}
use Rattle.register.specs.Register.{parts_of}
use Rattle.register.specs.Calls.{showing, stretch_from, stretch_size}
use Rattle.kits.specs.Kits.{Within, before, list_faults, units}
use Rattle.nodes.specs.Held.{Kit, first_tag, held, listed, tags_of}
use Rattle.questions.specs.Questions.{fitting, is_containing, is_within}
use Rattle.sheet.specs.Sheet.{Contents}
use Rattle.tables.specs.Lent.{lent_list}
use Rattle.catalogue.specs.Calls.{Question, all_kits, any_kit, look_up, plan_of, show_at}
use Rattle.demands.specs.Model.{Allowed, Catalogue, answering, entered, listing_of, tables_of}

-- Request 14: "Demands 2 and 3 speak from then on of kits with at least one unit". A table from before may hold one without; it is passed over,
-- and no catalogue that was begun empty comes to hold one (`NeverEmpty`).

------------------------------------------------------------------------
-- Of tables

-- [14.28] the kits that are spoken of: those held that have a unit. Proof: Questions, `listed_exactly`
abbrev pub ListedExactly : Type 0
ListedExactly = (N : List ℕ) (k : Kit) → Memᴰ k (listed N) ↔ (Memᴰ k (held N) × (0 < length k.row))

-- "A kit fits a bin exactly when, for each part, the kit's quantity is no more than the bin's": the kits shown within a bin are exactly
-- the kits with a unit of which that is so. Proof: Questions, `fits_exactly`
abbrev pub FitsExactly : Type 0
FitsExactly = (bin N : List ℕ) (k : Kit) → Memᴰ k (fitting is_within bin N) ↔ (Memᴰ k (listed N) × Within k.row (units bin))

-- "The opposite question, which kits contain all these parts, answers by the same rule turned round". Proof: Questions, `contains_exactly`,
-- `turned_round`
abbrev pub ContainsExactly : Type 0
ContainsExactly =
    (wanted N : List ℕ) (k : Kit) → Memᴰ k (fitting is_containing wanted N) ↔ (Memᴰ k (listed N) × Within (units wanted) k.row)

abbrev pub TurnedRound : Type 0
TurnedRound = (k j : Kit) → is_within j.row k ≡ is_containing k.row j

-- tables and a list that are lent to a question and not refused
abbrev pub Asked : Tables → List ℕ → Type 0
Asked T l = decide (lent_list T l) 0 ≡ done 0

-- any: the tag of the first kit of these; "'No kit fits' is said exactly when none held fits". Proof: Questions, `any_says`, `none_fits`,
-- `none_contains`
abbrev pub AnySays : Type 0
AnySays =
    (question : Question) (l : List ℕ) (T : Tables) → Asked T l → answer (any_kit question l T) ≡ done
    (first_tag (fitting question l T.nodes))

abbrev pub NoneFits : Type 0
NoneFits =
    (bin : List ℕ) (T : Tables) → Asked T bin → (answer (any_kit is_within bin T) ≡ done 0) ↔
    ((k : Kit) → Memᴰ k (listed T.nodes) → Within k.row (units bin) → ⊥)

abbrev pub NoneContains : Type 0
NoneContains =
    (wanted : List ℕ) (T : Tables) → Asked T wanted → (answer (any_kit is_containing wanted T) ≡ done 0) ↔
    ((k : Kit) → Memᴰ k (listed T.nodes) → Within (units wanted) k.row → ⊥)

-- each kit before all that follow it; so none stands twice
pub data InOrder : List Kit → Type 0 where
  none : InOrder []
  ahead : {k : Kit} {ks : List Kit} → ((j : Kit) → Memᴰ j ks → before k.row j.row ≡ true) → InOrder ks → InOrder (k ∷ ks)

-- "a listing shows each fitting kit once, in the fixed order": their tags, and what lies behind them in the output stays. Proof: Questions,
-- `listed_in_order`, `listing_shows`
abbrev pub ListedInOrder : Type 0
ListedInOrder = (question : Question) (l : List ℕ) (T : Tables) → Asked T l → InOrder (fitting question l T.nodes)

abbrev pub ListingShows : Type 0
ListingShows =
    (question : Question) (l o : List ℕ) (T : Tables) → Asked T l → let ts = tags_of (fitting question l T.nodes) in
    length ts ≤ length o → (answer (all_kits question l T o) ≡ done (length ts))
    × (memory (all_kits question l T o) o ≡ ts ++ drop (length ts) o)

-- [14.9] "Part numbers are one only if every character agrees". Proof: Questions, `one_only_if`
abbrev pub OneOnlyIf : Type 0
OneOnlyIf = (T : Tables) (n m : List ℕ) (p : ℕ) → answer (plan_of (look_up n) T) ≡ done p → answer (plan_of (look_up m) T) ≡ done p → n ≡ m

-- [9.4] "Show the number at a place: the very stretch of the register that holds the number": where it is not refused, what stands in the stretch
-- is the number of that place; "an empty stretch where refused". Proof: Shown, `shows_number`, `shows_nothing`
abbrev pub ShowsNumber : Type 0
ShowsNumber =
    (R : List ℕ) (p : ℕ) → answer (showing p R) ≡ done 0 → take (stretch_size p R) (drop (stretch_from p R) R) ≡ get_or (parts_of R) (p - 1) []

abbrev pub ShowsNothing : Type 0
ShowsNothing = (R : List ℕ) (p : ℕ) → is_refused (answer (showing p R)) ≡ true → stretch_size p R ≡ 0

------------------------------------------------------------------------
-- The same from any list of calls, in terms of what the accepted calls left, and never of a table

-- [14.28] no empty kit is ever held, so that what is said of the kits held is said of the kits entered. Proof: NeverEmpty, `never_empty`
abbrev pub NeverEmpty : Type 0
NeverEmpty = (a : Catalogue) → Allowed a → held (tables_of a).nodes ≡ listed (tables_of a).nodes

-- [14.6] these are all that fit, or contain the list; each once, in the fixed order. Proof: Answers, `answering_fits`, `answering_contains`,
-- `answering_in_order`
abbrev pub AnsweringFits : Type 0
AnsweringFits =
    (bin : List ℕ) (m : Contents) (k : Kit) → Memᴰ k (answering is_within bin m) ↔ (Memᴰ k m.kits × Within k.row (units bin))

-- [14.6]
abbrev pub AnsweringContains : Type 0
AnsweringContains =
    (wanted : List ℕ) (m : Contents) (k : Kit) → Memᴰ k (answering is_containing wanted m) ↔
    (Memᴰ k m.kits × Within (units wanted) k.row)

-- [14.6]
abbrev pub AnsweringInOrder : Type 0
AnsweringInOrder = (a : Catalogue) (question : Question) (l : List ℕ) → Allowed a → InOrder (answering question l (entered a))

-- [14.7] any: the tag of the first of them, and 0 exactly when there is none; what else is answered, the list alone decides. Proof: Answers,
-- `any_answers`, `none_answers`
abbrev pub AnyAnswers : Type 0
AnyAnswers =
    (a : Catalogue) (question : Question) (l : List ℕ) → Allowed a → answer (any_kit question l (tables_of a)) ≡ decide
    (list_faults (length (entered a).parts) l) (first_tag (answering question l (entered a)))

-- [14.7]
abbrev pub NoneAnswers : Type 0
NoneAnswers =
    (a : Catalogue) (question : Question) (l : List ℕ) → Allowed a → (first_tag (answering question l (entered a)) ≡ 0) ↔
    (answering question l (entered a) ≡ [])

-- [14.6] all: the tags of all of them. Proof: Answers, `all_answers`
abbrev pub AllAnswers : Type 0
AllAnswers =
    (a : Catalogue) (question : Question) (l o : List ℕ) → Allowed a →
    (answer (all_kits question l (tables_of a) o) ≡ answer (listing_of question l (entered a) o))
    × (memory (all_kits question l (tables_of a) o) o ≡ memory (listing_of question l (entered a) o) o)

-- [14.9] the number of a place is the one that was registered there. Proof: Shown, `shows_entered`
abbrev pub ShowsEntered : Type 0
ShowsEntered =
    (a : Catalogue) (p : ℕ) → Allowed a → answer (plan_of (show_at p) (tables_of a)) ≡ done 0 →
    let R = (tables_of a).register in
    take (stretch_size p R) (drop (stretch_from p R) R) ≡ get_or (entered a).parts (p - 1) []
