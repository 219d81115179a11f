-- REQUEST 1: "a list of kits that a bin almost fills", in terms of what the accepted calls left: the kits are `answering (is_almost d)`, so
-- what demand 2 says of every question holds of it, the fixed order and each kit once too.
use Rattle.std.specs.Prelude.{◌≡◌, ◌↔◌, ◌<◌, ◌≤◌, ℕ, drop, get_or, length, replicate}
use mathlib.Core.List.{List, Memᴰ, ◌++◌}
use Rattle.ground.specs.Lists.{keep}
use Rattle.ground.specs.Calls.{Both, answer, both, decide, done, memory}
use Rattle.kits.specs.Kits.{list_faults, units}
use Rattle.nodes.specs.Held.{Kit, kits_in_order, tags_of}
use Rattle.questions.specs.Questions.{is_within}
use Rattle.shortfalls.specs.Shortfalls.{OfOne, is_almost, most_short, shortfall, shorts_of}
use Rattle.sheet.specs.Sheet.{Contents}
use Rattle.catalogue.specs.Calls.{almost_kits}
use Rattle.demands.specs.Model.{Allowed, Catalogue, almost_of, answering, entered, tables_of}

-- [14.8] "exactly those kits whose shortfall is at most d". Proof: Almost, `answering_almost`
abbrev pub AnsweringAlmost : Type 0
AnsweringAlmost =
    (d : ℕ) (bin : List ℕ) (m : Contents) (k : Kit) →
    Memᴰ k (answering (is_almost d) bin m) ↔ (Memᴰ k m.kits × (shortfall (units bin) k.row ≤ d))

-- [14.8] "with the shortfall of each in a second lent output": place by place of the same kit. Proof: Almost, `shown_in_step`
abbrev pub ShownInStep : Type 0
ShownInStep =
    (bin : List ℕ) (ks : List Kit) (i : ℕ) → i < length ks →
    OfOne bin ks (get_or (tags_of ks) i 0) (get_or (shorts_of bin ks) i 0)

-- with d = 0 they are the kits within the bin, and every shortfall is 0. Proof: Almost, `zero_is_within`
abbrev pub ZeroIsWithin : Type 0
ZeroIsWithin =
    (a : Catalogue) (bin : List ℕ) → Allowed a →
    let ks = answering (is_almost 0) bin (entered a) in
    (ks ≡ answering is_within bin (entered a)) × (shorts_of (units bin) ks ≡ replicate (length ks) 0)

-- with a greater d nothing leaves the listing: what is listed for d is what of the listing for e has a shortfall of at most d. Proof:
-- Almost, `nothing_leaves`
abbrev pub NothingLeaves : Type 0
NothingLeaves =
    (d e : ℕ) (bin : List ℕ) (m : Contents) → d ≤ e →
    answering (is_almost d) bin m ≡ keep (is_almost d (units bin)) (answering (is_almost e) bin m)

-- with d = 64 every kit is listed. Proof: Almost, `most_is_all`
abbrev pub MostIsAll : Type 0
MostIsAll = (a : Catalogue) (bin : List ℕ) → Allowed a → answering (is_almost most_short) bin (entered a) ≡ kits_in_order (entered a).kits

-- [14.8] the reply, and both outputs afterwards. Proof: Almost, `almost_answers`
abbrev pub AlmostAnswers : Type 0
AlmostAnswers =
    (a : Catalogue) (d : ℕ) (bin : List ℕ) (o : Both) → Allowed a →
    (answer (almost_kits d bin (tables_of a) o) ≡ answer (almost_of d bin (entered a) o))
    × (memory (almost_kits d bin (tables_of a) o) o ≡ memory (almost_of d bin (entered a) o) o)

-- with room, what lies behind the answer stays, in both. Proof: Almost, `almost_shows`
abbrev pub AlmostShows : Type 0
AlmostShows =
    (a : Catalogue) (d : ℕ) (bin o p : List ℕ) → Allowed a →
    decide (list_faults (length (entered a).parts) bin) 0 ≡ done 0 → d ≤ most_short →
    let ks = answering (is_almost d) bin (entered a) in
    length ks ≤ length o → length ks ≤ length p →
    (answer (almost_kits d bin (tables_of a) (both o p)) ≡ done (length ks))
    × (memory (almost_kits d bin (tables_of a) (both o p)) (both o p) ≡ both (tags_of ks ++ drop (length ks) o)
    (shorts_of (units bin) ks ++ drop (length ks) p))
