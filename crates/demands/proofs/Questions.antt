-- Demand 2, of tables: what is listed, and when there is nothing to list.
use mathlib.Core.Path.{◌≡◌, refl, sym, ap, ◌∙◌}
use mathlib.Core.Logic.{◌↔◌}
use mathlib.Core.Bool.{Bool, true, false}
use mathlib.Core.List.{List, [], append-nil, Memᴰ}
use Prim.Native.Nat.{ℕ, ◌-◌}
use native.Mathlib.Omega.{arith}
use lib.ListN.{get_or}
use borrow.Author.Tests.{not-false, eqb-false}
use Rattle.ground.specs.Calls.{done, is_refused, decide, answer}
use Rattle.ground.proofs.Calls.{done_passes, decide_behind, set_down_done, set_down_behind}
use Rattle.ground.proofs.Laid.{laid_front}
use Rattle.register.specs.Register.{parts_of, place_in}
use Rattle.register.specs.Calls.{looking_up, lent_register}
use Rattle.register.specs.Inner.{Ready}
use Rattle.register.proofs.Laws.{look_up_exactly}
use Rattle.kits.specs.Kits.{Within, units}
use Rattle.kits.proofs.Inclusion.{includes_within, within_includes}
use Rattle.nodes.specs.Held.{Kit, tags_of, first_tag, listed}
use Rattle.nodes.proofs.Lists.{never}
use Rattle.nodes.proofs.Sorted.{Rising, none, ahead, every_mem}
use Rattle.nodes.proofs.Listing.{Earlier}
use Rattle.nodes.proofs.Units.{listed_mem}
use Rattle.questions.specs.Questions.{is_within, is_containing, fitting, any_of, all_of}
use Rattle.questions.proofs.Meaning.{fitting_exactly, fitting_sorted, none_exactly}
use Rattle.ground.specs.Tables.{Tables}
use Rattle.tables.specs.Lent.{lent_list}
use Rattle.tables.specs.Inner.{SoundTables}
use Rattle.tables.proofs.Lent.{lent_passed}
use Rattle.catalogue.specs.Calls.{plan_of, any_kit, all_kits}
use Rattle.demands.specs.Demand2 as demand
use Rattle.catalogue.specs.Calls.{Question}
use Rattle.demands.specs.Demand2.{ListedExactly, FitsExactly, ContainsExactly, TurnedRound, Asked, AnySays, NoneFits, NoneContains, InOrder}
use Rattle.demands.specs.Demand2.{ListedInOrder, ListingShows, OneOnlyIf}

-- what the two questions ask
pub within_asks : (bin : List ℕ) (k : Kit) → (is_within bin k ≡ true) ↔ Within k.row bin
unfolding is_within
within_asks bin k = (includes_within bin k.row, within_includes bin k.row)

pub containing_asks : (wanted : List ℕ) (k : Kit) → (is_containing wanted k ≡ true) ↔ Within wanted k.row
unfolding is_containing
containing_asks wanted k = (includes_within k.row wanted, within_includes k.row wanted)

pub turned_round : TurnedRound
unfolding is_within is_containing
turned_round k j = refl

no_unless : (b : Bool) → (b ≡ true → ⊥) → b ≡ false
no_unless false f = refl
no_unless true f = absurd (f refl)

-- tables that are asked a question are sound
pub asked_tables : (T : Tables) (l : List ℕ) → Asked T l → SoundTables T
asked_tables T l e = lent_passed T.register T.nodes l (ap is_refused e)

pub any_says : AnySays
unfolding answer any_kit any_of decide
any_says question l T e = rw append-nil at (decide_behind (lent_list T l) [] 0 (first_tag (fitting question l T.nodes)) e)

done_same : (v w : ℕ) → done v ≡ done w → v ≡ w
done_same v w e = cc

pub listed_exactly : ListedExactly
listed_exactly N k = listed_mem N k

-- a question and what it asks of a kit
module _ (question : Question) (Asks : List ℕ → Kit → Type 0) (asks : (u : List ℕ) (k : Kit) → (question u k ≡ true) ↔ Asks u k)
    (l : List ℕ) where
  asked_exactly : (N : List ℕ) (k : Kit) → Memᴰ k (fitting question l N) ↔ (Memᴰ k (listed N) × Asks (units l) k)
  asked_exactly N k = (
    λ m. let h = (fitting_exactly question l N k).0 m in (h.0, (asks (units l) k).0 h.1),
    λ h. (fitting_exactly question l N k).1 (h.0, (asks (units l) k).1 h.1),
  )

  none_asked : (T : Tables) → Asked T l →
      (answer (any_kit question l T) ≡ done 0) ↔ ((k : Kit) → Memᴰ k (listed T.nodes) → Asks (units l) k → ⊥)
  unfolding any_of
  none_asked T s =
      let N = T.nodes in
      let x = none_exactly question l N (asked_tables T l s).sound.shape in
      let a = any_says question l T s in (
        λ e k m w. never (sym ((asks (units l) k).1 w) ∙ x.0 (done_same (first_tag (fitting question l N)) 0 (sym a ∙ e)) k m),
        λ f. a ∙ ap done (x.1 (λ k m. no_unless (question (units l) k) (λ h. f k m ((asks (units l) k).0 h)))),
      )

pub fits_exactly : FitsExactly
fits_exactly bin N k = asked_exactly is_within (λ u k. Within k.row u) within_asks bin N k

pub contains_exactly : ContainsExactly
contains_exactly wanted N k = asked_exactly is_containing (λ u k. Within u k.row) containing_asks wanted N k

pub none_fits : NoneFits
none_fits bin T s = none_asked is_within (λ u k. Within k.row u) within_asks bin T s

pub none_contains : NoneContains
none_contains wanted T s = none_asked is_containing (λ u k. Within u k.row) containing_asks wanted T s

-- in listing order
pub in_order : {ks : List Kit} → Rising Earlier ks → InOrder ks
in_order none = demand.none
in_order (ahead e s) = demand.ahead (λ j m. every_mem e m) (in_order s)

pub listed_in_order : ListedInOrder
listed_in_order question l T s = in_order (fitting_sorted question l T.nodes (asked_tables T l s).sound.shape)

pub listing_shows : ListingShows
unfolding all_kits all_of
listing_shows question l o T s h =
    let ts = tags_of (fitting question l T.nodes) in
    let p = set_down_behind (lent_list T l) 0 ts o s (set_down_done ts o h) in
    (sym p.answers, sym p.lent ∙ laid_front o ts h)

done_value : (v w : ℕ) → decide [] v ≡ done w → v ≡ w
unfolding decide
done_value v w e = cc

-- the number that was looked up is the one at the place answered
looked_up_lem : (n R : List ℕ) (p : ℕ) → answer (looking_up n R) ≡ done p → get_or (parts_of R) (p - 1) [] ≡ n
unfolding answer looking_up lent_register
looked_up_lem n R p e =
    let a = done_passes _ _ _ _ e in
    let b = done_passes _ _ _ _ a.1 in
    let g = done_passes _ _ _ _ b.1 in
    let z = done_passes _ _ _ _ g.1 in
    let r : Ready R = record { fits = not-false _ a.0; sound = not-false _ b.0 } in
    let q : place_in n (parts_of R) ≡ p = done_value _ _ z.1 in
    ((look_up_exactly n R p r (not-false _ g.0) (omega (arith, eqb-false (place_in n (parts_of R)) 0 z.0))).0 e).1

pub one_only_if : OneOnlyIf
unfolding plan_of looking_up answer
one_only_if T n m p e f = sym (looked_up_lem n T.register p e) ∙ looked_up_lem m T.register p f
