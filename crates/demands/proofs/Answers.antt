-- What a catalogue answers, in terms of what its accepted calls left: demand 2 from any list of calls.
use mathlib.Core.Path.{◌≡◌, refl, sym, ap, subst}
use mathlib.Core.Logic.{◌↔◌}
use mathlib.Core.Bool.{Bool, true}
use mathlib.Core.List.{List, [], ◌∷◌, ◌++◌, append_assoc, Memᴰ}
use Prim.Native.Nat.{ℕ, ◌<◌}
use native.Mathlib.Omega.{arith}
use lib.ListN.{length}
use lib.Dec.{ltb}
use Rattle.ground.specs.Lists.{keep}
use Rattle.ground.specs.Laid.{laid}
use Rattle.ground.specs.Calls.{Case, given, decide, answer, leaves, memory, with_room, set_down}
use Rattle.ground.proofs.Calls.{decide_behind}
use Rattle.kits.specs.Kits.{Within, units, list_faults}
use Rattle.nodes.specs.Held.{Kit, comes_before, kits_in_order, tags_of, first_tag}
use Rattle.nodes.proofs.Sorted.{keep_mem, mem_keep, rising_keep}
use Rattle.nodes.proofs.Listing.{order_rises}
use Rattle.nodes.proofs.Ordered.{mem_order, order_mem}
use Rattle.nodes.proofs.Units.{listed_tagged}
use Rattle.questions.specs.Questions.{is_within, is_containing, fitting, any_of, all_of}
use Rattle.sheet.specs.Sheet.{Contents}
use Rattle.ground.specs.Tables.{Tables}
use Rattle.tables.specs.Lent.{part_count, lent_both, lent_list}
use Rattle.tables.proofs.Lent.{sound_passes}
use Rattle.catalogue.specs.Calls.{contents, any_kit, all_kits}
use Rattle.catalogue.specs.Calls.{Question}
use Rattle.demands.specs.Model.{entered, HasWhatWasEntered, listed_in, answering, listing_of}
use Rattle.demands.specs.Demand2.{AnsweringFits, AnsweringContains, AnsweringInOrder, AnyAnswers, NoneAnswers, AllAnswers}
use Rattle.demands.proofs.Questions.{within_asks, containing_asks, in_order}
use Rattle.demands.proofs.Brought.{Brought, brought}

-- the kits that answer
module _ (question : Question) (Asks : List ℕ → Kit → Type 0) (asks : (u : List ℕ) (k : Kit) → (question u k ≡ true) ↔ Asks u k)
    (l : List ℕ) (m : Contents) where
  pub answers_exactly : (k : Kit) → Memᴰ k (answering question l m) ↔ (Memᴰ k m.kits × Asks (units l) k)
  unfolding answering
  answers_exactly k = (
    λ i. let h = keep_mem (question (units l)) k (kits_in_order m.kits) i in (order_mem comes_before k m.kits h.0, (asks (units l) k).0 h.1),
    λ h. mem_keep (question (units l)) k (kits_in_order m.kits) ((asks (units l) k).1 h.1) (mem_order comes_before k m.kits h.0),
  )

pub answering_fits : AnsweringFits
answering_fits bin m k = answers_exactly is_within (λ u k. Within k.row u) within_asks bin m k

pub answering_contains : AnsweringContains
answering_contains wanted m k = answers_exactly is_containing (λ u k. Within u k.row) containing_asks wanted m k

pub answering_in_order : AnsweringInOrder
unfolding answering
answering_in_order a question l h = in_order (rising_keep (question (units l)) _ (order_rises (brought a h).apart))

-- Tables that have some contents
module _ {T : Tables} {m : Contents} (b : Brought T m) where
  pub has_contents : contents T ≡ listed_in m
  has_contents = let p = b.parts in let k = b.kits in rw (p, k)

  -- no refusal of the tables is given
  pub behind_tables : (cs : List Case) (v : ℕ) → decide (lent_both T ++ cs) v ≡ decide cs v
  behind_tables cs v = decide_behind (lent_both T) cs 0 v (sound_passes T.register T.nodes b.both)

  -- a call whose answer needs room, behind what is refused of the tables
  module _ {A : Type 0} (cs : List Case) (short : Bool) (n : ℕ) (after old : A) where
    pub room_answer : answer (with_room (lent_both T ++ cs) short n after) ≡ answer (with_room cs short n after)
    unfolding answer
    room_answer = rw append_assoc (behind_tables (cs ++ (given short 12 n ∷ [])) n)

    pub room_memory : memory (with_room (lent_both T ++ cs) short n after) old ≡ memory (with_room cs short n after) old
    unfolding memory
    room_memory = ap (λ r. leaves r old after) room_answer

  -- one that sets something down
  module _ (cs : List Case) (xs o : List ℕ) where
    pub down_answer : answer (set_down (lent_both T ++ cs) xs o) ≡ answer (set_down cs xs o)
    unfolding set_down
    down_answer = room_answer cs (ltb (length o) (length xs)) (length xs) (laid o 0 xs) o

    pub down_memory : memory (set_down (lent_both T ++ cs) xs o) o ≡ memory (set_down cs xs o) o
    unfolding set_down
    down_memory = room_memory cs (ltb (length o) (length xs)) (length xs) (laid o 0 xs) o

  module _ (question : Question) (l : List ℕ) where
    pub the_fitting : fitting question l T.nodes ≡ answering question l m
    unfolding fitting answering
    the_fitting = ap (keep (question (units l))) b.kits

    pub the_faults : list_faults (part_count T) l ≡ list_faults (length m.parts) l
    the_faults = ap (λ (ps : List (List ℕ)). list_faults (length ps) l) b.parts

    pub any_answer : answer (any_kit question l T) ≡ decide (list_faults (length m.parts) l) (first_tag (answering question l m))
    unfolding answer any_kit lent_list any_of
    any_answer =
        let f = the_fitting in
        let g = the_faults in rw (f, g) (behind_tables (list_faults (length m.parts) l) (first_tag (answering question l m)))

    pub all_answer : (o : List ℕ) → answer (all_kits question l T o) ≡ answer (listing_of question l m o)
    unfolding all_kits lent_list all_of
    all_answer o =
        let f = the_fitting in
        let g = the_faults in rw (f, g) (down_answer (list_faults (length m.parts) l) (tags_of (answering question l m)) o)

    pub all_memory : (o : List ℕ) → memory (all_kits question l T o) o ≡ memory (listing_of question l m o) o
    unfolding all_kits lent_list all_of
    all_memory o =
        let f = the_fitting in
        let g = the_faults in rw (f, g) (down_memory (list_faults (length m.parts) l) (tags_of (answering question l m)) o)

pub has_what_was_entered : HasWhatWasEntered
has_what_was_entered a h = has_contents (brought a h)

pub any_answers : AnyAnswers
any_answers a question l h = any_answer (brought a h) question l

pub all_answers : AllAnswers
all_answers a question l o h = (all_answer (brought a h) question l o, all_memory (brought a h) question l o)

-- no tag is said exactly when there is no kit
pub no_first : (ks : List Kit) → ((k : Kit) → Memᴰ k ks → 0 < k.tag) → (first_tag ks ≡ 0) ↔ (ks ≡ [])
unfolding first_tag
no_first [] f = (λ e. refl, λ e. refl)
no_first (k ∷ ks) f = (λ e. absurd (omega (arith, f k (Memᴰ.head refl))), λ e. ap first_tag e)

pub none_answers : NoneAnswers
unfolding answering
none_answers a question l h =
    let b = brought a h in
    no_first (answering question l (entered a)) (λ k i.
    let j = keep_mem (question (units l)) k (kits_in_order (entered a).kits) i in
    listed_tagged b.both.sound.shape k (subst (Memᴰ k) (sym b.kits) j.0))
