-- What the calls of the maker's table answer, once the lent tables are known: the laws that each return of the code puts its facts into.
use mathlib.Core.Path.{◌≡◌, refl, ap, sym, ◌∙◌}
use mathlib.Core.Bool.{Bool, true, false, not}
use mathlib.Core.List.{List, [], ◌∷◌, ◌++◌}
use Prim.Native.Nat.{ℕ, ◌+◌, ◌-◌, ◌*◌, ◌≤◌, ◌<◌}
use native.Mathlib.Omega.{arith}
use lib.ListN.{get_or, length, replicate}
use lib.Dec.{ltb}
use denote.Ref.{Bor}
use borrow.Author.Tests.{eqb-false, eqb-true, ltb-false, not-false}
use Rattle.ground.specs.Lists.{is_zero}
use Rattle.ground.specs.Laid.{laid, zeroed}
use Rattle.ground.specs.Stretch.{Stretch}
use Rattle.ground.specs.Calls.{Case, Reply, Promise, answer, decide, done, given, is_refused, refused}
use Rattle.ground.proofs.Laws.{every_at, or_left, or_right}
use Rattle.ground.proofs.Calls.{done_passes, first_passes, first_refuses, leaves_done, passed_done, promise_done, promise_first, promise_front, promise_refused}
use Rattle.ground.proofs.Calls.{refused_leaves, whole_passes}
use Rattle.ground.proofs.Stretch.{stretch_same}
use Rattle.register.specs.Number.{longest_number, good_number}
use Rattle.register.specs.Register.{parts_of, register_length, register_sound, slot_bytes, slot_count, slot_of, unused_at, used_at}
use Rattle.register.specs.Calls.{no_part}
use Rattle.register.specs.Inner.{Ready}
use Rattle.register.proofs.Sound.{ready_holds, ready_short}
use Rattle.register.proofs.Slots.{unused_no, unused_yes}
use Rattle.makers.specs.Makers.{makers_length, makers_sound}
use Rattle.makers.specs.Calls.{Beside, beside, beside_lengths, clearing_maker, holder, is_makers, label_from, label_size, lent_beside, parts_beside}
use Rattle.makers.specs.Calls.{place_refusals, setting_maker, showing_label, zeroing_makers}
use Rattle.makers.proofs.Slots.{makers_short}

-- both tables are as they should be
pub record SoundBeside (R M : List ℕ) : Type 0 where
  pub ready : Ready R
  pub sized : makers_length R M ≡ true
  pub sound : makers_sound (length (parts_of R)) M ≡ true

-- The lengths
module _ (R M : List ℕ) where
  pub length_allowed : makers_length R M ≡ true → register_length M ≡ true
  unfolding makers_length
  length_allowed e = every_at _ 0 e

  pub as_many_slots : makers_length R M ≡ true → slot_count M ≡ slot_count R
  unfolding makers_length
  as_many_slots e = eqb-true _ _ (every_at _ 1 e)

  pub sizes_passed : is_refused (decide (beside_lengths (beside R M)) 0) ≡ false → (register_length R ≡ true) × (makers_length R M ≡ true)
  unfolding beside_lengths
  sizes_passed e =
      let a = done_passes _ _ _ _ (passed_done _ e) in
      let b = done_passes _ _ _ _ a.1 in
      (not-false _ a.0, not-false _ b.0)

-- Soundness behind them
module _ (R M : List ℕ) where
  pub beside_refused : (r : Reply) → r ≡ decide (beside_lengths (beside R M)) 0 → is_refused r ≡ true → r ≡ decide (lent_beside (beside R M)) 0
  unfolding lent_beside
  beside_refused r is e = first_refuses r _ _ 0 0 is e

  module _ (fits : register_length R ≡ true) (sized : makers_length R M ≡ true) where
    pub beside_register : register_sound R ≡ false → decide (lent_beside (beside R M)) 0 ≡ refused 2 0
    unfolding decide lent_beside beside_lengths
    beside_register e = rw (fits, sized, e)

    pub beside_makers : register_sound R ≡ true → makers_sound (length (parts_of R)) M ≡ false → decide (lent_beside (beside R M)) 0 ≡ refused 2 0
    unfolding decide lent_beside beside_lengths
    beside_makers e f = rw (fits, sized, e, f)

    pub beside_good : register_sound R ≡ true → makers_sound (length (parts_of R)) M ≡ true → decide (lent_beside (beside R M)) 0 ≡ done 0
    unfolding decide lent_beside beside_lengths
    beside_good e f = rw (fits, sized, e, f)

  pub beside_passed : is_refused (decide (lent_beside (beside R M)) 0) ≡ false → SoundBeside R M
  unfolding lent_beside beside_lengths
  beside_passed e =
      let a = done_passes _ _ _ _ (passed_done _ e) in
      let b = done_passes _ _ _ _ a.1 in
      let c = done_passes _ _ _ _ b.1 in
      let d = done_passes _ _ _ _ c.1 in
      record {
        ready = record { fits = not-false _ a.0; sound = not-false _ c.0 };
        sized = not-false _ b.0;
        sound = not-false _ d.0;
      }

-- Zeroing
module _ (R M : List ℕ) (r : Reply) (is : r ≡ decide (beside_lengths (beside R M)) 0) where
  pub zeroing_refused : is_refused r ≡ true → Promise (zeroing_makers (beside R M)) M r M
  unfolding zeroing_makers answer
  zeroing_refused e = promise_first (zeroing_makers (beside R M)) M r e is

  pub zeroing_done : is_refused r ≡ false → (N : List ℕ) → N ≡ zeroed M → Promise (zeroing_makers (beside R M)) M (done 0) N
  unfolding zeroing_makers answer
  zeroing_done e N s = promise_done (zeroing_makers (beside R M)) M 0 N (whole_passes r (beside_lengths (beside R M)) 0 0 is e) s

-- The place
module _ (R M : List ℕ) (p : ℕ) where
  pub label_refused : (r : Reply) → r ≡ decide (lent_beside (beside R M)) 0 → is_refused r ≡ true → r ≡ answer (showing_label p (beside R M))
  unfolding answer showing_label place_refusals
  label_refused r is e = first_refuses r _ _ 0 0 is e

  module _ (s : SoundBeside R M) where
    pub label_11 : no_part (length (parts_of R)) p ≡ true → answer (showing_label p (beside R M)) ≡ refused 11 0
    unfolding answer decide showing_label place_refusals lent_beside beside_lengths
    label_11 e = rw (s.ready.fits, s.sized, s.ready.sound, s.sound, e)

    pub label_done : no_part (length (parts_of R)) p ≡ false → answer (showing_label p (beside R M)) ≡ done 0
    unfolding answer decide showing_label place_refusals lent_beside beside_lengths
    label_done e = rw (s.ready.fits, s.sized, s.ready.sound, s.sound, e)

-- A place that was found: both tables are right, and a part has it
pub record FoundBeside (p : ℕ) (B : Beside) : Type 0 where
  pub lent : SoundBeside B.register B.makers
  pub some : 0 < p
  pub held : p ≤ parts_beside B

-- slot k stands in a table, and its length byte leaves the number inside it
pub record Inside (T : List ℕ) (k : ℕ) : Type 0 where
  pub there : k < slot_count T
  pub short : get_or T (k * slot_bytes) 0 ≤ longest_number

-- its slot, in the register and in the maker's table
module _ {p : ℕ} {B : Beside} (f : FoundBeside p B) where
  pub found_ours : p - 1 < slot_count B.register
  found_ours = omega (arith, f.some, f.held, (ready_holds B.register f.lent.ready).inside)

  pub found_makers : p - 1 < slot_count B.makers
  found_makers = omega (arith, found_ours, as_many_slots B.register B.makers f.lent.sized)

  module _ (k : ℕ) (at : k ≡ p - 1) where
    pub inside_ours : Inside B.register k
    inside_ours =
        let t = ready_short B.register f.lent.ready (parts_beside B) refl in
        record { there = omega (arith, found_ours); short = t.short k (omega (arith, f.some, f.held)) }

    pub inside_makers : Inside B.makers k
    inside_makers =
        let u : k < slot_count B.makers = omega (arith, found_makers) in
        record { there = u; short = makers_short B.makers (parts_beside B) k f.lent.sound u }

-- every call that is done has found its place, whatever it asks behind
place_passes : (p : ℕ) (B : Beside) (ds : List Case) (v w : ℕ) → decide (place_refusals p B ++ ds) v ≡ done w → FoundBeside p B × (decide ds v ≡ done w)
unfolding place_refusals lent_beside beside_lengths
place_passes p B ds v w e =
    let a = done_passes _ _ _ _ e in
    let b = done_passes _ _ _ _ a.1 in
    let r = done_passes _ _ _ _ b.1 in
    let m = done_passes _ _ _ _ r.1 in
    let h = done_passes _ _ _ _ m.1 in
    let z = eqb-false p 0 (or_left (is_zero p) (ltb (parts_beside B) p) h.0) in (
      record {
        lent = record {
          ready = record { fits = not-false _ a.0; sound = not-false _ r.0 };
          sized = not-false _ b.0;
          sound = not-false _ m.0;
        };
        some = omega (arith, z);
        held = ltb-false _ _ (or_right (is_zero p) (ltb (parts_beside B) p) h.0);
      },
      h.1,
    )

pub set_found : (p : ℕ) (n : List ℕ) (B : Beside) (v : ℕ) → answer (setting_maker p n B) ≡ done v → FoundBeside p B × (good_number n ≡ true)
unfolding answer setting_maker
set_found p n B v e = let a = place_passes p B _ 0 v e in (a.0, not-false _ (done_passes _ _ _ _ a.1).0)

pub clear_found : (p : ℕ) (B : Beside) (v : ℕ) → answer (clearing_maker p B) ≡ done v → FoundBeside p B
unfolding answer clearing_maker place_refusals lent_beside beside_lengths
clear_found p B v e = (place_passes p B [] 0 v e).0

pub show_found : (p : ℕ) (B : Beside) (v : ℕ) → answer (showing_label p B) ≡ done v → FoundBeside p B
unfolding answer showing_label place_refusals lent_beside beside_lengths
show_found p B v e = (place_passes p B [] 0 v e).0

-- What stands behind `label_answer`, once it is known to be refused or done
module _ (R M : List ℕ) (p : ℕ) (r : Reply) (is : r ≡ answer (showing_label p (beside R M))) where
  pub clearing_refused : is_refused r ≡ true → Promise (clearing_maker p (beside R M)) M r M
  unfolding answer showing_label clearing_maker
  clearing_refused e = promise_first (clearing_maker p (beside R M)) M r e is

  pub setting_refused : (n : List ℕ) → is_refused r ≡ true → Promise (setting_maker p n (beside R M)) M r M
  unfolding answer showing_label setting_maker
  setting_refused n e = promise_front (place_refusals p (beside R M)) _ 0 _ M r 0 is e

  module _ (e : is_refused r ≡ false) where
    shows : answer (showing_label p (beside R M)) ≡ done 0
    unfolding answer showing_label
    shows = whole_passes r (place_refusals p (beside R M)) 0 0 is e

    pub found_beside : FoundBeside p (beside R M)
    found_beside = show_found p (beside R M) 0 shows

    number_asked : (n : List ℕ) → answer (setting_maker p n (beside R M)) ≡ decide (given (not (good_number n)) 3 0 ∷ []) 0
    unfolding answer showing_label setting_maker
    number_asked n = first_passes r (place_refusals p (beside R M)) _ 0 0 is e

    -- of slot k, the place's
    module _ (k : ℕ) (at : k ≡ p - 1) where
      pub clearing_done : (N : List ℕ) → N ≡ laid M (k * slot_bytes) (replicate slot_bytes 0) → Promise (clearing_maker p (beside R M)) M (done 0) N
      unfolding answer showing_label clearing_maker
      clearing_done N s = promise_done (clearing_maker p (beside R M)) M 0 N shows (rw at at s)

      pub setting_done : (n N : List ℕ) → good_number n ≡ true → N ≡ laid M (k * slot_bytes) (slot_of n) →
          Promise (setting_maker p n (beside R M)) M (done 0) N
      unfolding setting_maker decide
      setting_done n N g s = promise_done (setting_maker p n (beside R M)) M 0 N (number_asked n ∙ rw g) (rw at at s)

    pub setting_3 : (n : List ℕ) → good_number n ≡ false → Promise (setting_maker p n (beside R M)) M (refused 3 0) M
    unfolding decide
    setting_3 n g = promise_refused (setting_maker p n (beside R M)) M 3 0 (number_asked n ∙ rw g)

-- What is shown: nothing where refused, and otherwise the number of the maker's table where its slot is used, and else the register's
module _ (p : ℕ) (B : Beside) where
  pub label_empty : is_refused (answer (showing_label p B)) ≡ true → (is_makers p B ≡ false) × (label_from p B ≡ 0) × (label_size p B ≡ 0)
  unfolding is_makers label_from label_size
  label_empty e = (refused_leaves _ _ _ e, refused_leaves _ _ _ e, refused_leaves _ _ _ e)

  pub label_shown_lem : (v : ℕ) → answer (showing_label p B) ≡ done v → (is_makers p B ≡ used_at B.makers (p - 1))
      × (label_from p B ≡ (p - 1) * slot_bytes + 1) × (label_size p B ≡ get_or (holder p B B.register B.makers) ((p - 1) * slot_bytes) 0)
  unfolding is_makers label_from label_size
  label_shown_lem v e = (leaves_done _ v _ _ e, leaves_done _ v _ _ e, leaves_done _ v _ _ e)

-- The stretch x that is shown, of the register s or the maker's table t
module _ (R M : List ℕ) (p : ℕ) (r : Reply) (is : r ≡ answer (showing_label p (beside R M))) where
  pub shows_none : (s t : Bor (List ℕ)) {x : Bor (List ℕ)} → is_refused r ≡ true → Stretch s x 0 0 →
      Stretch (holder p (beside R M) s t) x (label_from p (beside R M)) (label_size p (beside R M))
  shows_none s t e h =
      let w = label_empty p (beside R M) (ap is_refused (sym is) ∙ e) in
      rw w.0 (stretch_same h (sym w.1) (sym w.2))

  module _ (e : is_refused r ≡ false) (k : ℕ) (at : k ≡ p - 1) where
    used_is : (b : Bool) → unused_at M k ≡ b → is_makers p (beside R M) ≡ not b
    unfolding used_at
    used_is b u = (label_shown_lem p (beside R M) 0 (shows R M p r is e)).0 ∙ ap not (ap (unused_at M) (sym at) ∙ u)

    pub shows_ours : (s t : Bor (List ℕ)) {x : Bor (List ℕ)} → get_or M (k * slot_bytes) 0 ≡ 0 →
        Stretch s x (k * slot_bytes + 1) (get_or R (k * slot_bytes) 0) →
        Stretch (holder p (beside R M) s t) x (label_from p (beside R M)) (label_size p (beside R M))
    shows_ours s t z h =
        let w = label_shown_lem p (beside R M) 0 (shows R M p r is e) in
        let m : is_makers p (beside R M) ≡ false = used_is true (unused_yes M k z) in
        rw m (stretch_same (rw at at h) (sym w.1) (sym (w.2 ∙ rw m)))

    pub shows_makers : (s t : Bor (List ℕ)) {x : Bor (List ℕ)} → (get_or M (k * slot_bytes) 0 ≡ 0 → ⊥) →
        Stretch t x (k * slot_bytes + 1) (get_or M (k * slot_bytes) 0) →
        Stretch (holder p (beside R M) s t) x (label_from p (beside R M)) (label_size p (beside R M))
    shows_makers s t z h =
        let w = label_shown_lem p (beside R M) 0 (shows R M p r is e) in
        let m : is_makers p (beside R M) ≡ true = used_is false (unused_no M k z) in
        rw m (stretch_same (rw at at h) (sym w.1) (sym (w.2 ∙ rw m)))
