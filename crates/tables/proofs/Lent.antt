-- What the checks of the lent tables and of a lent list decide, and what is known once they have passed.
use mathlib.Core.Path.{◌≡◌, refl, ap, sym, ◌∙◌}
use mathlib.Core.Bool.{Bool, true, false, false≢true}
use mathlib.Core.List.{List}
use Prim.Native.Nat.{ℕ, ◌≤◌}
use native.Mathlib.Omega.{arith}
use lib.ListN.{length}
use borrow.Author.Tests.{not-false}
use Rattle.ground.specs.Calls.{Reply, done, refused, is_refused, decide}
use Rattle.ground.proofs.Calls.{passed_done, done_passes, first_refuses, first_passes}
use Rattle.register.specs.Register.{parts_of, register_length, register_sound}
use Rattle.register.specs.Inner.{Ready}
use Rattle.register.proofs.Sound.{few_slots, ready_holds}
use Rattle.kits.specs.Kits.{most_place, list_faults, good_list}
use Rattle.kits.proofs.Checks.{checked_good}
use Rattle.kits.proofs.Good.{good_lines_lem, lines_good_list, good_wider}
use Rattle.nodes.specs.Nodes.{nodes_length}
use Rattle.nodes.specs.Sound.{nodes_sound}
use Rattle.nodes.specs.Inner.{Sound}
use Rattle.nodes.proofs.Decided.{sound_exactly}
use Rattle.nodes.proofs.Beginnings.{widen}
use Rattle.ground.specs.Tables.{tables}
use Rattle.tables.specs.Lent.{lengths, lent_both, lent_list}
use Rattle.tables.specs.Inner.{SoundTables}

module _ (R N : List ℕ) where
  pub lengths_register : register_length R ≡ false → decide (lengths (tables R N)) 0 ≡ refused 1 0
  unfolding decide lengths
  lengths_register e = rw e

  pub lengths_nodes : register_length R ≡ true → nodes_length N ≡ false → decide (lengths (tables R N)) 0 ≡ refused 1 0
  unfolding decide lengths
  lengths_nodes e f = rw (e, f)

  pub lengths_good : register_length R ≡ true → nodes_length N ≡ true → decide (lengths (tables R N)) 0 ≡ done 0
  unfolding decide lengths
  lengths_good e f = rw (e, f)

  pub lengths_passed : is_refused (decide (lengths (tables R N)) 0) ≡ false → (register_length R ≡ true) × (nodes_length N ≡ true)
  unfolding lengths
  lengths_passed e =
      let a = done_passes _ _ _ _ (passed_done _ e) in
      let b = done_passes _ _ _ _ a.1 in
      (not-false _ a.0, not-false _ b.0)

  pub both_refused : (r : Reply) → r ≡ decide (lengths (tables R N)) 0 → is_refused r ≡ true → r ≡ decide (lent_both (tables R N)) 0
  unfolding lent_both
  both_refused r is e = first_refuses r _ _ 0 0 is e

  module _ (fits : register_length R ≡ true) (sized : nodes_length N ≡ true) where
    pub both_register : register_sound R ≡ false → decide (lent_both (tables R N)) 0 ≡ refused 2 0
    unfolding decide lent_both lengths
    both_register e = rw (fits, sized, e)

    pub both_nodes : register_sound R ≡ true → nodes_sound (length (parts_of R)) N ≡ false → decide (lent_both (tables R N)) 0 ≡ refused 2 0
    unfolding decide lent_both lengths
    both_nodes e f = rw (fits, sized, e, f)

    pub both_good : register_sound R ≡ true → nodes_sound (length (parts_of R)) N ≡ true → decide (lent_both (tables R N)) 0 ≡ done 0
    unfolding decide lent_both lengths
    both_good e f = rw (fits, sized, e, f)

pub few_parts_lem : (R : List ℕ) → Ready R → length (parts_of R) ≤ most_place
few_parts_lem R r = omega (arith, few_slots R r.fits, (ready_holds R r).inside)

module _ (R N : List ℕ) where
  -- tables that passed are sound, and sound ones pass
  pub both_passed : is_refused (decide (lent_both (tables R N)) 0) ≡ false → SoundTables (tables R N)
  unfolding lent_both lengths
  both_passed e =
      let a = done_passes _ _ _ _ (passed_done _ e) in
      let b = done_passes _ _ _ _ a.1 in
      let c = done_passes _ _ _ _ b.1 in
      let d = done_passes _ _ _ _ c.1 in
      record {
        ready = record { fits = not-false _ a.0; sound = not-false _ c.0 };
        sized = not-false _ b.0;
        sound = (sound_exactly (length (parts_of R)) N (not-false _ b.0)).0 (not-false _ d.0);
      }

  pub passed_sound : done 0 ≡ decide (lent_both (tables R N)) 0 → SoundTables (tables R N)
  passed_sound is = both_passed (ap is_refused (sym is))

  pub sound_passes : SoundTables (tables R N) → decide (lent_both (tables R N)) 0 ≡ done 0
  sound_passes s =
      both_good R N s.ready.fits s.sized s.ready.sound ((sound_exactly (length (parts_of R)) N s.sized).1 s.sound)

  pub lent_sound : SoundTables (tables R N) → Sound most_place N
  lent_sound s = widen (few_parts_lem R s.ready) s.sound

-- A list that passed is good, whatever the number of parts
pub list_passed : (n : ℕ) (l : List ℕ) → is_refused (decide (list_faults n l) 0) ≡ false → good_list n l ≡ true
list_passed n l h = not-false _ (sym (checked_good n l) ∙ h)

pub good_most : (n : ℕ) (l : List ℕ) → n ≤ most_place → good_list n l ≡ true → good_list most_place l ≡ true
good_most n l h g = lines_good_list most_place l (good_wider h (omega arith) (good_lines_lem n l g))

module _ (R N l : List ℕ) where
  -- a call that the tables refuse is refused so, whatever is asked of the list
  pub list_refused : (r : Reply) → r ≡ decide (lent_both (tables R N)) 0 → is_refused r ≡ true → r ≡ decide (lent_list (tables R N) l) 0
  unfolding lent_list
  list_refused r is e = first_refuses r _ _ 0 0 is e

  -- of sound tables the list alone is asked
  pub lines_asked : SoundTables (tables R N) → (r : Reply) → r ≡ decide (list_faults (length (parts_of R)) l) 0 →
      r ≡ decide (lent_list (tables R N) l) 0
  unfolding lent_list
  lines_asked s r is = is ∙ sym (first_passes (done 0) (lent_both (tables R N)) _ 0 0 (sym (sound_passes R N s)) refl)

  -- a list that passed is good with the most parts
  -- a list that passed is good with the most parts
  pub lines_good : SoundTables (tables R N) → (r : Reply) (b : Bool) → r ≡ decide (list_faults (length (parts_of R)) l) 0 → b ≡ is_refused r →
      b ≡ false → good_list most_place l ≡ true
  lines_good s r b is t e =
      good_most (length (parts_of R)) l (few_parts_lem R s.ready) (list_passed (length (parts_of R)) l (ap is_refused (sym is) ∙ sym t ∙ e))

  pub lines_passed : SoundTables (tables R N) → done 0 ≡ decide (list_faults (length (parts_of R)) l) 0 → good_list most_place l ≡ true
  lines_passed s is = good_most (length (parts_of R)) l (few_parts_lem R s.ready) (list_passed (length (parts_of R)) l (ap is_refused (sym is)))

  pub lent_passed : is_refused (decide (lent_list (tables R N) l) 0) ≡ false → SoundTables (tables R N)
  lent_passed e = go (is_refused (decide (lent_both (tables R N)) 0)) refl
    where
      go : (b : Bool) → is_refused (decide (lent_both (tables R N)) 0) ≡ b → SoundTables (tables R N)
      go true h = absurd (false≢true (sym e ∙ ap is_refused (sym (list_refused _ refl h)) ∙ h))
      go false h = both_passed R N h
