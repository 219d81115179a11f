-- Request 11: a list that was inserted and is deleted next. The tables are sound then and the list good, so the calls ask what their row is asked.
use mathlib.Core.Path.{◌≡◌, refl, sym, ap, subst, ◌∙◌}
use mathlib.Core.List.{List}
use Prim.Native.Nat.{ℕ}
use Rattle.ground.specs.Calls.{done, refused, is_refused, answer, memory, Promise}
use Rattle.ground.specs.Tables.{Tables, tables}
use Rattle.ground.proofs.Calls.{decide_behind, leaves_done}
use Rattle.kits.specs.Kits.{units, list_faults}
use Rattle.kits.proofs.Units.{good_row}
use Rattle.index_insert.specs.Enter.{enter}
use Rattle.index.specs.Inner.{deleting_row, finding_row}
use Rattle.index_undo.specs.Inner.{entering}
use Rattle.index_undo.proofs.Undone.{entry_leaves, deleted_at_once}
use Rattle.tables.specs.Inner.{SoundTables}
use Rattle.tables.specs.Lent.{part_count, lent_both, lent_list}
use Rattle.tables.proofs.Lent.{both_passed, sound_passes}
use Rattle.catalogue.specs.Calls.{inserting, finding, deleting}
use Rattle.catalogue.proofs.Answers.{find_done, delete_done}
use Rattle.catalogue.proofs.Kept.{Insertion, insertion, insert_keeps_sound}
use Rattle.demands.specs.AtOnce.{inserted, deleted_next, UndoneAtOnce}
use Rattle.demands.specs.Demand2.{Asked}

-- a list that is asked about is found and deleted as its row is
module _ (T : Tables) (l : List ℕ) (a : Asked T l) where
  abbrev N : List ℕ
  N = T.nodes

  found_by_row : answer (finding l T) ≡ answer (finding_row (units l) T.nodes)
  found_by_row = sym (find_done T.register N l (done 0) (sym a) (units l) refl refl)

  deleted_by_row : Promise (deleting l T) T (answer (deleting_row (units l) T.nodes))
      (tables T.register (memory (deleting_row (units l) T.nodes) T.nodes))
  deleted_by_row =
      delete_done T.register N l (done 0) (sym a) (units l) (answer (deleting_row (units l) N)) (memory (deleting_row (units l) N) N) refl refl
      (record { answers = refl; lent = refl })

module _ (T : Tables) (l : List ℕ) (t n : ℕ) (e : answer (inserting l t T) ≡ done n) where
  was : Insertion l t T n
  was = insertion l t T n e

  sound : SoundTables T
  sound = both_passed T.register T.nodes (ap is_refused was.tables_pass)

  -- the tables in between
  abbrev M : Tables
  M = tables T.register (entering (units l) t T.nodes)

  gone_in : entering (units l) t T.nodes ≡ enter T.nodes (units l) t
  gone_in = entry_leaves (units l) t n T.nodes was.row_done

  left : inserted l t T ≡ M
  unfolding memory inserting
  left =
      leaves_done (answer (inserting l t T)) n T (tables T.register (enter T.nodes (units l) t)) e
      ∙ ap (tables T.register) (sym gone_in)

  sound_between : SoundTables M
  sound_between = subst (λ (Q : List ℕ). SoundTables (tables T.register Q)) (sym gone_in) (insert_keeps_sound l t T n was sound)

  -- the list is asked about before and after
  asked_of : (U : Tables) → SoundTables U → part_count U ≡ part_count T → Asked U l
  unfolding lent_list
  asked_of U s p =
      decide_behind (lent_both U) (list_faults (part_count U) l) 0 0 (sound_passes U.register U.nodes s) ∙ rw p was.list_passes

  undone : (answer (deleting l (inserted l t T)) ≡ done t) × (deleted_next l t T ≡ T) × (answer (finding l (deleted_next l t T)) ≡ refused 11 0)
  undone =
      let row = deleted_at_once sound.sound (good_row (part_count T) l was.good was.short) was.some_tag_lem n was.row_done in
      let d = deleted_by_row M l (asked_of M sound_between refl) in
      let back : deleted_next l t T ≡ T = ap (λ (U : Tables). memory (deleting l U) U) left ∙ sym d.lent ∙ ap (tables T.register) row.1 in (
        ap (λ (U : Tables). answer (deleting l U)) left ∙ sym d.answers ∙ row.0,
        back,
        ap (λ (U : Tables). answer (finding l U)) back ∙ found_by_row T l (asked_of T sound refl)
            ∙ ap (λ (Q : List ℕ). answer (finding_row (units l) Q)) (sym row.1) ∙ row.2,
      )

pub undone_at_once : UndoneAtOnce
undone_at_once = undone
