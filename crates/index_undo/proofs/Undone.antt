-- A kit that is entered and struck out next: the table is what it was, in every word.
use mathlib.Core.Path.{◌≡◌, refl, sym, ap, subst, ◌∙◌}
use mathlib.Core.Logic.{◌≢◌}
use mathlib.Core.List.{List, Memᴰ}
use Prim.Native.Nat.{ℕ, ◌<◌}
use native.Mathlib.Omega.{arith}
use Rattle.ground.specs.Calls.{done, answer, memory}
use Rattle.ground.proofs.Calls.{leaves_done}
use Rattle.kits.specs.Inner.{GoodRow}
use Rattle.nodes.specs.Nodes.{row_of}
use Rattle.nodes.specs.Inner.{Used, Sound}
use Rattle.nodes.specs.Held.{Kit, comes_before, held, tag_in, drop_kit}
use Rattle.nodes.proofs.Sorted.{Every, mem_every}
use Rattle.nodes.proofs.Listing.{OtherRow, drop_put, tag_in_lem}
use Rattle.nodes.proofs.Ordered.{put_new}
use Rattle.nodes.proofs.Held.{Holds, kit, held_holds, held_tag, held_rows_differ}
use Rattle.nodes.proofs.Beginnings.{Begun, used_begun}
use Rattle.index_insert.specs.Enter.{enter}
use Rattle.index_delete.specs.Strike.{strike}
use Rattle.index.specs.Inner.{inserting_row, deleting_row, finding_row}
use Rattle.index.proofs.Answers.{find_some, find_none}
use Rattle.index.proofs.Kept.{Accepted, accepted, insert_sound, insert_length, insert_used, insert_rows_lem, held_after_insert}
use Rattle.index.proofs.Kept.{delete_sound, delete_length, delete_rows, held_after_delete}
use Rattle.index_counts.proofs.Freed.{stays_exactly}
use Rattle.index_undo.specs.Inner.{StrikingUndoes, entering, deleting_next, DeletedAtOnce}
use Rattle.index_undo.proofs.Told.{told_by_rows}

module _ {parts : ℕ} {N r : List ℕ} {t : ℕ} (So : Sound parts N) (G : GoodRow parts r) (g : 0 < t) (A : Accepted r t N) where
  -- the kit is held then, with its tag, and no other has its row
  entered_sound : Sound parts (enter N r t)
  entered_sound = insert_sound So G g A

  tag_entered : tag_in r (held (enter N r t)) ≡ t
  tag_entered =
      tag_in_lem (kit r t) (held (enter N r t)) (held_rows_differ entered_sound.shape)
      (subst (Memᴰ (kit r t)) (sym (held_after_insert So G g A)) (put_new comes_before (kit r t) (held N)))

  entered_held : tag_in r (held (enter N r t)) ≢ 0
  entered_held z = omega (arith, tag_entered)

  other_rows : Every (OtherRow (kit r t)) (held N)
  other_rows = mem_every (held N) (λ k m e. omega (
    arith,
    A.fresh,
    (held_holds So.shape k m).some_tag_lem,
    held_tag So.shape r k.tag (subst (λ (s : List ℕ). Holds N s k.tag) (sym e) (held_holds So.shape k m)),
  ))

  -- struck out next, what is held is what was held
  held_again : held (strike (enter N r t) r) ≡ held N
  held_again = held_after_delete entered_sound r entered_held ∙ ap (drop_kit r) (held_after_insert So G g A) ∙ drop_put (kit r t) other_rows

  -- and each node that was there stays, since its row begins a kit that is held
  stays_used : (i : ℕ) → Used N i → Used (strike (enter N r t) r) i
  stays_used i u =
      (stays_exactly entered_sound r entered_held i (insert_used So G g A i u)).1
      (subst (λ (s : List ℕ). Begun (drop_kit r (held (enter N r t))) s) (sym (insert_rows_lem So G g A i (λ _. u)))
      (subst (λ (ks : List Kit). Begun ks (row_of N i)) (sym held_again ∙ held_after_delete entered_sound r entered_held) (used_begun So i u)))

  -- The law: striking out undoes entry
  pub striking_undoes : StrikingUndoes N r t
  striking_undoes =
      told_by_rows So (delete_sound entered_sound r entered_held)
      (record { used = stays_used; rows = λ i u. delete_rows entered_sound r entered_held i (λ _. stays_used i u) ∙ insert_rows_lem So G g A i (λ _. u) })
      held_again
      (delete_length entered_sound r entered_held ∙ insert_length So G g A)

  -- The same over the plans
  delete_answers : answer (deleting_row r (enter N r t)) ≡ done t
  unfolding answer deleting_row finding_row
  delete_answers = sym (find_some r (enter N r t) (sym tag_entered) (λ z. omega arith))

  given_back : memory (deleting_row r (enter N r t)) (enter N r t) ≡ N
  unfolding memory deleting_row
  given_back = leaves_done (answer (deleting_row r (enter N r t))) t (enter N r t) (strike (enter N r t) r) delete_answers ∙ striking_undoes

pub entry_leaves : (r : List ℕ) (t n : ℕ) (N : List ℕ) → answer (inserting_row r t N) ≡ done n → entering r t N ≡ enter N r t
unfolding memory inserting_row
entry_leaves r t n N e = leaves_done (answer (inserting_row r t N)) n N (enter N r t) e

pub deleted_at_once : {parts : ℕ} {N r : List ℕ} {t : ℕ} → Sound parts N → GoodRow parts r → 0 < t → DeletedAtOnce r t N
deleted_at_once {N = N} {r = r} {t = t} So G g n e =
    let A : Accepted r t N = (accepted r N t n e).0 in
    let m : entering r t N ≡ enter N r t = entry_leaves r t n N e in
    let b : deleting_next r t N ≡ N = ap (λ (X : List ℕ). memory (deleting_row r X) X) m ∙ given_back So G g A in (
      ap (λ (X : List ℕ). answer (deleting_row r X)) m ∙ delete_answers So G g A,
      b,
      ap (λ (X : List ℕ). answer (finding_row r X)) b ∙ sym (find_none r N (sym A.fresh) refl),
    )
