-- What a line leaves: its reply lies inside the output, the tables do not depend on the outputs lent, and sound ones stay sound.
use mathlib.Core.Path.{◌≡◌, refl, ap}
use mathlib.Core.Bool.{Bool, true, false, cond}
use mathlib.Core.List.{List, []}
use Prim.Native.Nat.{ℕ, ◌≤◌, ◌<◌}
use native.Mathlib.Omega.{arith}
use lib.ListN.{length, get_or}
use lib.Dec.{eqb}
use Rattle.ground.specs.Calls.{Plan, memory}
use Rattle.ground.specs.Tables.{Tables}
use Rattle.questions.specs.Questions.{is_within, is_containing}
use Rattle.tables.specs.Inner.{SoundTables}
use Rattle.catalogue.specs.Calls.{finding, any_kit}
use Rattle.catalogue.proofs.Kept.{kept_by, sound_after_register, sound_after_insert, sound_after_delete}
use Rattle.desk_text.specs.Letters as letter
use Rattle.desk_text.specs.Lines.{longest_line, Parsed, none, line, parsed}
use Rattle.desk_text.proofs.Lines.{line_long}
use Rattle.desk_lists.specs.Typed.{Typed, typed, stopped, looked_up}
use Rattle.desk_lines.specs.Desk.{Answered, at_desk, called, register_line, write_line, ask_line, call_of, asked, with_list, left_by, Answers}

-- the reply lies inside the output
pub reply_inside : (a : Answered) (old : List ℕ) (r : ℕ) (new : List ℕ) (T : Tables) → Answers a old r new T → length new ≡ length old →
    r ≤ length new
reply_inside a old r new T p e = omega (arith, p.reply.whole)

-- the tables after a line do not depend on the outputs
cond_after : (b : Bool) (x y u v : Answered) → x.after ≡ u.after → y.after ≡ v.after → (cond b x y).after ≡ (cond b u v).after
cond_after true x y u v e f = e
cond_after false x y u v e f = f

module _ (o s o' s' : List ℕ) (T : Tables) where
  asked_after : (x t : ℕ) (l : List ℕ) → (asked x t o T l).after ≡ (asked x t o' T l).after
  unfolding asked
  asked_after x t l =
      cond_after (eqb x letter.all_within) _ _ _ _ refl (cond_after (eqb x letter.all_containing) _ _ _ _ refl refl)

  with_after : (x t : ℕ) (r : Typed) → (with_list x T (asked x t o T) r).after ≡ (with_list x T (asked x t o' T) r).after
  unfolding with_list
  with_after x t (typed l) = asked_after x t l
  with_after x t (stopped n v) = refl

  outputs_after : (p : Parsed) → (at_desk p o s T).after ≡ (at_desk p o' s' T).after
  unfolding at_desk write_line ask_line
  outputs_after none = refl
  outputs_after (line x t fs) =
      cond_after (eqb x letter.registers) _ _ _ _ refl
      (cond_after (eqb x letter.writes) _ _ _ _ refl (with_after x t (looked_up T.register fs)))

pub left_by_lem : (l o s : List ℕ) (T : Tables) → (at_desk (parsed l) o s T).after ≡ left_by l T
unfolding left_by
left_by_lem l o s T = outputs_after o s [] [] T (parsed l)

-- an overlong line leaves the tables
pub overlong_leaves : (l : List ℕ) (T : Tables) → longest_line < length l → left_by l T ≡ T
unfolding left_by at_desk
overlong_leaves l T h = ap (λ p. (at_desk p [] [] T).after) (line_long l (omega arith) h)

------------------------------------------------------------------------
-- Sound tables stay sound, line by line

one_of : {A : Type 0} (P : A → Type 0) (b : Bool) (x y : A) → P x → P y → P (cond b x y)
one_of P true x y p q = p
one_of P false x y p q = q

module _ (T : Tables) (s : SoundTables T) where
  abbrev CallKeeps : Plan Tables → Type 0
  CallKeeps p = SoundTables (memory p T)

  abbrev LineKeeps : Answered → Type 0
  LineKeeps a = SoundTables a.after

  call_sound : (x t : ℕ) (l : List ℕ) → CallKeeps (call_of x t l T)
  unfolding call_of finding any_kit
  call_sound x t l =
      one_of CallKeeps (eqb x letter.inserts) _ _ (sound_after_insert l t T s)
      (one_of CallKeeps (eqb x letter.finds) _ _ (kept_by SoundTables (finding l T) T s (λ v e. s))
      (one_of CallKeeps (eqb x letter.deletes) _ _ (sound_after_delete l T s)
      (one_of CallKeeps (eqb x letter.any_within) _ _ (kept_by SoundTables (any_kit is_within l T) T s (λ v e. s))
      (kept_by SoundTables (any_kit is_containing l T) T s (λ v e. s)))))

  asked_sound : (x t : ℕ) (o l : List ℕ) → LineKeeps (asked x t o T l)
  unfolding asked called
  asked_sound x t o l = one_of LineKeeps (eqb x letter.all_within) _ _ s (one_of LineKeeps (eqb x letter.all_containing) _ _ s (call_sound x t l))

  with_sound : (x t : ℕ) (o : List ℕ) (r : Typed) → LineKeeps (with_list x T (asked x t o T) r)
  unfolding with_list
  with_sound x t o (typed l) = asked_sound x t o l
  with_sound x t o (stopped n v) = s

  line_sound : (p : Parsed) → LineKeeps (at_desk p [] [] T)
  unfolding at_desk register_line write_line ask_line called
  line_sound none = s
  line_sound (line x t fs) =
      one_of LineKeeps (eqb x letter.registers) _ _ (sound_after_register (get_or fs 0 []) T s)
      (one_of LineKeeps (eqb x letter.writes) _ _ s (with_sound x t [] (looked_up T.register fs)))

  pub left_sound : (l : List ℕ) → SoundTables (left_by l T)
  unfolding left_by
  left_sound l = line_sound (parsed l)
