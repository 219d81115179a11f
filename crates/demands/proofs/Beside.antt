-- Request 8, of any tables: what the calls of the maker's table are refused with, and what they leave in each slot.
use mathlib.Core.Path.{◌≡◌, refl, sym, ap, ◌∙◌}
use mathlib.Core.Logic.{◌⊎◌, inl, inr, ⊎_elim}
use mathlib.Core.Bool.{Bool, true, false, not}
use mathlib.Core.List.{List, [], ◌∷◌}
use Prim.Native.Nat.{ℕ, ◌-◌, ◌*◌}
use native.Mathlib.Omega.{arith}
use lib.ListN.{length}
use Rattle.ground.specs.Lists.{anyb}
use Rattle.ground.specs.Laid.{laid}
use Rattle.ground.specs.Calls.{Case, given, Reply, done, refused, number_of, value_of, decide, answer}
use Rattle.ground.proofs.Laws.{by_cond}
use Rattle.ground.proofs.Laid.{length_laid}
use Rattle.ground.proofs.Calls as calls
use Rattle.register.specs.Number.{good_number}
use Rattle.register.specs.Register.{slot_bytes, slot_of, register_length, register_sound}
use Rattle.register.specs.Calls.{no_part}
use Rattle.register.proofs.Entered.{entered_here}
use Rattle.makers.specs.Makers.{makers_length, makers_sound}
use Rattle.makers.specs.Calls.{Beside, MakerCall, beside_lengths, clear_maker, clearing_maker, lent_beside}
use Rattle.makers.specs.Calls.{parts_beside, place_refusals, plan_of_maker, set_maker, setting_maker, show_label, showing_label, zero_makers, zeroing_makers}
use Rattle.makers.proofs.Labels.{NoneOrGood, label_short, other_slots, sound_laid, zeros_sound}
use Rattle.makers.proofs.Answers.{FoundBeside, clear_found, found_makers, label_empty, set_found, show_found}
use Rattle.nodes.proofs.Sorted.{Every, none, also}
use Rattle.demands.specs.Makers.{ClearsOne, MakersLaidDown, MakersOneExactly, MakersTwoExactly, MakersValue, OneSlot, SetsOne, ShowsNoLabel}
use Rattle.demands.specs.Makers.{StaysSound, ZeroingOneOnly, makers_numbers}
use Rattle.demands.proofs.Damaged.{Above, one_front, tables_then, two_front}
use Rattle.demands.proofs.LaidDown.{NumberIn, decided_in}

------------------------------------------------------------------------
-- Refusals: 1, then 2, then numbers above 2

-- what a call asks of the tables in front of its other refusals, soundness as right where it does not ask for it
record AsksBeside (c : MakerCall) (B : Beside) : Type 0 where
  register_is : Bool
  makers_are : Bool
  rest : List Case
  answers : answer (plan_of_maker c B)
      ≡ decide (tables_then (register_length B.register) (makers_length B.register B.makers) register_is makers_are rest) 0
  above : Every (Above 2) rest
  asks : (zero_makers ≡ c → ⊥) → (register_is ≡ register_sound B.register) × (makers_are ≡ makers_sound (parts_beside B) B.makers)

asks_beside : (c : MakerCall) (B : Beside) → AsksBeside c B
unfolding answer decide plan_of_maker zeroing_makers setting_maker clearing_maker showing_label place_refusals lent_beside beside_lengths tables_then
asks_beside zero_makers B = record { register_is = true; makers_are = true; rest = []; answers = refl; above = none; asks = λ d. absurd (d refl) }
asks_beside (set_maker p n) B = record {
  register_is = _;
  makers_are = _;
  rest = given (no_part (parts_beside B) p) 11 0 ∷ given (not (good_number n)) 3 0 ∷ [];
  answers = refl;
  above = also refl (also refl none);
  asks = λ _. (refl, refl);
}
asks_beside (clear_maker p) B = record {
  register_is = _;
  makers_are = _;
  rest = given (no_part (parts_beside B) p) 11 0 ∷ [];
  answers = refl;
  above = also refl none;
  asks = λ _. (refl, refl);
}
asks_beside (show_label p) B = record {
  register_is = _;
  makers_are = _;
  rest = given (no_part (parts_beside B) p) 11 0 ∷ [];
  answers = refl;
  above = also refl none;
  asks = λ _. (refl, refl);
}

pub makers_one_exactly : MakersOneExactly
makers_one_exactly c B =
    let a = asks_beside c B in
    let o = one_front _ _ a.register_is a.makers_are a.rest 0 a.above in
    (λ e. o.0 (sym (ap number_of a.answers) ∙ e), λ h. ap number_of a.answers ∙ o.1 h)

pub makers_two_exactly : MakersTwoExactly
makers_two_exactly c B d =
    let a = asks_beside c B in
    let t = two_front _ _ a.register_is a.makers_are a.rest 0 a.above in
    let x = (a.asks d).0 in
    let y = (a.asks d).1 in (
      λ e. let h = t.0 (sym (ap number_of a.answers) ∙ e) in (h.0, ⊎_elim (λ z. inl (sym x ∙ z)) (λ z. inr (sym y ∙ z)) h.1),
      λ h. ap number_of a.answers ∙ t.1 (h.0, ⊎_elim (λ z. inl (x ∙ z)) (λ z. inr (y ∙ z)) h.1),
    )

pub zeroing_one_only : ZeroingOneOnly
unfolding answer decide plan_of_maker zeroing_makers beside_lengths
zeroing_one_only B f = go (register_length B.register) (makers_length B.register B.makers) f
  where
    go : (r m : Bool) → ((r ≡ false) ⊎ (m ≡ false) → ⊥) → decide (given (not r) 1 0 ∷ given (not m) 1 0 ∷ []) 0 ≡ done 0
    go false m f = absurd (f (inl refl))
    go true false f = absurd (f (inr refl))
    go true true f = refl

-- Which numbers, and no value
cases_in : (c : MakerCall) (B : Beside) → Every (NumberIn (makers_numbers c)) (plan_of_maker c B).cases
unfolding anyb makers_numbers plan_of_maker zeroing_makers setting_maker clearing_maker showing_label place_refusals lent_beside beside_lengths
cases_in zero_makers B = also refl (also refl none)
cases_in (set_maker p n) B = also refl (also refl (also refl (also refl (also refl (also refl none)))))
cases_in (clear_maker p) B = also refl (also refl (also refl (also refl (also refl none))))
cases_in (show_label p) B = also refl (also refl (also refl (also refl (also refl none))))

pub makers_laid_down : MakersLaidDown
unfolding answer
makers_laid_down c B = decided_in (makers_numbers c) (plan_of_maker c B).cases (plan_of_maker c B).value (cases_in c B)

-- its value is 0
abbrev NoValue : Case → Type 0
NoValue c = c.value ≡ 0

no_value : (cs : List Case) → Every NoValue cs → value_of (decide cs 0) ≡ 0
unfolding decide
no_value [] none = refl
no_value (c ∷ cs) (also z zs) =
    by_cond (λ (r : Reply). value_of r ≡ 0) c.test (refused c.number c.value) (decide cs 0) (λ _. z) (λ _. no_value cs zs)

pub makers_value : MakersValue
unfolding answer plan_of_maker zeroing_makers setting_maker clearing_maker showing_label place_refusals lent_beside beside_lengths
makers_value zero_makers B = no_value (zeroing_makers B).cases (also refl (also refl none))
makers_value (set_maker p n) B = no_value (setting_maker p n B).cases (also refl (also refl (also refl (also refl (also refl (also refl none))))))
makers_value (clear_maker p) B = no_value (clearing_maker p B).cases (also refl (also refl (also refl (also refl (also refl none)))))
makers_value (show_label p) B = no_value (showing_label p B).cases (also refl (also refl (also refl (also refl (also refl none)))))

------------------------------------------------------------------------
-- A call that is done

module _ (p : ℕ) (n : List ℕ) (B : Beside) (f : FoundBeside p B) (fits : NoneOrGood n) where
  abbrev laid_in : List ℕ
  laid_in = laid B.makers ((p - 1) * slot_bytes) (slot_of n)

  one_slot : OneSlot p (slot_of n) B.makers laid_in
  one_slot = record {
    sized = length_laid B.makers ((p - 1) * slot_bytes) (slot_of n);
    here = entered_here B.makers n (p - 1) (found_makers f) (label_short n fits);
    others = other_slots B.makers n (p - 1) (found_makers f) (label_short n fits);
  }

  stays : makers_sound (parts_beside B) laid_in ≡ true
  stays = sound_laid (parts_beside B) B.makers n (p - 1) (omega (arith, f.some, f.held)) (found_makers f) fits f.lent.sound

pub sets_one : SetsOne
unfolding plan_of_maker setting_maker
sets_one p n B e =
    let a = set_found p n B 0 e in
    rw (calls.done_leaves (setting_maker p n B) B.makers 0 e) (one_slot p n B a.0 (inr a.1))

pub clears_one : ClearsOne
unfolding plan_of_maker clearing_maker slot_of
clears_one p B e = rw (calls.done_leaves (clearing_maker p B) B.makers 0 e) (one_slot p [] B (clear_found p B 0 e) (inl refl))

pub stays_sound : StaysSound
unfolding plan_of_maker zeroing_makers setting_maker clearing_maker showing_label slot_of
stays_sound zero_makers B e = rw (calls.done_leaves (zeroing_makers B) B.makers 0 e) (zeros_sound (parts_beside B) (length B.makers))
stays_sound (set_maker p n) B e =
    let a = set_found p n B 0 e in
    rw (calls.done_leaves (setting_maker p n B) B.makers 0 e) (stays p n B a.0 (inr a.1))
stays_sound (clear_maker p) B e = rw (calls.done_leaves (clearing_maker p B) B.makers 0 e) (stays p [] B (clear_found p B 0 e) (inl refl))
stays_sound (show_label p) B e = rw (calls.done_leaves (showing_label p B) B.makers 0 e) (show_found p B 0 e).lent.sound

------------------------------------------------------------------------
-- Nothing is shown where refused

pub shows_no_label : ShowsNoLabel
shows_no_label B p e = label_empty p B e
