-- Request 8: what calls of the catalogue and of the maker's table leave, read off the calls, what is shown, and every reply.
use mathlib.Core.Path.{◌≡◌, refl, sym, ap, ◌∙◌}
use mathlib.Core.Logic.{inl, inr}
use mathlib.Core.Bool.{Bool, true, false, ◌&&◌, ◌||◌, cond, not, and-true}
use mathlib.Core.List.{List, [], ◌∷◌}
use Prim.Native.Nat.{ℕ, zero, suc, ◌+◌, ◌-◌, ◌*◌, ◌≤◌, ◌<◌}
use native.Mathlib.Numerals.{add-one}
use native.Mathlib.Omega.{arith}
use lib.ListN.{length, get_or, drop, take}
use lib.Dec.{eqb, ltb}
use borrow.Author.Tests.{eq-eqb, ne_eqb, le-ltb, lt-ltb, ltb-false, ltb-true}
use Rattle.ground.specs.Lists.{allb, anyb, every, from, is_zero}
use Rattle.ground.specs.Calls.{Reply, done, refused, answer, decide, leaves, logs, memory, runs}
use Rattle.ground.proofs.Laws.{all_from_all}
use Rattle.register.specs.Register.{parts_of, slot_bytes, slot_count, slot_of, used_at}
use Rattle.register.specs.Calls.{stretch_from, stretch_size}
use Rattle.register.specs.Inner.{Ready}
use Rattle.register.proofs.Sound.{few_slots, some_slot}
use Rattle.register.proofs.Empty.{slots_fit}
use Rattle.register.proofs.Answers.{showing_done}
use Rattle.makers.specs.Makers.{beyond_zero, makers_length, makers_sound, zero_or_good}
use Rattle.makers.specs.Calls.{Beside, MakerCall, beside_lengths, clear_maker, clearing_maker, lent_beside}
use Rattle.makers.specs.Calls.{parts_beside, place_refusals, plan_of_maker, set_maker, setting_maker, show_label, showing_label, zero_makers, zeroing_makers}
use Rattle.makers.proofs.Labels.{Labelled, labelled_beyond, labelled_laid, labelled_read, labelled_used, labelled_zero_or_good, zeros_labelled}
use Rattle.demands.specs.Model.{Allowed, entered, tables_of}
use Rattle.demands.specs.Shop.{Shop, ShopCall, ShopMemory, begun_shop, beside_of, catalogue_of, memory_of, of_catalogue, of_makers, plan_of_shop}
use Rattle.demands.specs.Makers.{MakersTold, ShowsLabel, label_shown, left_behind, maker_after, maker_in, maker_of, maker_step, or_ours, told_maker}
use Rattle.demands.proofs.Brought.{brought}
use Rattle.demands.proofs.Sizes.{sizes}
use Rattle.demands.proofs.Shown.{shows_number}
use Rattle.makers.proofs.Answers.{FoundBeside, clear_found, found_makers, label_shown_lem, set_found, show_found}
use Rattle.demands.proofs.Shop.{catalogue_apart, left_alone, makers_step}

------------------------------------------------------------------------
-- The maker's table: it has for each place what the calls left

-- A call of it that is done
maker_labels : (slots : ℕ) (L : ℕ → List ℕ) (c : MakerCall) (B : Beside) (v : ℕ) → answer (plan_of_maker c B) ≡ done v → Labelled slots L B.makers →
    Labelled slots (λ p. maker_after p c (L p)) (plan_of_maker c B).after
unfolding plan_of_maker maker_after zeroing_makers setting_maker clearing_maker showing_label slot_of
maker_labels slots L zero_makers B v e H = rw H.sized (zeros_labelled slots)
maker_labels slots L (set_maker p n) B v e H =
    let a = set_found p n B v e in
    labelled_laid H p n a.0.some (omega (arith, H.sized, found_makers a.0)) (inr a.1)
maker_labels slots L (clear_maker p) B v e H =
    let f = clear_found p B v e in
    labelled_laid H p [] f.some (omega (arith, H.sized, found_makers f)) (inl refl)
maker_labels slots L (show_label p) B v e H = H

-- Any call, done or refused
call_labels : (slots : ℕ) (L : ℕ → List ℕ) (c : ShopCall) (S : ShopMemory) → Labelled slots L S.makers →
    Labelled slots (λ p. maker_step p c (answer (plan_of_shop c S)) (L p)) (memory (plan_of_shop c S) S).makers
unfolding maker_step memory answer leaves plan_of_shop
call_labels slots L (of_catalogue c) S H = rw (left_alone c S) H
call_labels slots L (of_makers c) S H = rw (makers_step c S.catalogue S.makers) (go (answer (plan_of_maker c (beside_of S))) refl)
  where
    go : (r : Reply) → answer (plan_of_maker c (beside_of S)) ≡ r →
        Labelled slots (λ p. maker_step p (of_makers c) r (L p)) (leaves r S.makers (plan_of_maker c (beside_of S)).after)
    go (done v) e = maker_labels slots L c (beside_of S) v e H
    go (refused n v) e = H

-- Many calls
calls_label : (slots : ℕ) (L : ℕ → List ℕ) (cs : List ShopCall) (S : ShopMemory) → Labelled slots L S.makers →
    Labelled slots (λ p. maker_in p (logs plan_of_shop cs S) (L p)) (runs plan_of_shop cs S).makers
unfolding runs logs maker_in
calls_label slots L [] S H = H
calls_label slots L (c ∷ cs) S H =
    calls_label slots (λ p. maker_step p c (answer (plan_of_shop c S)) (L p)) cs (memory (plan_of_shop c S) S) (call_labels slots L c S H)

-- begun empty
shop_labels : (a : Shop) → Labelled a.slots (maker_of a) (memory_of a).makers
unfolding maker_of memory_of
shop_labels a = calls_label a.slots (λ p. []) a.calls (begun_shop a) (zeros_labelled a.slots)

------------------------------------------------------------------------
-- Both together

-- a ready register of so many slots, which has some parts, and beside it a table that has a label for each place
record ShopHas (slots : ℕ) (ps : List (List ℕ)) (L : ℕ → List ℕ) (B : Beside) : Type 0 where
  ready : Ready B.register
  parts : parts_of B.register ≡ ps
  counted : slot_count B.register ≡ slots
  labels : Labelled slots L B.makers

shop_catalogue : (a : Shop) → tables_of (catalogue_of a) ≡ (memory_of a).catalogue
unfolding tables_of memory_of
shop_catalogue a = sym (catalogue_apart a.calls (begun_shop a)).0

shop_has : (a : Shop) → Allowed (catalogue_of a) → ShopHas a.slots (entered (catalogue_of a)).parts (maker_of a) (beside_of (memory_of a))
shop_has a h =
    let b = rw (shop_catalogue a) at (brought (catalogue_of a) h) in
    let z = rw (shop_catalogue a) at (sizes (catalogue_of a) h) in
    record { ready = b.both.ready; parts = b.parts; counted = z.slots; labels = shop_labels a }

-- 2 is given where a maker's number is left behind
not_and : (a b : Bool) → not (a && b) ≡ (not a || not b)
not_and true b = refl
not_and false b = refl

none_or_some : (p q : ℕ → Bool) (a n : ℕ) → ((i : ℕ) → a ≤ i → i < a + n → not (p i) ≡ q (suc i)) → not (allb p (from a n)) ≡ anyb q (from (suc a) n)
unfolding allb anyb from
none_or_some p q a zero h = refl
none_or_some p q a (suc n) h =
    not_and (p a) (allb p (from (suc a) n))
    ∙ rw (h a (omega arith) (omega arith), none_or_some p q (suc a) n (λ i l u. h i (omega arith) (omega arith)))

module _ {slots : ℕ} {L : ℕ → List ℕ} {M : List ℕ} (H : Labelled slots L M) (parts : ℕ) where
  counts : slot_count M ≡ slots
  counts = omega (arith, H.sized)

  only_beyond : makers_sound parts M ≡ allb (beyond_zero parts M) (from 0 slots)
  unfolding makers_sound every
  only_beyond =
      let a : allb (zero_or_good M) (from 0 slots) ≡ true = all_from_all (zero_or_good M) slots 0 (λ k l u. labelled_zero_or_good H k (omega arith)) in
      rw (counts, a, and-true)

  beyond : (k : ℕ) → k < slots → not (beyond_zero parts M k) ≡ (ltb parts (suc k) && not (is_zero (length (L (suc k)))))
  beyond k u = ap not (labelled_beyond H k u parts) ∙ rw add-one (go (ltb k parts) refl)
    where
      go : (b : Bool) → ltb k parts ≡ b → not (b || is_zero (length (L (suc k)))) ≡ (ltb parts (suc k) && not (is_zero (length (L (suc k)))))
      go true e = rw (le-ltb parts (suc k) (omega (arith, ltb-true k parts e)))
      go false e = rw (lt-ltb parts (suc k) (omega (arith, ltb-false k parts e)))

  unsound_left : not (makers_sound parts M) ≡ left_behind slots parts L
  unfolding left_behind
  unsound_left =
      ap not only_beyond
      ∙ none_or_some (beyond_zero parts M) (λ p. ltb parts p && not (is_zero (length (L p)))) 0 slots (λ i l u. beyond i (omega arith))

-- Every reply
module _ {slots : ℕ} {ps : List (List ℕ)} {L : ℕ → List ℕ} {B : Beside} (H : ShopHas slots ps L B) where
  alike : makers_length B.register B.makers ≡ true
  unfolding makers_length every
  alike =
      let R = B.register in
      let a = slots_fit slots B.makers (omega (arith, some_slot R H.ready.fits, H.counted)) (omega (arith, few_slots R H.ready.fits, H.counted))
      H.labels.sized in
      let e : eqb (slot_count B.makers) (slot_count R) ≡ true = eq-eqb (slot_count B.makers) (slot_count R)
      (omega (arith, H.labels.sized, H.counted)) in
      rw (a, e)

  left : not (makers_sound (parts_beside B) B.makers) ≡ left_behind slots (parts_beside B) L
  left = unsound_left H.labels (parts_beside B)

  told_beside : (c : MakerCall) → answer (plan_of_maker c B) ≡ told_maker slots (parts_beside B) L c
  unfolding answer decide plan_of_maker told_maker zeroing_makers setting_maker clearing_maker showing_label place_refusals lent_beside beside_lengths
  told_beside zero_makers = rw (H.ready.fits, alike)
  told_beside (set_maker p n) = rw (H.ready.fits, alike, H.ready.sound, left)
  told_beside (clear_maker p) = rw (H.ready.fits, alike, H.ready.sound, left)
  told_beside (show_label p) = rw (H.ready.fits, alike, H.ready.sound, left)

pub makers_told : MakersTold
makers_told a c h =
    let H = shop_has a h in
    told_beside H c ∙ ap (λ (ps : List (List ℕ)). told_maker a.slots (length ps) (maker_of a) c) H.parts

------------------------------------------------------------------------
-- What is shown

-- the bytes that a call reads of slot k of a table
abbrev read_at : List ℕ → ℕ → List ℕ
read_at M k = take (get_or M (k * slot_bytes) 0) (drop (k * slot_bytes + 1) M)

-- of one of two tables, the maker's where a number is set in it
one_of_two : (n ours R M : List ℕ) (k : ℕ) (used : Bool) → used ≡ not (is_zero (length n)) → read_at M k ≡ n → read_at R k ≡ ours →
    read_at (cond used M R) k ≡ or_ours n ours
unfolding or_ours
one_of_two [] ours R M k used e m r = rw e r
one_of_two (b ∷ n) ours R M k used e m r = let z : is_zero (length (b ∷ n)) ≡ false = ne_eqb (length (b ∷ n)) 0 (λ q. omega arith) in rw (e, z) m

module _ (p : ℕ) (B : Beside) (e : answer (showing_label p B) ≡ done 0) where
  shown_read : label_shown p B ≡ read_at (cond (used_at B.makers (p - 1)) B.makers B.register) (p - 1)
  shown_read = let w = label_shown_lem p B 0 e in rw (w.2, w.1, w.0)

  found : FoundBeside p B
  found = show_found p B 0 e

  ours_read : read_at B.register (p - 1) ≡ get_or (parts_of B.register) (p - 1) []
  unfolding stretch_from stretch_size leaves
  ours_read =
      let s = showing_done B.register found.lent.ready p found.some found.held in
      rw s at (shows_number B.register p s)

  label_is : {slots : ℕ} {ps : List (List ℕ)} {L : ℕ → List ℕ} → ShopHas slots ps L B → label_shown p B ≡ or_ours (L p) (get_or ps (p - 1) [])
  label_is {slots} {ps} {L} H =
      let q : p - 1 + 1 ≡ p = omega (arith, found.some) in
      let u : p - 1 < slots = omega (arith, found_makers found, H.labels.sized) in
      let used : used_at B.makers (p - 1) ≡ not (is_zero (length (L p))) = rw q at (labelled_used H.labels (p - 1) u) in
      let theirs : read_at B.makers (p - 1) ≡ L p = rw q at (labelled_read H.labels (p - 1) u) in
      let ours : read_at B.register (p - 1) ≡ get_or ps (p - 1) [] = ours_read ∙ ap (λ (x : List (List ℕ)). get_or x (p - 1) []) H.parts in
      shown_read ∙ one_of_two (L p) (get_or ps (p - 1) []) B.register B.makers (p - 1) (used_at B.makers (p - 1)) used theirs ours

pub shows_label : ShowsLabel
shows_label a p h e = label_is p (beside_of (memory_of a)) e (shop_has a h)
