-- What reading and salvage promise of a sheet, by what the judge tells of it: 13, or what is taken in.
use mathlib.Core.Path.{◌≡◌, refl, ap, sym, ◌∙◌}
use mathlib.Core.Logic.{◌⊎◌, inl, inr}
use mathlib.Core.Bool.{Bool, true, false, ◌||◌}
use mathlib.Core.List.{List, [], ◌∷◌}
use Rattle.std.specs.Prelude.{Err}
use Prim.Native.Nat.{ℕ, ◌<◌}
use native.Mathlib.Omega.{arith}
use lib.ListN.{length}
use lib.Dec.{ltb}
use borrow.Author.Tests.{ltb-true, ltb-false}
use Rattle.ground.specs.Calls.{Reply, done, refused, is_refused, value_of, given, Plan, plan, decide, answer, leaves, memory, Promise}
use Rattle.ground.specs.Tables.{Tables}
use Rattle.ground.proofs.Laws.{or_left, or_right}
use Rattle.ground.proofs.Calls.{promise_refused, promise_behind}
use Rattle.register.specs.Register.{slot_count}
use Rattle.nodes.specs.Nodes.{size}
use Rattle.sheet.specs.Bytes.{Bytes}
use Rattle.sheet.specs.Sheet.{Contents, without_empty}
use Rattle.sheet.specs.Reading.{Item, item, fault, decode, is_fault, offset, said, Salvage, salvage, rescued}
use Rattle.sheet.specs.Calls.{room_refusals, sheet_refusals, report_of}
use Rattle.sheet.specs.declared.Report.{Report}
use Rattle.sheet.proofs.Torn.{salvage_refused, salvage_passes, decode_of_fault, decode_of_torn, decode_of_whole}
use Rattle.sheet_judge.specs.Inner.{judged_of}
use Rattle.sheet_judge.specs.declared.Found.{Found}
use Rattle.sheet_read.specs.Filling.{filling}
use Rattle.sheet_read.specs.Inner.{reading_into, taking_in, salvaging_into}
use Rattle.sheet_read.proofs.Sheets.{Salvageable, is_torn, what_kept}

-- 13, and behind it what is taken in
module _ (fails : Bool) (o : ℕ) (c : Contents) (T : Tables) where
  abbrev behind13 : Plan Tables
  behind13 =
      plan (given fails 13 o ∷ room_refusals c (slot_count T.register) (size T.nodes)) (length (without_empty c).kits) (filling (without_empty c) T)

  refused_13 : fails ≡ true → Promise behind13 T (refused 13 o) T
  unfolding answer decide
  refused_13 e = promise_refused behind13 T 13 o (rw e)

  passed_13 : fails ≡ false → (r : Reply) (M : Tables) → Promise (taking_in c T) T r M → Promise behind13 T r M
  unfolding taking_in decide
  passed_13 e r M p =
      promise_behind (given fails 13 o ∷ []) (room_refusals c (slot_count T.register) (size T.nodes)) (length (without_empty c).kits)
      (filling (without_empty c) T) T r M 0 (rw e) p

-- Up to the kit count
at_fault : (s : List ℕ) (o : ℕ) → Err o ≡ judged_of (salvage s) → salvage s ≡ fault o
unfolding judged_of
at_fault s o e = go (salvage s) e
  where
    go : (m : Item Salvage) → Err o ≡ judged_of m → m ≡ fault o
    go (item x bs p) f = absurd (let z : ◌≡◌ {A = Bool} true false = cc in cc)
    go (fault p) f = cc

decoded_13 : (s : List ℕ) (T : Tables) (o : ℕ) → decode s ≡ fault o → Promise (reading_into s T) T (refused 13 o) T
unfolding reading_into sheet_refusals is_fault offset
decoded_13 s T o e = rw e (refused_13 true o (said (fault o)) T refl)

pub reading_13 : (s : List ℕ) (T : Tables) (o : ℕ) → Err o ≡ judged_of (salvage s) → Promise (reading_into s T) T (refused 13 o) T
reading_13 s T o e = decoded_13 s T o (decode_of_fault s o (at_fault s o e))

pub salvaging_13 : (s : List ℕ) (T : Tables) (o : ℕ) → Err o ≡ judged_of (salvage s) → Promise (salvaging_into s T) T (refused 13 o) T
unfolding salvaging_into answer
salvaging_13 s T o e = promise_refused (salvaging_into s T) T 13 o (salvage_refused s o (at_fault s o e) _ _ _)

-- Behind it
module _ {s : List ℕ} {found : Found} (F : Salvageable s found) (T : Tables) where
  pub salvaging_taken : (r : Reply) (M : Tables) → Promise (taking_in (rescued (salvage s)).kept T) T r M → Promise (salvaging_into s T) T r M
  unfolding salvaging_into taking_in answer memory
  salvaging_taken r M p =
      let c : Contents = (rescued (salvage s)).kept in
      let a : answer (salvaging_into s T) ≡ answer (taking_in c T) = salvage_passes s F.saved F.rest F.behind F.read _ _ _ in
      record { answers = p.answers ∙ sym a; lent = p.lent ∙ ap (λ x. leaves x T (salvaging_into s T).after) (sym a) }

  module _ (b : Bytes s) where
    pub reading_torn : (ltb found.run.kept found.sheet.kits || ltb found.run.end (length s)) ≡ true → Promise (reading_into s T) T (refused 13 found.run.end) T
    reading_torn e =
        let q = F.end in
        let f : decode s ≡ fault F.saved.stopped = decode_of_torn (is_torn F b).1 (either (ltb found.run.kept found.sheet.kits) refl e) in
        decoded_13 s T found.run.end (f ∙ ap fault (sym q))
      where
        either : (x : Bool) → ltb found.run.kept found.sheet.kits ≡ x → (x || ltb found.run.end (length s)) ≡ true →
            (length F.saved.kept.kits < F.saved.announced) ⊎ (F.saved.stopped < length s)
        either true d h =
            let l : length F.saved.kept.kits < F.saved.announced = omega (arith, ltb-true found.run.kept found.sheet.kits d, F.kits, F.announced) in
            inl l
        either false d h =
            let l : F.saved.stopped < length s = omega (arith, ltb-true found.run.end (length s) h, F.end) in
            inr l

    pub reading_taken : (ltb found.run.kept found.sheet.kits || ltb found.run.end (length s)) ≡ false → (r : Reply) (M : Tables) →
        Promise (taking_in (rescued (salvage s)).kept T) T r M → Promise (reading_into s T) T r M
    unfolding reading_into sheet_refusals is_fault said
    reading_taken e r M p =
        let a : ltb found.run.kept found.sheet.kits ≡ false = or_left (ltb found.run.kept found.sheet.kits) (ltb found.run.end (length s)) e in
        let d : ltb found.run.end (length s) ≡ false = or_right (ltb found.run.kept found.sheet.kits) (ltb found.run.end (length s)) e in
        let k = F.saved.kept in
        let f : decode s ≡ item k F.rest F.saved.stopped = decode_of_whole (is_torn F b).1
        (omega (arith, ltb-false found.run.kept found.sheet.kits a, F.kits, F.announced))
        (omega (arith, ltb-false found.run.end (length s) d, F.end)) in
        let w = what_kept F in
        let q : Promise (taking_in k T) T r M = rw w at p in
        rw f (passed_13 false (offset (item k F.rest F.saved.stopped)) k T refl r M q)

  -- what is reported of it
  pub reported_taken : {p : Report} (a : Reply) (announced : ℕ) → announced ≡ found.sheet.kits →
      ((c : Contents) → p ≡ report_of a (record { kept = c; announced = announced; stopped = found.run.end })) → p ≡ report_of a (rescued (salvage s))
  reported_taken a announced e f =
      let w = what_kept F in
      f F.saved.kept ∙ rw w (ap (report_of a) (λ t. record { kept = F.saved.kept; announced = (e ∙ F.announced) t; stopped = F.end t }))

-- The report beside an answer
module _ (r : Reply) (x : Salvage) {v : ℕ} (is : v ≡ value_of r) where
  pub report_refused : is_refused r ≡ true → record { kept = 0; announced = 0; third = v } ≡ report_of r x
  unfolding report_of
  report_refused e = go r is e
    where
      go : (r : Reply) → v ≡ value_of r → is_refused r ≡ true → record { kept = 0; announced = 0; third = v } ≡ report_of r x
      go (done u) d f = absurd (let z : ◌≡◌ {A = ℕ} 0 1 = cc in omega arith)
      go (refused n u) d f = λ t. record { kept = 0; announced = 0; third = d t }

-- of a refusal it is the same whatever is kept
pub reported_refused : {p : Report} (r : Reply) (x y : Salvage) → is_refused r ≡ true → p ≡ report_of r x → p ≡ report_of r y
unfolding report_of
reported_refused (done v) x y f e = absurd (let z : ◌≡◌ {A = ℕ} 0 1 = cc in omega arith)
reported_refused (refused n v) x y f e = e
