-- A torn sheet: what salvage keeps of it stands in it and fits the format, and what reading says of it.
use mathlib.Core.Path.{◌≡◌, refl, ap, sym, ◌∙◌}
use mathlib.Core.Logic.{◌⊎◌, inl, inr, ⊎_elim}
use mathlib.Core.Bool.{Bool, true, false, ◌&&◌, cond, false≢true}
use mathlib.Core.List.{List, [], ◌++◌, append_assoc, append-nil}
use Prim.Native.Nat.{ℕ, ◌+◌, ◌≤◌, ◌<◌}
use native.Mathlib.Omega.{arith}
use lib.ListN.{length, take, drop, length-append}
use lib.Seq.{take_at, drop_at}
use borrow.Author.Tests.{eq-eqb, eqb-true}
use Rattle.ground.specs.Lists.{is_zero}
use Rattle.ground.specs.Calls.{refused, decide}
use Rattle.sheet.specs.Bytes.{Bytes, two}
use Rattle.sheet.specs.Sheet.{Contents, mark, version, number_items, record_items}
use Rattle.sheet.specs.Reading.{Item, item, fault, onward, Run, Front, front, run_of, whole, decode, is_fault, offset}
use Rattle.sheet.specs.Reading.{Salvage, salvaged, salvage, rescued}
use Rattle.sheet.specs.Calls.{room_refusals, salvage_refusals}
use Rattle.sheet.proofs.Written.{Fit}
use Rattle.sheet.proofs.Accepted.{torn_sheet, Stands, run_again}

-- up to the kit count salvage finds the fault of the front, and reading the same
pub salvage_of_fault : (s : List ℕ) (o : ℕ) → front s 0 ≡ fault o → salvage s ≡ fault o
unfolding salvage onward
salvage_of_fault s o e = rw e

pub decode_of_fault : (s : List ℕ) (o : ℕ) → salvage s ≡ fault o → decode s ≡ fault o
unfolding decode salvage onward
decode_of_fault s o e = go (front s 0) e
  where
    go : (m : Item Front) →
        onward {B = Salvage} m (λ f bs o. item (salvaged f (run_of f bs o)) (run_of f bs o).rest (run_of f bs o).offset) ≡ fault o →
        onward m (λ f bs o. whole f.parts (run_of f bs o)) ≡ fault o
    go (item f bs p) d = absurd (let z : ◌≡◌ {A = ℕ} 0 1 = cc in omega arith)
    go (fault p) d = cc

-- "13 up to the kit count": none behind it, and a fault there
pub salvage_passes : (s : List ℕ) (x : Salvage) (rest : List ℕ) (o : ℕ) → salvage s ≡ item x rest o → (slots nodes v : ℕ) →
    decide (salvage_refusals s slots nodes) v ≡ decide (room_refusals (rescued (salvage s)).kept slots nodes) v
unfolding salvage_refusals decide is_fault
salvage_passes s x rest o e slots nodes v =
    let f : is_fault (salvage s) ≡ false = rw e in
    ap (λ (b : Bool). cond b (refused 13 (offset (salvage s))) (decide (room_refusals (rescued (salvage s)).kept slots nodes) v)) f

pub salvage_refused : (s : List ℕ) (o : ℕ) → salvage s ≡ fault o → (slots nodes v : ℕ) → decide (salvage_refusals s slots nodes) v ≡ refused 13 o
unfolding salvage_refusals decide is_fault offset
salvage_refused s o e slots nodes v = rw e

-- what is kept of a sheet, with so many records missing and the bytes behind them
pub record Torn (s : List ℕ) (x : Salvage) (missing : ℕ) (rest : List ℕ) : Type 0 where
  pub splits : s ≡ torn_sheet x.announced x.kept rest
  pub fit : Fit x.kept
  pub counted : length x.kept.kits + missing ≡ x.announced
  pub ends : x.stopped + length rest ≡ length s
  pub decodes : decode s ≡ cond (is_zero missing && is_zero (length rest)) (item x.kept rest x.stopped) (fault x.stopped)

stands_torn : {s : List ℕ} {f : Front} {r : Run} → Stands s f r → decode s ≡ whole f.parts r → Torn s (salvaged f r) r.missing r.rest
unfolding salvaged whole
stands_torn S d = record { splits = S.splits; fit = S.fit; counted = S.counted; ends = S.ends; decodes = d }

pub torn : (s : List ℕ) → Bytes s → (x : Salvage) (rest : List ℕ) (o : ℕ) → salvage s ≡ item x rest o → (m : ℕ) × Torn s x m rest
unfolding decode salvage onward
torn s h x rest o e = go (front s 0) refl e refl
  where
    go : (m : Item Front) → front s 0 ≡ m →
        onward m (λ f bs o. item (salvaged f (run_of f bs o)) (run_of f bs o).rest (run_of f bs o).offset) ≡ item x rest o →
        decode s ≡ onward m (λ f bs o. whole f.parts (run_of f bs o)) → (m : ℕ) × Torn s x m rest
    go (item f bs p) r d w = told (run_of f bs p) (run_again s f bs p h r) d w
      where
        told : (r : Run) → Stands s f r → item (salvaged f r) r.rest r.offset ≡ item x rest o → decode s ≡ whole f.parts r →
            (m : ℕ) × Torn s x m rest
        told r S d w =
            let i : salvaged f r ≡ x = cc in
            let j : r.rest ≡ rest = cc in
            (r.missing, rw (← i, ← j) (stands_torn S w))
    go (fault p) r d w = absurd (let z : ◌≡◌ {A = ℕ} 0 1 = cc in omega arith)

-- and so of all that a sheet without a fault up to its kit count still says
pub rescued_torn : (s : List ℕ) → Bytes s → is_fault (salvage s) ≡ false → (m : ℕ) × (rest : List ℕ) × Torn s (rescued (salvage s)) m rest
unfolding is_fault rescued
rescued_torn s h f = go (salvage s) refl f
  where
    go : (y : Item Salvage) → salvage s ≡ y → is_fault y ≡ false → (m : ℕ) × (rest : List ℕ) × Torn s (rescued y) m rest
    go (item x rest o) d e = let t = torn s h x rest o d in (t.0, rest, t.1)
    go (fault o) d e = absurd (false≢true (sym e))

------------------------------------------------------------------------
-- Up to where the run stops, and behind

six_and_rest : (a b c d e f rest : List ℕ) → a ++ (b ++ (c ++ (d ++ (e ++ (f ++ rest))))) ≡ (a ++ (b ++ (c ++ (d ++ (e ++ (f ++ [])))))) ++ rest
six_and_rest a b c d e f rest = rw append-nil (simp append_assoc)

pub parted_at_stop : {s : List ℕ} (m : ℕ) (c : Contents) (rest : List ℕ) (o : ℕ) → s ≡ torn_sheet m c rest → o + length rest ≡ length s →
    (take o s ≡ torn_sheet m c []) × (drop o s ≡ rest)
parted_at_stop {s = s} m c rest o e h =
    let n = length c.parts in
    let P : List ℕ = torn_sheet m c [] in
    let d : s ≡ P ++ rest = e
    ∙ six_and_rest mark (two (version n)) (two n) (number_items c.parts) (two m) (record_items (version n) c.kits) rest in
    let l : length P ≡ o = omega (arith, h, ap length d, length-append P rest) in
    (ap (take o) d ∙ take_at P rest o l, ap (drop o) d ∙ drop_at P rest o l)

module _ {s : List ℕ} {x : Salvage} {m : ℕ} {rest : List ℕ} (T : Torn s x m rest) where
  -- reading finds a fault where the run stops, or else nothing is missing and nothing left
  pub torn_or_whole : (decode s ≡ fault x.stopped) ⊎ ((m ≡ 0) × (length rest ≡ 0) × (decode s ≡ item x.kept rest x.stopped))
  torn_or_whole = go (is_zero m) refl (is_zero (length rest)) refl T.decodes
    where
      go : (a : Bool) → is_zero m ≡ a → (b : Bool) → is_zero (length rest) ≡ b →
          decode s ≡ cond (a && b) (item x.kept rest x.stopped) (fault x.stopped) →
          (decode s ≡ fault x.stopped) ⊎ ((m ≡ 0) × (length rest ≡ 0) × (decode s ≡ item x.kept rest x.stopped))
      go true d true e r = inr (eqb-true m 0 d, eqb-true (length rest) 0 e, r)
      go true d false e r = inl r
      go false d b e r = inl r

  -- with a record missing, or bytes behind the last, it is a fault
  pub decode_of_torn : (length x.kept.kits < x.announced) ⊎ (x.stopped < length s) → decode s ≡ fault x.stopped
  decode_of_torn h =
      ⊎_elim (λ e. e)
      (λ w. absurd (⊎_elim (λ l. omega (arith, T.counted, w.0)) (λ l. omega (arith, T.ends, w.1)) h)) torn_or_whole

  -- and else it says what is kept
  pub decode_of_whole : x.announced ≤ length x.kept.kits → length s ≤ x.stopped → decode s ≡ item x.kept rest x.stopped
  decode_of_whole h k =
      let a : is_zero m ≡ true = eq-eqb m 0 (omega (arith, T.counted)) in
      let b : is_zero (length rest) ≡ true = eq-eqb (length rest) 0 (omega (arith, T.ends)) in
      T.decodes ∙ rw (a, b)
