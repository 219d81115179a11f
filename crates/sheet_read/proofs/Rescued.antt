-- What salvage leaves: what reading would leave of a sheet with just the kits kept; of a faultless sheet, what reading leaves of it.
use mathlib.Core.Path.{◌≡◌, refl, ap, sym, subst, ◌∙◌}
use mathlib.Core.Logic.{⊎_elim}
use mathlib.Core.Bool.{true, false, false≢true}
use mathlib.Core.List.{List}
use Prim.Native.Nat.{ℕ}
use native.Mathlib.Omega.{arith}
use lib.ListN.{length}
use Rattle.ground.specs.Calls.{done, answer, memory}
use Rattle.ground.specs.Tables.{Tables}
use Rattle.ground.proofs.Calls.{done_passes, leaves_done}
use Rattle.register.specs.Register.{register_length}
use Rattle.nodes.specs.Nodes.{nodes_length}
use Rattle.sheet.specs.Bytes.{Bytes}
use Rattle.sheet.specs.Sheet.{Contents, without_empty, encode}
use Rattle.sheet.specs.Inner.{fits_sheet}
use Rattle.sheet.specs.Reading.{Item, item, fault, decode, is_fault, offset, said, Salvage, salvage, rescued}
use Rattle.sheet.specs.Calls.{sheet_refusals, salvage_refusals}
use Rattle.sheet.proofs.Emptied.{fits_without}
use Rattle.sheet.proofs.Laws.{fit_fitting, decode_encode}
use Rattle.sheet.proofs.Torn.{rescued_torn, decode_of_fault, torn_or_whole}
use Rattle.sheet_read.specs.Filling.{filling}
use Rattle.sheet_read.specs.Inner.{reading_into, salvaging_into}
use Rattle.sheet_read.proofs.Reading.{Has, filling_has, room_given, said_again, without_twice, roomy_without}

no_offset : {A : Type 0} (m : Item A) → is_fault m ≡ false → offset m ≡ 0
unfolding is_fault offset
no_offset (item a bs o) e = refl
no_offset (fault o) e = absurd (false≢true (sym e))

-- A sheet without a fault up to its kit count
module _ (s : List ℕ) (b : Bytes s) (no_fault : is_fault (salvage s) ≡ false) where
  pub kept_fits : fits_sheet (rescued (salvage s)).kept ≡ true
  kept_fits = fit_fitting (rescued (salvage s)).kept (rescued_torn s b no_fault).2.fit

  -- "fills the tables as reading would from a sheet with just those kits": with its refusals and its value too
  pub salvage_reads_rest : (T : Tables) → salvaging_into s T ≡ reading_into (encode (rescued (salvage s)).kept) T
  unfolding salvaging_into salvage_refusals reading_into sheet_refusals is_fault offset said
  salvage_reads_rest T =
      let d = decode_encode (rescued (salvage s)).kept kept_fits in
      let o = no_offset (salvage s) no_fault in
      let f = no_fault in
      rw (d, f, o)

-- A salvage that was done
module _ (s : List ℕ) (b : Bytes s) (T : Tables) (register_fits : register_length T.register ≡ true)
    (nodes_fit : nodes_length T.nodes ≡ true) (v : ℕ) (e : answer (salvaging_into s T) ≡ done v) where
  pub salvage_leaves : memory (salvaging_into s T) T ≡ filling (without_empty (rescued (salvage s)).kept) T
  unfolding memory salvaging_into
  salvage_leaves = leaves_done (answer (salvaging_into s T)) v T (filling (without_empty (rescued (salvage s)).kept) T) e

  -- the parts and kits are those kept but for an empty one, and the tables are sound
  pub salvage_has : Has (without_empty (rescued (salvage s)).kept) T (memory (salvaging_into s T) T)
  unfolding answer salvaging_into salvage_refusals
  salvage_has =
      let c : Contents = (rescued (salvage s)).kept in
      let a = done_passes _ _ _ _ e in
      let r = room_given c _ _ _ v a.1 in
      let room = roomy_without c T (record { register_fits = register_fits; nodes_fit = nodes_fit; slots = r.0; nodes = r.1 }) in
      subst (Has (without_empty c) T) (sym salvage_leaves) (filling_has (without_empty c) (fits_without c (kept_fits s b a.0)) (without_twice c) T room)

-- all of a faultless sheet is kept: "announced" counts an empty kit, and the offset is "the sheet's length"
pub record AllKept (s : List ℕ) : Type 0 where
  pub no_fault : is_fault (salvage s) ≡ false
  pub kept : (rescued (salvage s)).kept ≡ said (decode s)
  pub announced : (rescued (salvage s)).announced ≡ length (said (decode s)).kits
  pub stopped : (rescued (salvage s)).stopped ≡ length s

module _ (s : List ℕ) (b : Bytes s) (faultless : is_fault (decode s) ≡ false) where
  at_fault : (o : ℕ) → decode s ≡ fault o → ⊥
  unfolding is_fault
  at_fault o d = false≢true (sym faultless ∙ ap is_fault d)

  no_front_fault : is_fault (salvage s) ≡ false
  unfolding is_fault
  no_front_fault = go (salvage s) refl
    where
      go : (m : Item Salvage) → salvage s ≡ m → is_fault m ≡ false
      go (fault o) f = absurd (at_fault o (decode_of_fault s o f))
      go (item x rest o) f = refl

  pub salvage_of_faultless : AllKept s
  unfolding said
  salvage_of_faultless =
      let T = (rescued_torn s b no_front_fault).2 in
      ⊎_elim (λ d. absurd (at_fault (rescued (salvage s)).stopped d))
      (λ w.
      let d = w.2 in
      record {
        no_fault = no_front_fault;
        kept = rw d;
        announced = rw d (omega (arith, T.counted, w.0));
        stopped = omega (arith, T.ends, w.1);
      })
      (torn_or_whole T)

  -- reading of a whole sheet and salvage of it are one call
  pub salvage_is_reading : (T : Tables) → salvaging_into s T ≡ reading_into s T
  salvage_is_reading T =
      let k = salvage_of_faultless in
      salvage_reads_rest s b k.no_fault T ∙ ap (λ (x : List ℕ). reading_into x T) (ap encode k.kept ∙ (said_again s b faultless).0)
