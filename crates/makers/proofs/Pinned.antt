-- The pinned laws of the calls of the maker's table: two answers and tables that meet a call's promise are the same, down to the enum's case.
use mathlib.Core.Path.{◌≡◌, sym, ◌∙◌}
use mathlib.Core.List.{List}
use Prim.Native.Nat.{ℕ}
use denote.Ref.{Bor}
use Rattle.ground.specs.Calls.{answer, Promise}
use Rattle.ground.specs.Stretch.{Stretch}
use Rattle.ground.proofs.Calls.{pinned}
use Rattle.ground.proofs.Stretch.{stretch_pinned}
use Rattle.answers.specs.Answers.{Answer, reply}
use Rattle.answers.proofs.Answers.{reply_determines}
use Rattle.makers.specs.Calls.{Beside, beside, clearing_maker, holder, label_from, label_size, setting_maker, showing_label, zeroing_makers}

module _ (B : Beside) where
  pub zero_makers_pinned : (r s : Answer) (M N : List ℕ) → Promise (zeroing_makers B) B.makers (reply r) M →
      Promise (zeroing_makers B) B.makers (reply s) N → (r ≡ s) × (M ≡ N)
  zero_makers_pinned r s M N a b = let p = pinned a b in (reply_determines r s p.0, p.1)

  module _ (p : ℕ) where
    pub set_maker_pinned : (n : List ℕ) (r s : Answer) (M N : List ℕ) → Promise (setting_maker p n B) B.makers (reply r) M →
        Promise (setting_maker p n B) B.makers (reply s) N → (r ≡ s) × (M ≡ N)
    set_maker_pinned n r s M N a b = let p = pinned a b in (reply_determines r s p.0, p.1)

    pub clear_maker_pinned : (r s : Answer) (M N : List ℕ) → Promise (clearing_maker p B) B.makers (reply r) M →
        Promise (clearing_maker p B) B.makers (reply s) N → (r ≡ s) × (M ≡ N)
    clear_maker_pinned r s M N a b = let p = pinned a b in (reply_determines r s p.0, p.1)

    pub label_answer_pinned : (r s : Answer) → reply r ≡ answer (showing_label p B) → reply s ≡ answer (showing_label p B) → r ≡ s
    label_answer_pinned r s a b = reply_determines r s (a ∙ sym b)

-- of whichever of the two tables holds it
pub label_pinned : (p : ℕ) (R M r s : Bor (List ℕ)) →
    let B = beside R.now M.now in
    Stretch (holder p B R M) r (label_from p B) (label_size p B) → Stretch (holder p B R M) s (label_from p B) (label_size p B) →
    (r.ref_ptr.0 ≡ s.ref_ptr.0) × (r.ref_ptr.1 ≡ s.ref_ptr.1) × (r.now ≡ s.now)
label_pinned p R M r s a b = stretch_pinned a b
