-- Laws of reading one item at a place: cut short, against its rule, or taken; and of several, one by one.
use mathlib.Core.Path.{◌≡◌, refl, ◌∙◌}
use mathlib.Core.Bool.{Bool, true, false, ◌&&◌, cond}
use mathlib.Core.List.{List, ◌∷◌}
use Prim.Native.Nat.{ℕ, suc, ◌+◌, ◌-◌, ◌≤◌, ◌<◌}
use native.Mathlib.Omega.{arith}
use lib.ListN.{length, take, drop, length-drop}
use lib.Dec.{leb}
use lib.Seq.{drop-drop}
use borrow.Author.Tests.{le-leb, lt-leb, leb-true, leb-false}
use Rattle.sheet.specs.Inner.{place_of}
use Rattle.sheet.specs.Reading.{item, fault, Reading, onward, one, bytes}
use Rattle.sheet.proofs.Written.{one_bad, ReadsAll}

-- One item
module _ (size : List ℕ → ℕ) (good : List ℕ → Bool) (bs : List ℕ) (o : ℕ) where
  pub one_short : length bs < size bs → one size good bs o ≡ fault o
  unfolding one
  one_short h = rw (lt-leb (size bs) (length bs) h)

  pub one_ok : size bs ≤ length bs → good (take (size bs) bs) ≡ true →
      one size good bs o ≡ item (take (size bs) bs) (drop (size bs) bs) (o + size bs)
  unfolding one
  one_ok h e = rw (le-leb (size bs) (length bs) h, e)

  -- told by where it ends: at fault where it starts, and else behind it
  pub record Moved (r : ℕ) : Type 0 where
    pub inside : size bs ≤ length bs
    pub is_good : good (take (size bs) bs) ≡ true
    pub is : one size good bs o ≡ item (take (size bs) bs) (drop (size bs) bs) (o + size bs)
    pub ends : r ≡ o + size bs

  pub place_moved : (r : ℕ) → r ≡ place_of (one size good bs o) → (r ≡ o → ⊥) → Moved r
  unfolding place_of one
  place_moved r e f = go (leb (size bs) (length bs)) refl (good (take (size bs) bs)) refl e
    where
      go : (x : Bool) → leb (size bs) (length bs) ≡ x → (y : Bool) → good (take (size bs) bs) ≡ y →
          r ≡ place_of (cond (x && y) (item (take (size bs) bs) (drop (size bs) bs) (o + size bs)) (fault o)) → Moved r
      go true l true g h =
          record { inside = leb-true (size bs) (length bs) l; is_good = g; is = one_ok (leb-true (size bs) (length bs) l) g; ends = h }
      go true l false g h = absurd (f h)
      go false l y g h = absurd (f h)

pub place_item : (a bs : List ℕ) (o : ℕ) → place_of (item a bs o) ≡ o
unfolding place_of
place_item a bs o = refl

-- n bytes at a place
module _ (n : ℕ) (good : List ℕ → Bool) (s : List ℕ) (at : ℕ) where
  pub bytes_short : at ≤ length s → length s - at < n → one (bytes n) good (drop at s) at ≡ fault at
  unfolding bytes
  bytes_short h k = one_short (bytes n) good (drop at s) at (rw length-drop k)

  pub bytes_bad : good (take n (drop at s)) ≡ false → one (bytes n) good (drop at s) at ≡ fault at
  unfolding bytes
  bytes_bad e = one_bad (bytes n) good (drop at s) at e

  pub bytes_ok : at + n ≤ length s → good (take n (drop at s)) ≡ true →
      one (bytes n) good (drop at s) at ≡ item (take n (drop at s)) (drop (at + n) s) (at + n)
  unfolding bytes
  bytes_ok h e = one_ok (bytes n) good (drop at s) at (rw length-drop (omega arith)) e ∙ rw (drop-drop) refl

-- Items of one kind, one by one
module _ {A : Type 0} {size : List ℕ → ℕ} {good : List A → List ℕ → Bool} {what : List ℕ → A} {r : ℕ → List A → Reading (List A)}
    (R : ReadsAll size good what r) (n : ℕ) (seen : List A) (bs : List ℕ) (o : ℕ) where
  pub all_faulty : one size (good seen) bs o ≡ fault o → r (suc n) seen bs o ≡ fault o
  unfolding onward
  all_faulty e = R.goes n seen bs o ∙ rw e refl

  pub all_next : (b rest : List ℕ) (p : ℕ) → one size (good seen) bs o ≡ item b rest p →
      r (suc n) seen bs o ≡ onward (r n (what b ∷ seen) rest p) (λ xs last q. item (what b ∷ xs) last q)
  unfolding onward
  all_next b rest p e = R.goes n seen bs o ∙ rw e refl
