-- Words moved up from the top down: what is laid with one word more in front of it.
use mathlib.Core.Path.{◌≡◌, refl, ap, sym, ◌∙◌}
use mathlib.Core.List.{List, [], ◌∷◌, ◌++◌}
use Prim.Native.Nat.{ℕ, suc, ◌+◌, ◌-◌, ◌≤◌, ◌<◌}
use native.Mathlib.Numerals.{add-one}
use native.Mathlib.Omega.{arith}
use lib.ListN.{length, take, drop, set, get_or, length-take, length-drop}
use lib.Seq.{set_comm, get_or-set_other, get_or-take, drop-cons, drop-length, length-take-le}
use Rattle.ground.specs.Laid.{laid}
use Rattle.ground.proofs.Laid.{laid_nil, laid_cons, take_laid}
use Rattle.sheet.specs.Sheet.{line_words}

-- a word in front of what is laid stays
laid_under : (l : List ℕ) (a k : ℕ) (bs : List ℕ) → k < a → get_or (laid l a bs) k 0 ≡ get_or l k 0
unfolding laid
laid_under l a k [] h = refl
laid_under l a k (b ∷ bs) h = laid_under (set l a b) (suc a) k bs (omega arith) ∙ get_or-set_other l a k b 0 (λ e. omega arith)

set_under : (l : List ℕ) (a k b : ℕ) (bs : List ℕ) → k < a → set (laid l a bs) k b ≡ laid (set l k b) a bs
unfolding laid
set_under l a k b [] h = refl
set_under l a k b (c ∷ bs) h =
    set_under (set l a c) (suc a) k b bs (omega arith) ∙ ap (λ (x : List ℕ). laid x (suc a) bs) (set_comm l a k c b (λ e. omega arith))

-- one word set just in front of what is laid
pub set_before : (l : List ℕ) (a b : ℕ) (bs : List ℕ) → set (laid l (a + 1) bs) a b ≡ laid l a (b ∷ bs)
set_before l a b bs = set_under l (a + 1) a b bs (omega arith) ∙ laid_cons l a b bs

-- Of a list l of so many words, those from i on stand a line higher
module _ (l : List ℕ) (words : ℕ) where
  abbrev pub moved : ℕ → List ℕ
  moved i = laid l (i + line_words) (drop i (take words l))

  pub moved_none : words ≤ length l → l ≡ moved words
  moved_none h =
      let n = length-take-le words l h in
      let e : drop words (take words l) ≡ [] = ap (λ k. drop k (take words l)) (sym n) ∙ drop-length (take words l) in
      rw e (sym (laid_nil l (words + line_words)))

  -- one more moved
  pub moved_more : (m : List ℕ) (i : ℕ) → 0 < i → i ≤ words → words ≤ length l → m ≡ moved i → set m (i - 1 + line_words) (get_or m (i - 1) 0) ≡ moved (i - 1)
  moved_more m i s h g e =
      let j = i - 1 in
      let t = take words l in
      let n : j < length t = rw (length-take-le words l g) (omega arith) in
      let d : drop j t ≡ get_or l j 0 ∷ drop (j + 1) t = drop-cons t j 0 n ∙ rw (add-one, get_or-take words l j 0 (omega arith)) in
      let up : i ≡ j + 1 = omega arith in
      let is : m ≡ laid l (j + line_words + 1) (drop (j + 1) t) = e ∙ ap moved up ∙ ap (λ k. laid l k (drop (j + 1) t)) (omega arith) in
      let b : get_or m j 0 ≡ get_or l j 0 = rw is (laid_under l (j + line_words + 1) j (drop (j + 1) t) (omega arith)) in
      rw (b, d) (ap (λ (x : List ℕ). set x (j + line_words) (get_or l j 0)) is ∙ set_before l (j + line_words) (get_or l j 0) (drop (j + 1) t))

  -- the line is set down in the room made, and the front is what it was
  pub line_put : (m : List ℕ) (at place quantity : ℕ) → at ≤ words → words + line_words ≤ length l → m ≡ moved at →
      take (words + line_words) (set (set m (at + 1) quantity) at place) ≡ take at l ++ (place ∷ quantity ∷ drop at (take words l))
  line_put m at place quantity h g is =
      let t = drop at (take words l) in
      let bs = place ∷ quantity ∷ t in
      let w : at + line_words ≡ at + 1 + 1 = omega arith in
      let n : at + length bs ≡ words + line_words = simp (length-drop, length-take) (omega arith) in
      let e : set (set m (at + 1) quantity) at place ≡ laid l at bs =
      rw (is, w, set_before l (at + 1) quantity t) (set_before l at place (quantity ∷ t)) in
      rw (e, ← n) (take_laid l at bs (omega arith))
