-- Items in a row, cut at a byte: where the cut one starts, how many before it are whole, and what a reading of them makes of the cut.
use mathlib.Core.Path.{◌≡◌, refl, ap, sym, ◌∙◌}
use mathlib.Core.Logic.{⊎_elim}
use mathlib.Core.Bool.{Bool, true, false}
use mathlib.Core.List.{List, [], ◌∷◌, ◌++◌, append_assoc, append-nil}
use Prim.Native.Nat.{ℕ, suc, ◌+◌, ◌-◌, ◌≤◌, ◌<◌}
use native.Mathlib.Omega.{arith}
use lib.ListN.{length, take, length-append}
use lib.Seq.{take-append-le, take-append-add, length-take-le}
use lib.Dec.{leb}
use borrow.Author.Tests.{lt-ltb, le-ltb, lt-leb}
use Rattle.ground.specs.Lists.{concat}
use Rattle.ground.proofs.Laws.{below_or}
use Rattle.sheet.specs.Reading.{item, fault, Reading, onward, ◌>>=◌, give, one}
use Rattle.sheet.proofs.Written.{one_good}
use Rattle.sheet_faults.specs.Faults.{start_of_cut, whole_items}

pub concat_append : (is js : List (List ℕ)) → concat (is ++ js) ≡ concat is ++ concat js
unfolding concat
concat_append [] js = refl
concat_append (b ∷ is) js = rw (concat_append is js, append_assoc)

-- where a cut item starts
pub start_in : (b : List ℕ) (is : List (List ℕ)) (n : ℕ) → n < length b → start_of_cut (b ∷ is) n ≡ 0
unfolding start_of_cut
start_in b is n h = rw (lt-ltb n (length b) h)

pub start_past : (b : List ℕ) (is : List (List ℕ)) (k : ℕ) → start_of_cut (b ∷ is) (length b + k) ≡ length b + start_of_cut is k
unfolding start_of_cut
start_past b is k =
    let e : length b + k - length b ≡ k = omega arith in
    rw (le-ltb (length b + k) (length b) (omega arith), e)

pub whole_in : (b : List ℕ) (is : List (List ℕ)) (n : ℕ) → n < length b → whole_items (b ∷ is) n ≡ 0
unfolding whole_items
whole_in b is n h = rw (lt-ltb n (length b) h)

pub whole_past : (b : List ℕ) (is : List (List ℕ)) (k : ℕ) → whole_items (b ∷ is) (length b + k) ≡ suc (whole_items is k)
unfolding whole_items
whole_past b is k =
    let e : length b + k - length b ≡ k = omega arith in
    rw (le-ltb (length b + k) (length b) (omega arith), e)

-- a byte stands in the first item, or so many bytes behind it
pub data InOrPast (b : List ℕ) : ℕ → Type 0 where
  in_it : {n : ℕ} → n < length b → InOrPast b n
  past_it : (k : ℕ) → InOrPast b (length b + k)

pub in_or_past : (b : List ℕ) (n : ℕ) → InOrPast b n
in_or_past b n = ⊎_elim (λ (h : n < length b). in_it h) (λ (h : length b ≤ n). later h) (below_or n (length b))
  where
    later : length b ≤ n → InOrPast b n
    later h =
        let e : length b + (n - length b) ≡ n = omega arith in
        let p : InOrPast b (length b + (n - length b)) = past_it (n - length b) in
        rw e at p

-- some bytes behind others, cut
pub start_left : (is js : List (List ℕ)) (n : ℕ) → n < length (concat is) → start_of_cut (is ++ js) n ≡ start_of_cut is n
unfolding concat
start_left [] js n h = absurd (omega arith)
start_left (b ∷ is) js n h = go n (in_or_past b n) h (start_left is js)
  where
    go : (n : ℕ) → InOrPast b n → n < length (b ++ concat is) →
        ((k : ℕ) → k < length (concat is) → start_of_cut (is ++ js) k ≡ start_of_cut is k) → start_of_cut (b ∷ (is ++ js)) n ≡ start_of_cut (b ∷ is) n
    go n (in_it l) h f = start_in b (is ++ js) n l ∙ sym (start_in b is n l)
    go n (past_it k) h f =
        let l : k < length (concat is) = omega (arith, length-append b (concat is)) in
        start_past b (is ++ js) k ∙ (rw (f k l) (sym (start_past b is k)))

pub start_right : (is js : List (List ℕ)) (k : ℕ) → start_of_cut (is ++ js) (length (concat is) + k) ≡ length (concat is) + start_of_cut js k
unfolding concat
start_right [] js k =
    let e : 0 + k ≡ k = omega arith in
    rw e (omega arith)
start_right (b ∷ is) js k =
    let e : length (b ++ concat is) + k ≡ length b + (length (concat is) + k) = omega (arith, length-append b (concat is)) in
    rw (e, start_past b (is ++ js) (length (concat is) + k), start_right is js k) (omega (arith, length-append b (concat is)))

-- where one is cut, not all are whole
pub whole_few : (is : List (List ℕ)) (n : ℕ) → n < length (concat is) → whole_items is n < length is
unfolding concat
whole_few [] n h = absurd (omega arith)
whole_few (b ∷ is) n h = go n (in_or_past b n) h (whole_few is)
  where
    go : (n : ℕ) → InOrPast b n → n < length (b ++ concat is) → ((k : ℕ) → k < length (concat is) → whole_items is k < length is) →
        whole_items (b ∷ is) n < length (b ∷ is)
    go n (in_it l) h f = omega (arith, whole_in b is n l)
    go n (past_it k) h f =
        let l : k < length (concat is) = omega (arith, length-append b (concat is)) in
        omega (arith, whole_past b is k, f k l)

------------------------------------------------------------------------
-- Readings

-- cut inside one of these items, a reading stops where that one starts
abbrev pub StopsAtCut : {A : Type 0} → Reading A → List (List ℕ) → Type 0
StopsAtCut m is =
    (n : ℕ) → n < length (concat is) → (rest : List ℕ) (o : ℕ) → m (take n (concat is ++ rest)) o ≡ fault (o + start_of_cut is n)

-- and whole it takes them, whatever follows
pub record GoesOver {A : Type 0} (m : Reading A) (is : List (List ℕ)) (a : A) : Type 0 where
  pub takes : (rest : List ℕ) (o : ℕ) → m (concat is ++ rest) o ≡ item a rest (o + length (concat is))
  pub stops : StopsAtCut m is

-- one item is cut where its size, of the bytes that are left, is more than they are
pub one_cut : (size : List ℕ → ℕ) (good : List ℕ → Bool) (b rest : List ℕ) (n o : ℕ) → n < length b → n < size (take n b) →
    one size good (take n (b ++ rest)) o ≡ fault o
unfolding one
one_cut size good b rest n o h k =
    let t : take n (b ++ rest) ≡ take n b = take-append-le n b rest (omega arith) in
    let l : length (take n b) ≡ n = length-take-le n b (omega arith) in
    let e : leb (size (take n b)) n ≡ false = lt-leb (size (take n b)) n k in
    rw (t, l, e)

pub over_one : (size : List ℕ → ℕ) (good : List ℕ → Bool) (b : List ℕ) → ((rest : List ℕ) → size (b ++ rest) ≡ length b) →
    ((n : ℕ) → n < length b → n < size (take n b)) → good b ≡ true → GoesOver (one size good) (b ∷ []) b
unfolding concat
over_one size good b s c g = record {
  takes = λ rest o. rw append-nil (one_good size good b rest o (s rest) g);
  stops =
      λ n h rest o.
      let l : n < length b = rw append-nil at h in
      let e : o + 0 ≡ o = omega arith in
      rw (append-nil, start_in b [] n l, e) (one_cut size good b rest n o l (c n l));
}

pub over_none : {A : Type 0} (a : A) → GoesOver (give a) [] a
unfolding concat
over_none a = record { takes = λ rest o. ap (item a rest) (omega arith); stops = λ n h rest o. absurd (omega arith) }

-- a reading behind another
module _ {A B : Type 0} {m : Reading A} (f : A → Reading B) {is : List (List ℕ)} (js : List (List ℕ)) {a : A} (t : GoesOver m is a) where
  pub stops_behind : StopsAtCut (f a) js → StopsAtCut (◌>>=◌ m f) (is ++ js)
  unfolding onward
  stops_behind v n h rest o = rw (concat_append is js, append_assoc) (go n (in_or_past (concat is) n) (rw (concat_append is js) at h))
    where
      go : (n : ℕ) → InOrPast (concat is) n → n < length (concat is ++ concat js) →
          onward (m (take n (concat is ++ (concat js ++ rest))) o) f ≡ fault (o + start_of_cut (is ++ js) n)
      go n (in_it l) h = rw (t.stops n l (concat js ++ rest) o, start_left is js n l)
      go n (past_it k) h =
          let l : k < length (concat js) = omega (arith, length-append (concat is) (concat js)) in
          let e : o + length (concat is) + start_of_cut js k ≡ o + (length (concat is) + start_of_cut js k) = omega arith in
          let x = t.takes (take k (concat js ++ rest)) o in
          rw (take-append-add (concat is) (concat js ++ rest) k, x, v k l rest (o + length (concat is)), start_right is js k, e)

  pub over_behind : {b : B} → GoesOver (f a) js b → GoesOver (◌>>=◌ m f) (is ++ js) b
  unfolding onward
  over_behind u = record {
    takes =
        λ rest o.
        let e : o + length (concat is) + length (concat js) ≡ o + length (concat is ++ concat js) = omega
        (arith, length-append (concat is) (concat js)) in
        let x = t.takes (concat js ++ rest) o in
        rw (concat_append is js, append_assoc, x, u.takes rest (o + length (concat is)), e);
    stops = stops_behind u.stops;
  }

-- what was read, given on in another form
pub over_given : {A B : Type 0} {m : Reading A} (g : A → B) {is : List (List ℕ)} {a : A} → GoesOver m is a →
    GoesOver (◌>>=◌ m (λ x. give (g x))) is (g a)
unfolding onward
over_given g t = record { takes = λ rest o. rw (t.takes rest o); stops = λ n h rest o. rw (t.stops n h rest o) }
