-- An input cut into lines piece by piece: whatever the pieces, the lines answered are those of the whole.
use mathlib.Core.Path.{◌≡◌, refl, ap, sym, ◌∙◌}
use mathlib.Core.Bool.{Bool, true, false, cond}
use mathlib.Core.Logic.{◌⊎◌, inl, inr}
use mathlib.Core.List.{List, [], ◌∷◌, ◌++◌, append-nil, append_assoc}
use Prim.Native.Nat.{ℕ, zero, suc, ◌≤◌, ◌<◌}
use native.Mathlib.Omega.{arith}
use lib.ListN.{length, take, drop}
use lib.Dec.{eqb}
use Rattle.ground.specs.Lists.{concat}
use Rattle.ground.proofs.Laws.{below_or}
use Rattle.desk_text.specs.Parted.{in_front, parted}
use Rattle.desk_text.specs.Inner.{up_to}
use Rattle.desk_text.specs.Lines.{line_feed}
use Rattle.desk_text.proofs.Parted.{up_to_inside, parted_last, parted_more}
use Rattle.desk_input.specs.Lines.{all_but_last, last_of, ended, unfinished, last_line, lines_of, answered}
use Rattle.desk_input.specs.Inner.{most_kept, kept_of, taken}

-- b does not stand in k
abbrev pub Clean : ℕ → List ℕ → Type 0
Clean b k = up_to b k ≡ length k

pub clean_none : Clean line_feed []
unfolding up_to
clean_none = refl

clean_first : (b x : ℕ) (k : List ℕ) → Clean b (x ∷ k) → eqb x b ≡ false
unfolding up_to
clean_first b x k c = go (eqb x b) c
  where
    go : (t : Bool) → cond t 0 (suc (up_to b k)) ≡ suc (length k) → t ≡ false
    go true h = absurd (omega arith)
    go false h = refl

clean_rest : (b x : ℕ) (k : List ℕ) → Clean b (x ∷ k) → Clean b k
unfolding up_to
clean_rest b x k c = go (eqb x b) c
  where
    go : (t : Bool) → cond t 0 (suc (up_to b k)) ≡ suc (length k) → Clean b k
    go true h = absurd (omega arith)
    go false h = omega arith

clean_more : (b x : ℕ) (k : List ℕ) → eqb x b ≡ false → Clean b k → Clean b (x ∷ k)
unfolding up_to
clean_more b x k e c = rw e (ap suc c)

pub clean_take : (b n : ℕ) (k : List ℕ) → Clean b k → Clean b (take n k)
unfolding up_to
clean_take b zero k c = refl
clean_take b (suc n) [] c = refl
clean_take b (suc n) (x ∷ k) c = clean_more b x (take n k) (clean_first b x k c) (clean_take b n k (clean_rest b x k c))

pub clean_append : (b : ℕ) (k p : List ℕ) → Clean b k → Clean b p → Clean b (k ++ p)
clean_append b [] p c d = d
clean_append b (x ∷ k) p c d = clean_more b x (k ++ p) (clean_first b x k c) (clean_append b k p (clean_rest b x k c) d)

-- the stretches of a clean list, and of one with a stretch that ends behind it
parted_clean : (b : ℕ) (k : List ℕ) → Clean b k → parted b k ≡ k ∷ []
parted_clean b k c = parted_last b k (omega arith)

parted_behind : (b : ℕ) (k p : List ℕ) → Clean b k → up_to b p < length p →
    parted b (k ++ p) ≡ (k ++ take (up_to b p) p) ∷ parted b (drop (suc (up_to b p)) p)
unfolding parted in_front
parted_behind b [] p c h = parted_more b p h
parted_behind b (x ∷ k) p c h = let e = parted_behind b k p (clean_rest b x k c) h in rw (clean_first b x k c, e)

-- a list has a stretch, and the last is clean
first_there : (b : ℕ) (l : List ℕ) → (s : List ℕ) × (ss : List (List ℕ)) × (parted b l ≡ s ∷ ss)
unfolding parted in_front
first_there b [] = ([], [], refl)
first_there b (x ∷ l) = go (eqb x b) (parted b l) (first_there b l)
  where
    go : (t : Bool) (P : List (List ℕ)) → (s : List ℕ) × (ss : List (List ℕ)) × (P ≡ s ∷ ss) →
        (s : List ℕ) × (ss : List (List ℕ)) × (cond t ([] ∷ P) (in_front x P) ≡ s ∷ ss)
    go true P (s, ss, e) = ([], P, refl)
    go false P (s, ss, e) = (x ∷ s, ss, rw e)

-- stretches in front of a list that has some
behind_some : (A : List (List ℕ)) (s : List ℕ) (ss : List (List ℕ)) →
    (all_but_last (A ++ (s ∷ ss)) ≡ A ++ all_but_last (s ∷ ss)) × (last_of (A ++ (s ∷ ss)) ≡ last_of (s ∷ ss))
unfolding all_but_last last_of
behind_some [] s ss = (refl, refl)
behind_some (a ∷ []) s ss = (refl, refl)
behind_some (a ∷ c ∷ A) s ss = let r = behind_some (c ∷ A) s ss in (ap (◌∷◌ a) r.0, r.1)

-- the stretches of two lists, one behind the other: those that end in the first, and those of the rest of the first with the second
joined : (b : ℕ) (s t : List ℕ) → parted b (s ++ t) ≡ all_but_last (parted b s) ++ parted b (last_of (parted b s) ++ t)
unfolding parted in_front all_but_last last_of
joined b [] t = refl
joined b (x ∷ s) t = go (eqb x b) refl (parted b s) (first_there b s) (joined b s t)
  where
    go : (c : Bool) → eqb x b ≡ c → (P : List (List ℕ)) → (q : List ℕ) × (qs : List (List ℕ)) × (P ≡ q ∷ qs) →
        parted b (s ++ t) ≡ all_but_last P ++ parted b (last_of P ++ t)
        → cond c ([] ∷ parted b (s ++ t)) (in_front x (parted b (s ++ t))) ≡ all_but_last (cond c ([] ∷ P) (in_front x P)) ++ parted b
        (last_of (cond c ([] ∷ P) (in_front x P)) ++ t)
    go true e P (q, qs, f) h = rw (h, f)
    go false e P (q, [], f) h = rw (h, f, e)
    go false e P (q, r ∷ rs, f) h = rw (h, f)

-- what stands behind the last b is clean
last_clean : (b : ℕ) (l : List ℕ) → Clean b (last_of (parted b l))
unfolding parted in_front last_of up_to
last_clean b [] = refl
last_clean b (x ∷ l) = go (eqb x b) refl (parted b l) (first_there b l) (last_clean b l)
  where
    go : (c : Bool) → eqb x b ≡ c → (P : List (List ℕ)) → (q : List ℕ) × (qs : List (List ℕ)) × (P ≡ q ∷ qs) → Clean b (last_of P) →
        Clean b (last_of (cond c ([] ∷ P) (in_front x P)))
    go true e P (q, qs, f) h = let g : Clean b (last_of (q ∷ qs)) = rw f at h in rw f g
    go false e P (q, [], f) h = let g : Clean b q = rw f at h in rw f (clean_more b x q e g)
    go false e P (q, r ∷ rs, f) h = let g : Clean b (last_of (r ∷ rs)) = rw f at h in rw f g

pub unfinished_clean : (s : List ℕ) → Clean line_feed (unfinished s)
unfolding unfinished
unfinished_clean s = last_clean line_feed s

-- the lines of two inputs, one behind the other
pub ended_on : (s t : List ℕ) → ended (s ++ t) ≡ ended s ++ ended (unfinished s ++ t)
unfolding ended unfinished
ended_on s t = go (parted line_feed (unfinished s ++ t)) (first_there line_feed (unfinished s ++ t)) (joined line_feed s t)
  where
    go : (P : List (List ℕ)) → (q : List ℕ) × (qs : List (List ℕ)) × (P ≡ q ∷ qs) →
        parted line_feed (s ++ t) ≡ all_but_last (parted line_feed s) ++ P →
        all_but_last (parted line_feed (s ++ t)) ≡ all_but_last (parted line_feed s) ++ all_but_last P
    go P (q, qs, f) h = rw (h, f) (behind_some (all_but_last (parted line_feed s)) q qs).0

pub unfinished_on : (s t : List ℕ) → unfinished (s ++ t) ≡ unfinished (unfinished s ++ t)
unfolding unfinished
unfinished_on s t = go (parted line_feed (unfinished s ++ t)) (first_there line_feed (unfinished s ++ t)) (joined line_feed s t)
  where
    go : (P : List (List ℕ)) → (q : List ℕ) × (qs : List (List ℕ)) × (P ≡ q ∷ qs) →
        parted line_feed (s ++ t) ≡ all_but_last (parted line_feed s) ++ P → last_of (parted line_feed (s ++ t)) ≡ last_of P
    go P (q, qs, f) h = rw (h, f) (behind_some (all_but_last (parted line_feed s)) q qs).1

lines_on : (s t : List ℕ) → lines_of (s ++ t) ≡ ended s ++ lines_of (unfinished s ++ t)
unfolding lines_of
lines_on s t =
    rw (ended_on s t, unfinished_on s t) (append_assoc (ended s) (ended (unfinished s ++ t)) (last_line (unfinished (unfinished s ++ t))))

-- the line that k begins and p ends, and what p has behind it
abbrev pub first_line : List ℕ → List ℕ → List ℕ
first_line k p = k ++ take (up_to line_feed p) p

abbrev pub behind_first : List ℕ → List ℕ
behind_first p = drop (suc (up_to line_feed p)) p

-- a clean line with more behind it: the line goes on, or ends there
module _ (k p : List ℕ) (c : Clean line_feed k) where
  module _ (h : Clean line_feed p) where
    pub goes_on_ended : ended (k ++ p) ≡ []
    unfolding ended all_but_last
    goes_on_ended = ap all_but_last (parted_clean line_feed (k ++ p) (clean_append line_feed k p c h))

    pub goes_on_unfinished : unfinished (k ++ p) ≡ k ++ p
    unfolding unfinished last_of
    goes_on_unfinished = ap last_of (parted_clean line_feed (k ++ p) (clean_append line_feed k p c h))

  module _ (h : up_to line_feed p < length p) where
    pub ends_ended : ended (k ++ p) ≡ first_line k p ∷ ended (behind_first p)
    unfolding ended all_but_last
    ends_ended = go (parted line_feed (behind_first p)) (first_there line_feed (behind_first p)) (parted_behind line_feed k p c h)
      where
        go : (P : List (List ℕ)) → (q : List ℕ) × (qs : List (List ℕ)) × (P ≡ q ∷ qs) → parted line_feed (k ++ p) ≡ first_line k p ∷ P →
            all_but_last (parted line_feed (k ++ p)) ≡ first_line k p ∷ all_but_last P
        go P (q, qs, f) e = rw (e, f)

    pub ends_unfinished : unfinished (k ++ p) ≡ unfinished (behind_first p)
    unfolding unfinished last_of
    ends_unfinished = go (parted line_feed (behind_first p)) (first_there line_feed (behind_first p)) (parted_behind line_feed k p c h)
      where
        go : (P : List (List ℕ)) → (q : List ℕ) × (qs : List (List ℕ)) × (P ≡ q ∷ qs) → parted line_feed (k ++ p) ≡ first_line k p ∷ P →
            last_of (parted line_feed (k ++ p)) ≡ last_of P
        go P (q, qs, f) e = rw (e, f)

lines_clean : (k : List ℕ) → Clean line_feed k → lines_of k ≡ last_line k
unfolding lines_of
lines_clean k c =
    let e : ended k ≡ [] = rw append-nil at (goes_on_ended k [] c clean_none) in
    let u : unfinished k ≡ k = rw append-nil at (goes_on_unfinished k [] c clean_none) in
    rw (e, u)

-- what is kept of a line decides what is kept of it with more behind
take_on : (n : ℕ) (k x : List ℕ) → take n (take n k ++ x) ≡ take n (k ++ x)
take_on zero k x = refl
take_on (suc n) [] x = refl
take_on (suc n) (a ∷ k) x = ap (◌∷◌ a) (take_on n k x)

pub kept_on : (k x : List ℕ) → kept_of (kept_of k ++ x) ≡ kept_of (k ++ x)
unfolding kept_of
kept_on k x = take_on most_kept k x

pub kept_clean : (k : List ℕ) → Clean line_feed k → Clean line_feed (kept_of k)
unfolding kept_of
kept_clean k c = clean_take line_feed most_kept k c

-- lines answered: f looks at no more of a line than what is kept of it
pub answered_append : {A : Type 0} (f : List ℕ → A → A) (ls ms : List (List ℕ)) (a : A) →
    answered f (ls ++ ms) a ≡ answered f ms (answered f ls a)
unfolding answered
answered_append f [] ms a = refl
answered_append f (l ∷ ls) ms a = answered_append f ls ms (f l a)

module _ {A : Type 0} (f : List ℕ → A → A) (looks : (l : List ℕ) (a : A) → f (kept_of l) a ≡ f l a) where
  kept_answers : (k x : List ℕ) (a : A) → f (kept_of k ++ x) a ≡ f (k ++ x) a
  kept_answers k x a = sym (looks (kept_of k ++ x) a) ∙ ap (λ l. f l a) (kept_on k x) ∙ looks (k ++ x) a

  -- a piece behind what is kept of a line does what it does behind the line
  module _ (k p : List ℕ) (c : Clean line_feed k) (a : A) where
    pub piece_answers : answered f (ended (kept_of k ++ p)) a ≡ answered f (ended (k ++ p)) a
    unfolding answered
    piece_answers = go (below_or (up_to line_feed p) (length p))
      where
        go : (up_to line_feed p < length p) ⊎ (length p ≤ up_to line_feed p) →
            answered f (ended (kept_of k ++ p)) a ≡ answered f (ended (k ++ p)) a
        go (inl h) =
            ap (λ ls. answered f ls a) (ends_ended (kept_of k) p (kept_clean k c) h)
            ∙ ap (answered f (ended (behind_first p))) (kept_answers k (take (up_to line_feed p) p) a)
            ∙ sym (ap (λ ls. answered f ls a) (ends_ended k p c h))
        go (inr h) =
            let d : Clean line_feed p = omega (arith, up_to_inside line_feed p) in
            ap (λ ls. answered f ls a) (goes_on_ended (kept_of k) p (kept_clean k c) d ∙ sym (goes_on_ended k p c d))

    pub piece_keeps : kept_of (unfinished (kept_of k ++ p)) ≡ kept_of (unfinished (k ++ p))
    piece_keeps = go (below_or (up_to line_feed p) (length p))
      where
        go : (up_to line_feed p < length p) ⊎ (length p ≤ up_to line_feed p) →
            kept_of (unfinished (kept_of k ++ p)) ≡ kept_of (unfinished (k ++ p))
        go (inl h) = ap kept_of (ends_unfinished (kept_of k) p (kept_clean k c) h ∙ sym (ends_unfinished k p c h))
        go (inr h) =
            let d : Clean line_feed p = omega (arith, up_to_inside line_feed p) in
            ap kept_of (goes_on_unfinished (kept_of k) p (kept_clean k c) d) ∙ kept_on k p ∙ ap kept_of (sym (goes_on_unfinished k p c d))

  pub last_answers : (k : List ℕ) (a : A) → answered f (last_line (kept_of k)) a ≡ answered f (last_line k) a
  unfolding answered last_line kept_of
  last_answers [] a = refl
  last_answers (x ∷ k) a = looks (x ∷ k) a

  taken_behind : (ps : List (List ℕ)) (k : List ℕ) → Clean line_feed k → (a : A) →
      taken f ps (kept_of k) a ≡ answered f (lines_of (k ++ concat ps)) a
  unfolding taken concat
  taken_behind [] k c a = last_answers k a ∙ ap (λ ls. answered f ls a) (sym (lines_clean k c) ∙ ap lines_of (sym (append-nil k)))
  taken_behind (p ∷ ps) k c a =
      ap (λ l. taken f ps l (answered f (ended (kept_of k ++ p)) a)) (piece_keeps k p c a)
      ∙ ap (taken f ps (kept_of (unfinished (k ++ p)))) (piece_answers k p c a)
      ∙ taken_behind ps (unfinished (k ++ p)) (unfinished_clean (k ++ p)) (answered f (ended (k ++ p)) a)
      ∙ sym (answered_append f (ended (k ++ p)) (lines_of (unfinished (k ++ p) ++ concat ps)) a)
      ∙ ap (λ ls. answered f ls a) (sym (lines_on (k ++ p) (concat ps)) ∙ ap lines_of (append_assoc k p (concat ps)))

  -- whatever the pieces, the lines answered are those of the whole input
  pub pieces_make_lines : (ps : List (List ℕ)) (a : A) → taken f ps [] a ≡ answered f (lines_of (concat ps)) a
  unfolding kept_of
  pieces_make_lines ps a = taken_behind ps [] clean_none a
