-- The walk for a list that kits are to contain: what a label makes of what is asked of a row, and what the walk knows at each node.
use mathlib.Core.Path.{◌≡◌, refl, sym, ap, subst, ◌∙◌}
use mathlib.Core.Bool.{true, false, cond}
use mathlib.Core.List.{List, [], ◌∷◌, ◌++◌}
use Prim.Native.Nat.{ℕ, zero, suc, ◌+◌, ◌-◌, ◌%◌, ◌≤◌, ◌<◌}
use native.Mathlib.Omega.{arith}
use lib.ListN.{length, drop, get_or, replicate}
use lib.Dec.{ltb, eqb}
use borrow.Author.Tests.{eq-eqb, ne_eqb, ltb-true, ltb-false, lt-ltb, le-ltb}
use Rattle.ground.proofs.Laws.{by_cond}
use Rattle.kits.specs.Kits.{most_place, good_list, units}
use Rattle.kits.specs.Inner.{covers_along}
use Rattle.kits.proofs.Good.{good_lines_lem, good_quantity}
use Rattle.kits.proofs.Lists.{units_line, units_end}
use Rattle.nodes.specs.Nodes.{child, label, tag}
use Rattle.nodes.specs.Inner.{Shape, rank}
use Rattle.nodes.proofs.Walk.{child_less}
use Rattle.questions.specs.Inner.{covers, Asks, wanting, still_wanted, Wants, AtList, want_from, want_after}
use Rattle.questions.specs.declared.Want.{Want}
use Rattle.questions.proofs.Asked.{Seen, visit, here, a_place, Enters, child_asks, root_asks}

-- the wanted label
covers_same : (x u : ℕ) (us s : List ℕ) → x ≡ u → covers_along (u ∷ us) (x ∷ s) ≡ covers_along us s
unfolding covers_along
covers_same x u us s e = rw (le-ltb x u (omega arith), eq-eqb x u e)

-- What is wanted from a line on
module _ (list : List ℕ) (line : ℕ) {w : Want} (e : w ≡ want_from list line) where
  from_cases : (P : Want → Type 0) →
      (line + 1 < length list → P (wanting (get_or list line 0) (get_or list (line + 1) 0) (line + 2))) →
      (length list ≤ line + 1 → P (wanting (most_place + 1) 0 line)) → P w
  unfolding want_from
  from_cases P f g = subst P (sym e)
      (by_cond P (ltb (line + 1) (length list)) _ _ (λ t. f (ltb-true (line + 1) (length list) t))
      (λ t. g (ltb-false (line + 1) (length list) t)))

  pub from_still : still_wanted list w ≡ units (drop line list)
  from_still = from_cases (λ (w : Want). still_wanted list w ≡ units (drop line list)) (λ h. sym (units_line list line h)) (λ h. refl)

  pub from_wants : good_list most_place list ≡ true → line ≤ length list → line % 2 ≡ 0 → Wants list w
  from_wants g h k = from_cases (Wants list)
      (λ i. record {
        inside = omega arith;
        even = omega arith;
        none = λ z. absurd (omega (arith, good_quantity (good_lines_lem most_place list g) line i k));
      })
      (λ i. record { inside = h; even = k; none = λ z. (omega arith, i) })

-- a row with no more labels contains what is wanted where nothing is
still_none : {list : List ℕ} {w : Want} → Wants list w → covers_along (still_wanted list w) [] ≡ eqb w.left 0
unfolding covers_along
still_none {list} {w} W = go w.left refl
  where
    go : (n : ℕ) → w.left ≡ n → covers_along (replicate n w.place ++ units (drop w.line list)) [] ≡ eqb n 0
    go zero e = rw (units_end list w.line (W.none e).1)
    go (suc n) e = sym (ne_eqb (suc n) 0 (λ q. omega arith))

-- The label x comes where w is wanted
module _ (list : List ℕ) (x : ℕ) (w : Want) where
  module _ (W : Wants list w) where
    abbrev Others : List ℕ
    Others = units (drop w.line list)

    pub covers_past : w.place < x → x ≤ most_place → (s : List ℕ) → covers_along (still_wanted list w) (x ∷ s) ≡ false
    unfolding covers_along
    covers_past h b s = go w.left refl
      where
        go : (n : ℕ) → w.left ≡ n → covers_along (replicate n w.place ++ Others) (x ∷ s) ≡ false
        go zero e = absurd (omega (arith, (W.none e).0))
        go (suc n) e = rw (le-ltb x w.place (omega arith), ne_eqb x w.place (λ e. omega arith))

    -- a smaller label changes nothing
    covers_less : x < w.place → (s : List ℕ) → covers_along (still_wanted list w) (x ∷ s) ≡ covers_along (still_wanted list w) s
    unfolding covers_along
    covers_less h s = go w.left refl
      where
        go : (n : ℕ) → w.left ≡ n → covers_along (replicate n w.place ++ Others) (x ∷ s) ≡ covers_along (replicate n w.place ++ Others) s
        go zero e = rw (units_end list w.line (W.none e).1)
        go (suc n) e = rw (lt-ltb x w.place h)

    module _ {v : Want} (h : x ≤ w.place) (b : x ≤ most_place) (e : v ≡ want_after list x w) where
      -- what holds of each thing that may be wanted next
      next_want : (P : Want → Type 0) → (x < w.place → P w) →
          ((n : ℕ) → x ≡ w.place → w.left ≡ suc (suc n) → P (wanting w.place (suc n) w.line)) →
          (x ≡ w.place → w.left ≡ 1 → P (want_from list w.line)) → P v
      unfolding want_after
      next_want P f g k = subst P (sym e)
          (by_cond P (ltb x w.place) _ _ (λ t. f (ltb-true x w.place t))
          (λ t. let q : x ≡ w.place = omega (arith, ltb-false x w.place t) in
          by_cond P (ltb 1 w.left) _ _ (λ u. more w.left refl q (ltb-true 1 w.left u))
          (λ u. k q (one w.left refl q (ltb-false 1 w.left u)))))
        where
          more : (n : ℕ) → w.left ≡ n → x ≡ w.place → 1 < n → P (wanting w.place (n - 1) w.line)
          more zero z q u = absurd (omega arith)
          more (suc zero) z q u = absurd (omega arith)
          more (suc (suc n)) z q u = let m : suc (suc n) - 1 ≡ suc n = omega arith in rw m (g n q z)

          one : (n : ℕ) → w.left ≡ n → x ≡ w.place → n ≤ 1 → w.left ≡ 1
          one zero z q u = absurd (omega (arith, (W.none z).0))
          one (suc n) z q u = omega arith

      pub covers_enters : (s : List ℕ) → covers_along (still_wanted list w) (x ∷ s) ≡ covers_along (still_wanted list v) s
      covers_enters s = next_want (λ v. covers_along (still_wanted list w) (x ∷ s) ≡ covers_along (still_wanted list v) s)
          (λ t. covers_less t s)
          (λ n q z. rw z (covers_same x w.place (replicate (suc n) w.place ++ Others) s q))
          (λ q z. rw z (covers_same x w.place Others s q) ∙ ap (λ us. covers_along us s) (sym (from_still list w.line refl)))

      pub wants_after : good_list most_place list ≡ true → Wants list v
      wants_after g = next_want (Wants list)
          (λ t. W)
          (λ n q z. record { inside = W.inside; even = W.even; none = λ k. absurd (omega arith) })
          (λ q z. from_wants list w.line refl g W.inside W.even)

-- the walk at each link
abbrev pub SeenIn : (N list : List ℕ) → ℕ → Want → ℕ → ℕ → Type 0
SeenIn N list at w l t = Seen (covers list) (covers_along (still_wanted list w)) N w.place (λ k. AtList N list k w) at l t

pub seen : {N list : List ℕ} {at : ℕ} {w : Want} {l t : ℕ} → AtList N list at w → rank N at ≡ t → (at ≡ 0 → ⊥) → l ≡ label N at →
    SeenIn N list at w l t
seen {list = list} {w = w} K m n e = record {
  walk = record {
    shape = K.shape;
    asks = λ k. k.asks;
    over = λ x s g b. covers_past list x w K.wants g b s;
    again = λ a. record { shape = K.shape; good = K.good; wants = K.wants; asks = a };
  };
  knows = K;
  measured = m;
  node = n;
  l_is = e;
}

-- and once it has entered the node: what is wanted then, and its own tag where nothing is
pub record Entered (N list : List ℕ) (at : ℕ) (w : Want) (l t : ℕ) (v : Want) (own : ℕ) : Type 0 where
  pub comes : SeenIn N list at w l t
  pub upto : l ≤ w.place
  pub wants : v ≡ want_after list l w
  pub own_is : own ≡ cond (eqb v.left 0) (tag N at) 0

module _ {N list : List ℕ} {at : ℕ} {w : Want} {l t : ℕ} {v : Want} {own : ℕ} (e : Entered N list at w l t v own) where
  wanted_then : Wants list v
  wanted_then = let K = e.comes.knows in wants_after list l w K.wants e.upto (a_place e.comes) e.wants K.good

  pub entered : Enters (covers list) (covers_along (still_wanted list w)) (covers_along (still_wanted list v)) N at l own
  entered = record {
    seen = visit e.comes;
    goes = covers_enters list l w e.comes.knows.wants e.upto (a_place e.comes) e.wants;
    own = e.own_is ∙ ap (λ b. cond b (tag N at) 0) (sym (still_none wanted_then));
  }

  pub to_child : {k : ℕ} → k ≡ child N at → (rank N k < t) × AtList N list k v
  to_child f = rw f (
    omega (arith, e.comes.measured, child_less e.comes.knows.shape at (here (visit e.comes))),
    record { shape = e.comes.knows.shape; good = e.comes.knows.good; wants = wanted_then; asks = child_asks entered },
  )

-- where it begins: all that the list has is wanted
module _ {N : List ℕ} (list : List ℕ) (S : Shape most_place N) (g : good_list most_place list ≡ true) {w : Want} (e : w ≡ want_from list 0) where
  pub root_at : {c : ℕ} → c ≡ child N 0 → AtList N list c w
  root_at {c} f = record {
    shape = S;
    good = g;
    wants = from_wants list 0 e g (omega arith) refl;
    asks = subst (λ us. Asks (covers list) (covers_along us) N c) (sym (from_still list 0 e)) (root_asks S (covers list) f);
  }
