-- Laws of the list that a line types, read pair by pair.
use mathlib.Core.Path.{◌≡◌, refl, ap, sym, ◌∙◌}
use mathlib.Core.Bool.{true, false≢true}
use mathlib.Core.Logic.{◌⊎◌, inl, inr}
use mathlib.Core.List.{List, [], ◌∷◌, ◌++◌, append_assoc, append-nil}
use Prim.Native.Nat.{ℕ, ◌+◌, ◌≤◌, ◌<◌}
use native.Mathlib.Omega.{arith}
use lib.ListN.{length, take, drop, set}
use Rattle.ground.specs.Lists.{allb}
use Rattle.ground.specs.Laid.{laid}
use Rattle.ground.specs.Calls.{done, refused, is_refused, answer}
use Rattle.answers.specs.declared.Refusal.{Refusal}
use Rattle.answers.specs.Answers.{refusal}
use Rattle.ground.proofs.Laws.{and_left, and_right, below_or}
use Rattle.ground.proofs.Laid.{laid_one, laid_cons, take_laid, length_laid}
use Rattle.register.specs.Calls.{looking_up}
use Rattle.desk_text.specs.Inner.{EndOf, up_to}
use Rattle.desk_text.specs.Amounts.{good_amount, amount_of}
use Rattle.desk_text.specs.Lines.{space, fields_from, filled, good_pairs}
use Rattle.desk_text.proofs.Parted.{from_none, from_step, end_there}
use Rattle.desk_text.proofs.Lines.{field_at, filled_no, filled_yes, pairs_odd, pairs_step}
use Rattle.desk_lists.specs.Typed.{Typed, typed, stopped, in_front_of, looked_up}
use Rattle.desk_lists.specs.Inner.{Pairs, most_words}

-- two words set, one behind the other
pub two_set : (l : List ℕ) (at a b : ℕ) → set (set l at a) (at + 1) b ≡ laid l at (a ∷ b ∷ [])
two_set l at a b = laid_one (set l at a) (at + 1) b ∙ laid_cons l at a (b ∷ [])

-- a list in front of what the other pairs come to
unfoldable pub joined : List ℕ → Typed → Typed
joined l (typed m) = typed (l ++ m)
joined l (stopped n v) = stopped n v

pub joined_none : (t : Typed) → joined [] t ≡ t
unfolding joined
joined_none (typed m) = refl
joined_none (stopped n v) = refl

pub joined_all : (l : List ℕ) → joined l (typed []) ≡ typed l
unfolding joined
joined_all l = ap typed (append-nil l)

pub joined_more : (l : List ℕ) (p q : ℕ) (t : Typed) → joined l (in_front_of (done p) q t) ≡ joined (l ++ (p ∷ q ∷ [])) t
unfolding joined in_front_of
joined_more l p q (typed m) = ap typed (sym (append_assoc l (p ∷ q ∷ []) m))
joined_more l p q (stopped n v) = refl

-- a pair of a line: its number, and its quantity
module _ (l : List ℕ) (at r : ℕ) (p : Pairs l at) (h : at ≤ length l) (e : EndOf l at space r) where
  pub number_some : at < r
  number_some = go (below_or at r)
    where
      go : (at < r) ⊎ (r ≤ at) → at < r
      go (inl g) = g
      go (inr g) = absurd (false≢true (sym (filled_no l at r h e (omega (arith, e.low))) ∙ p.some))

  pub quantity_follows : r < length l
  quantity_follows = go (below_or r (length l))
    where
      go : (r < length l) ⊎ (length l ≤ r) → r < length l
      go (inl g) = g
      go (inr g) = absurd (false≢true (sym (pairs_odd l at r h e (omega (arith, e.high))) ∙ p.good))

  fields_behind : allb filled (fields_from l (r + 1)) ≡ true
  fields_behind = sym (filled_yes l at r h e (λ q. absurd (omega (arith, number_some)))) ∙ p.some

  module _ (s : ℕ) (f : EndOf l (r + 1) space s) where
    pub quantity_some : r + 1 < s
    quantity_some = go (below_or (r + 1) s)
      where
        go : (r + 1 < s) ⊎ (s ≤ r + 1) → r + 1 < s
        go (inl g) = g
        go (inr g) =
            absurd (false≢true (sym (filled_no l (r + 1) s (omega (arith, quantity_follows)) f (omega (arith, f.low))) ∙ fields_behind))

    pub amount_follows : good_amount (field_at l (r + 1) s) ≡ true
    amount_follows =
        and_left (good_amount (field_at l (r + 1) s)) (good_pairs (fields_from l (s + 1)))
        (sym (pairs_step l at r h e s quantity_follows f) ∙ p.good)

    pub pairs_next : Pairs l (s + 1)
    pairs_next =
        record {
          short = p.short;
          inside = omega (arith, f.high);
          some =
              sym (filled_yes l (r + 1) s (omega (arith, quantity_follows)) f (λ q. absurd (omega (arith, quantity_some)))) ∙ fields_behind;
          good =
              and_right (good_amount (field_at l (r + 1) s)) (good_pairs (fields_from l (s + 1)))
              (sym (pairs_step l at r h e s quantity_follows f) ∙ p.good);
        }

    pub looked_step : (R : List ℕ) →
        looked_up R (fields_from l at) ≡ in_front_of (answer (looking_up (field_at l at r) R)) (amount_of (field_at l (r + 1) s))
        (looked_up R (fields_from l (s + 1)))
    unfolding looked_up
    looked_step R = rw (from_step space l at r h e, from_step space l (r + 1) s (omega (arith, quantity_follows)) f)

    pub looked_place : (R : List ℕ) (x : ℕ) → answer (looking_up (field_at l at r) R) ≡ done x →
        looked_up R (fields_from l at) ≡ in_front_of (done x) (amount_of (field_at l (r + 1) s)) (looked_up R (fields_from l (s + 1)))
    looked_place R x q = looked_step R ∙ ap (λ a. in_front_of a (amount_of (field_at l (r + 1) s)) (looked_up R (fields_from l (s + 1)))) q

  pub looked_refused : (R : List ℕ) (n v : ℕ) → answer (looking_up (field_at l at r) R) ≡ refused n v →
      looked_up R (fields_from l at) ≡ stopped n v
  unfolding in_front_of
  looked_refused R n v q =
      let s = r + 1 + up_to space (drop (r + 1) l) in
      let f : EndOf l (r + 1) space s = end_there space l (r + 1) (omega (arith, quantity_follows)) in
      looked_step s f R ∙ ap (λ a. in_front_of a (amount_of (field_at l (r + 1) s)) (looked_up R (fields_from l (s + 1)))) q

pub looked_end : (R l : List ℕ) (at : ℕ) → length l < at → looked_up R (fields_from l at) ≡ typed []
unfolding looked_up
looked_end R l at h = rw (from_none space l at h)

-- where reading a list stands: the list so far, in front of what the pairs from a position on come to, is the whole
pub record Reading (R l : List ℕ) (from : ℕ) (old out : List ℕ) (n at : ℕ) : Type 0 where
  pub pairs : Pairs l at
  pub room : n + n ≤ at
  pub size : length out ≡ length old
  pub large : most_words ≤ length old
  pub whole : joined (take n out) (looked_up R (fields_from l at)) ≡ looked_up R (fields_from l from)

pub reading_start : (R l : List ℕ) (from : ℕ) (old : List ℕ) → Pairs l from → most_words ≤ length old → Reading R l from old old 0 from
reading_start R l from old p h =
    record { pairs = p; room = omega arith; size = refl; large = h; whole = joined_none (looked_up R (fields_from l from)) }

module _ {R l : List ℕ} {from : ℕ} {old out : List ℕ} {n at : ℕ} (t : Reading R l from old out n at) where
  pub reading_inside : n ≤ length out
  reading_inside = omega (arith, t.room, t.size, t.large, t.pairs.inside, t.pairs.short)

  pub reading_end : length l < at → typed (take n out) ≡ looked_up R (fields_from l from)
  reading_end h = sym (joined_all (take n out)) ∙ ap (joined (take n out)) (sym (looked_end R l at h)) ∙ t.whole

  module _ (r : ℕ) (h : at ≤ length l) (e : EndOf l at space r) where
    pub reading_stopped : (k v : ℕ) → answer (looking_up (field_at l at r) R) ≡ refused k v → stopped k v ≡ looked_up R (fields_from l from)
    unfolding joined
    reading_stopped k v q = ap (joined (take n out)) (sym (looked_refused l at r t.pairs h e R k v q)) ∙ t.whole

    module _ (s : ℕ) (f : EndOf l (r + 1) space s) where
      pub pair_room : n + 2 ≤ length out
      pair_room =
          omega (
            arith,
            t.room,
            t.size,
            t.large,
            t.pairs.short,
            number_some l at r t.pairs h e,
            quantity_some l at r t.pairs h e
                s f,
            f.high,
          )

      pub reading_on : (x q : ℕ) (new : List ℕ) → answer (looking_up (field_at l at r) R) ≡ done x → q ≡ amount_of (field_at l (r + 1) s) →
          new ≡ laid out n (x ∷ q ∷ []) → Reading R l from old new (n + 2) (s + 1)
      reading_on x q new a b w =
          let g : take (n + 2) new ≡ take n out ++ (x ∷ q ∷ []) = ap (take (n + 2)) w ∙ take_laid out n (x ∷ q ∷ []) pair_room in
          record {
            pairs = pairs_next l at r t.pairs h e s f;
            room = omega (arith, t.room, number_some l at r t.pairs h e, quantity_some l at r t.pairs h e s f);
            size = ap length w ∙ length_laid out n (x ∷ q ∷ []) ∙ t.size;
            large = t.large;
            whole =
                ap (λ m. joined m (looked_up R (fields_from l (s + 1)))) g
                ∙ sym (joined_more (take n out) x q (looked_up R (fields_from l (s + 1))))
                ∙ ap (λ k. joined (take n out) (in_front_of (done x) k (looked_up R (fields_from l (s + 1))))) b
                ∙ ap (joined (take n out)) (sym (looked_place l at r t.pairs h e s f R x a))
                ∙ t.whole;
          }
