-- The walk for a list that kits are to contain, after a row.
use mathlib.Core.Path.{◌≡◌, refl}
use mathlib.Core.List.{List}
use mathlib.Core.Bool.{cond}
use Prim.Native.Nat.{ℕ, ◌+◌, ◌≤◌, ◌<◌}
use native.Mathlib.Omega.{arith}
use lib.Dec.{eqb}
use Rattle.kits.specs.Inner.{covers_along}
use Rattle.nodes.specs.Nodes.{child, next, tag}
use Rattle.nodes.specs.Inner.{rank}
use Rattle.questions.specs.Inner.{covers, first_from, still_wanted, AtList, want_after}
use Rattle.questions.specs.declared.Want.{Want}
use Rattle.questions.proofs.Asked.{next_asks, visit}
use Rattle.questions.proofs.ListWalk.{SeenIn, seen, Entered, entered, to_child}
use Rattle.pages.specs.Inner.{first_after, Alongside}
use Rattle.pages.proofs.After.{Beside, Meets, came_to, after_stopped, child_along, after_below, after_behind}

pub beside_list : {r N list : List ℕ} {link d : ℕ} {w : Want} → AtList N list link w → Alongside r N link d →
    Beside r (covers list) (covers_along (still_wanted list w)) N link d
beside_list K A = record { shape = K.shape; asks = K.asks; along = A }

-- What it knows once it has read the label l of the node that it reached; t is its measure
pub record MeetsList (r N list : List ℕ) (link : ℕ) (w : Want) (d at l p t : ℕ) : Type 0 where
  pub knows : AtList N list link w
  pub measured : rank N link ≡ t
  pub meets : Meets r (covers list) (covers_along (still_wanted list w)) N link d at l p

module _ {r N list : List ℕ} {link : ℕ} {w : Want} {d at l p t : ℕ} (M : MeetsList r N list link w d at l p t) where
  pub reached_list : AtList N list at w
  reached_list = record { shape = M.knows.shape; good = M.knows.good; wants = M.knows.wants; asks = (came_to M.meets).beside.asks }

  -- it is where the question's walk comes to that node
  pub seen_list : SeenIn N list at w l (rank N at)
  seen_list = seen reached_list refl M.meets.node M.meets.l_is

  pub next_list : {k : ℕ} → k ≡ next N at → AtList N list k w
  next_list e = rw e (seen_list.walk.again (next_asks (visit seen_list)))

  -- above what is wanted nothing is left
  pub over_list : w.place < l → 0 ≡ first_after r (covers list) N link
  over_list h = after_stopped M.meets (λ x s g b. seen_list.walk.over x s (omega arith) b)

  -- v is wanted once the label has come
  module _ {v : Want} (u : l ≤ w.place) (a : v ≡ want_after list l w) where
    goes_in : Entered N list at w l (rank N at) v (cond (eqb v.left 0) (tag N at) 0)
    goes_in = record { comes = seen_list; upto = u; wants = a; own_is = refl }

    module _ {k : ℕ} (h : l ≤ p) (e : k ≡ child N at) where
      pub to_child_list : (rank N k < t) × (AtList N list k v × Alongside r N k (d + 1))
      to_child_list =
          let c = to_child goes_in e in (
            omega (arith, c.0, (came_to M.meets).lower, M.measured),
            (c.1, child_along M.meets h (entered goes_in) e),
          )

      module _ {f : ℕ} (i : f ≡ first_after r (covers list) N k) where
        pub below_list : (f ≡ 0 → ⊥) → f ≡ first_after r (covers list) N link
        below_list = after_below M.meets h (entered goes_in) e i

        pub behind_list : {x o : ℕ} → f ≡ 0 → x ≡ next N at → o ≡ first_from (covers list) N x → o ≡ first_after r (covers list) N link
        behind_list = after_behind M.meets h (entered goes_in) e i
