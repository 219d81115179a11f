-- The walk for a bin, after a row.
use mathlib.Core.Path.{◌≡◌, refl}
use mathlib.Core.List.{List}
use Prim.Native.Nat.{ℕ, ◌+◌, ◌≤◌, ◌<◌}
use lib.ListN.{get_or}
use Rattle.kits.specs.Inner.{fits_along}
use Rattle.nodes.specs.Nodes.{child, next, tag}
use Rattle.nodes.specs.Inner.{rank}
use Rattle.questions.specs.Inner.{fits, first_from, AtBin, had_of}
use Rattle.questions.proofs.BinWalk.{SeenIn, to_next, fits_over, Entered, entered, to_child}
use Rattle.pages.specs.Inner.{first_after, Alongside}
use Rattle.pages.proofs.After.{Beside, Meets, came_to, after_skipped, child_along, after_below, after_behind}

pub beside_bin : {r N Q : List ℕ} {top link last had d : ℕ} → AtBin N Q top link last had → Alongside r N link d →
    Beside r (fits Q) (fits_along Q last had) N link d
beside_bin K A = record { shape = K.shape; asks = K.asks; along = A }

-- What it knows once it has read the label l of the node that it reached; t is its measure
pub record MeetsBin (r N Q : List ℕ) (top link last had d at l p t : ℕ) : Type 0 where
  pub knows : AtBin N Q top link last had
  pub measured : rank N link ≡ t
  pub meets : Meets r (fits Q) (fits_along Q last had) N link d at l p

module _ {r N Q : List ℕ} {top link last had d at l p t : ℕ} (M : MeetsBin r N Q top link last had d at l p t) where
  -- it is where the question's walk comes to that node
  pub seen_bin : SeenIn N Q top link last had at l t
  seen_bin = record {
    came = record {
      knows = record { shape = M.knows.shape; none_above = M.knows.none_above; asks = (came_to M.meets).beside.asks };
      lower = (came_to M.meets).lower;
    };
    measured = M.measured;
    node = M.meets.node;
    l_is = M.meets.l_is;
  }

  pub next_bin : {k : ℕ} → k ≡ next N at → AtBin N Q top k last had
  next_bin e = (to_next seen_bin e).1.knows

  -- the label l has come n times, and the bin has m
  module _ {m n : ℕ} (a : m ≡ get_or Q l 0) (b : n ≡ had_of l last had) where
    pub used_up : {k f : ℕ} → l ≤ p → m ≤ n → k ≡ next N at → f ≡ first_from (fits Q) N k → f ≡ first_after r (fits Q) N link
    used_up h g e f = after_skipped M.meets h (λ s. fits_over Q l last had s a b g) e f

    module _ (g : n < m) where
      goes_in : Entered N Q top link last had at l t m n (tag N at)
      goes_in = record { comes = seen_bin; most = a; times = b; some = g; own_is = refl }

      module _ {k : ℕ} (h : l ≤ p) (e : k ≡ child N at) where
        pub to_child_bin : (rank N k < t) × (AtBin N Q top k l (n + 1) × Alongside r N k (d + 1))
        to_child_bin = let c = to_child goes_in e in (c.0, (c.1, child_along M.meets h (entered goes_in) e))

        module _ {f : ℕ} (i : f ≡ first_after r (fits Q) N k) where
          pub below_bin : (f ≡ 0 → ⊥) → f ≡ first_after r (fits Q) N link
          below_bin = after_below M.meets h (entered goes_in) e i

          pub behind_bin : {x o : ℕ} → f ≡ 0 → x ≡ next N at → o ≡ first_from (fits Q) N x → o ≡ first_after r (fits Q) N link
          behind_bin = after_behind M.meets h (entered goes_in) e i
