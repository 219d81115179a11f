-- Along a chain to the first label that is not below a place: what is reached from a node on is what is reached from the link.
use mathlib.Core.Path.{◌≡◌}
use mathlib.Core.List.{List}
use Prim.Native.Nat.{ℕ, ◌≤◌, ◌<◌}
use native.Mathlib.Omega.{arith}
use Rattle.nodes.specs.Nodes.{next, label}
use Rattle.nodes.specs.Inner.{Used, Live, Shape, rank}
use Rattle.nodes.proofs.Walk.{next_less}
use Rattle.pages.specs.Inner.{Reaches, ended, here, later}

pub record Reaching (N : List ℕ) (place link at : ℕ) : Type 0 where
  pub live : Live N at
  pub made : (r : ℕ) → Reaches N place at r → Reaches N place link r

pub reach_none : {N : List ℕ} {place link at : ℕ} → Reaching N place link at → at ≡ 0 → Reaches N place link at
reach_none {at = at} R z = R.made at (rw z ended)

module _ {N : List ℕ} {place link at : ℕ} (R : Reaching N place link at) (n : at ≡ 0 → ⊥) where
  a_node : Used N at
  a_node = R.live (omega arith)

  module _ {l : ℕ} (e : l ≡ label N at) where
    pub reach_here : place ≤ l → Reaches N place link at
    reach_here h = R.made at (here (omega arith) (omega arith))

    pub reach_next : {k parts : ℕ} → Shape parts N → l < place → k ≡ next N at → (rank N k < rank N at) × Reaching N place link k
    reach_next S h f = rw f (
      next_less S at a_node,
      record { live = (S.good at a_node).sibling; made = λ r g. R.made r (later (omega arith) (omega arith) g) },
    )
