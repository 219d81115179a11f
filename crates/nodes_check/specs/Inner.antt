-- Inner: no promise of the house rests on what stands here; inner contracts and proofs speak by it.
-- `nodes_sound` decides `nodes_sound` (nodes, specs/Sound): what each of its passes asks on the way, of a node by itself, of the chains
-- together, of the equal labels on a path, of the tags.
use Rattle.std.specs.Prelude.{◌≡◌, Bool, true, cond, List, map, ℕ, ◌+◌, ◌*◌, ◌/◌, ◌%◌, ◌^◌, ◌<◌, ◌≤◌, eqb, length}
use Rattle.ground.specs.Limits.{two_limit}
use Rattle.kits.specs.Kits.{count, most_units, most_quantity}
use Rattle.nodes.specs.Nodes.{most_nodes, parent, child, next, label, depth, tag, tally, size, tagged, row_of, chain}
use Rattle.nodes.specs.Inner.{Used, Live, Zero, OnChain, Head, Links, total}
use Rattle.nodes_check.specs.declared.Chain.{Chain}

-- what is asked of every node of the table
pub record Each (N : List ℕ) (P : ℕ → Type 0) : Type 0 where
  pub each : (i : ℕ) → i < size N → P i

------------------------------------------------------------------------
-- A node by itself

-- what is asked of the next sibling of node i
pub record Sib (N : List ℕ) (i : ℕ) : Type 0 where
  pub sibling : Live N (next N i)
  pub same : 0 < next N i → parent N (next N i) ≡ parent N i
  pub greater : 0 < next N i → label N i < label N (next N i)

-- what is asked of node i below node q
pub record Under (parts : ℕ) (N : List ℕ) (i q : ℕ) : Type 0 where
  pub alive : 0 < q → 0 < label N q
  pub deeper : depth N i ≡ depth N q + 1
  pub shallow : depth N i ≤ most_units
  pub place : label N i ≤ parts
  pub rising : label N q ≤ label N i

pub record Ok (parts : ℕ) (N : List ℕ) (i : ℕ) : Type 0 where
  pub above : parent N i < size N
  pub under : Under parts N i (parent N i)

-- what is asked of node i by itself
pub record Spot (parts : ℕ) (N : List ℕ) (i : ℕ) : Type 0 where
  pub head : Head N i
  pub free : 0 < i → label N i ≡ 0 → Zero N i
  pub ok : 0 < i → 0 < label N i → Ok parts N i
  pub sib : 0 < i → 0 < label N i → Sib N i
  pub leaf : 0 < i → 0 < label N i → child N i ≡ 0 → 0 < tag N i

abbrev pub Spots : ℕ → List ℕ → Type 0
Spots parts N = Each N (Spot parts N)

-- every link may be followed, and a chain's nodes have one parent: so it is in a table of a right length where every node is right by itself
pub record Kin (N : List ℕ) : Type 0 where
  pub most : size N ≤ most_nodes
  pub links : Links N
  pub back : (i : ℕ) → i < size N → 0 < child N i → parent N (child N i) ≡ i
  pub same : (i : ℕ) → Used N i → 0 < next N i → parent N (next N i) ≡ parent N i

------------------------------------------------------------------------
-- The chains together

-- how many nodes the chain from a link on has
abbrev pub chain_length : List ℕ → ℕ → ℕ
chain_length N h = length (chain N (size N) h)

-- how many tagged nodes these say are at or below them
abbrev pub chain_tags : List ℕ → ℕ → ℕ
chain_tags N h = total (map (tally N) (chain N (size N) h))

-- no chain says more, whatever its words are
abbrev pub most_sum : ℕ
most_sum = most_nodes * two_limit

-- what a walk along the chain from a link on tells
pub record Walked (N : List ℕ) (h : ℕ) (c : Chain) : Type 0 where
  pub tells_nodes : c.nodes ≡ chain_length N h
  pub tells_tags : c.tags ≡ chain_tags N h
  pub bounded : c.tags ≤ most_sum

-- "the number of tagged nodes at or below it", where the tallies of its chain are right: one for its own tag, and what these say
unfoldable pub tallied : List ℕ → ℕ → Bool
tallied N i = eqb (tally N i) (cond (tagged N i) 1 0 + chain_tags N (child N i))

abbrev pub Tallied : List ℕ → ℕ → Type 0
Tallied N i = tallied N i ≡ true

-- "every used node but the root is found on its parent's chain"
pub record AllChained (N : List ℕ) : Type 0 where
  pub each : (i : ℕ) → Used N i → OnChain N (child N (parent N i)) i

-- with the tallies along them, of every node
pub record Chains (N : List ℕ) : Type 0 where
  pub chained : AllChained N
  pub tallies : Each N (Tallied N)

------------------------------------------------------------------------
-- Equal labels on a path

-- "no path has more than 15 equal labels": of the path to i, the last label
pub record Few (N : List ℕ) (i : ℕ) : Type 0 where
  pub few : count (label N i) (row_of N i) ≤ most_quantity

-- no child goes on with the label of i: the first one, whose label is the smallest, does not
pub record Last (N : List ℕ) (i : ℕ) : Type 0 where
  pub named : 0 < label N i
  pub other : label N (child N i) ≡ label N i → ⊥

-- asked only there: the nodes above with the same label are on the same path
abbrev pub FewIfLast : List ℕ → ℕ → Type 0
FewIfLast N i = Last N i → Few N i

abbrev pub Fews : List ℕ → Type 0
Fews N = Each N (FewIfLast N)

------------------------------------------------------------------------
-- The tags

-- "nonzero tags differ"
pub record Unlike (N : List ℕ) : Type 0 where
  pub each : (i j : ℕ) → i < size N → j < size N → 0 < tag N i → tag N i ≡ tag N j → i ≡ j

-- tags seen are marked by bits, so many to a word
abbrev pub word_bits : ℕ
word_bits = 64

unfoldable pub bit : ℕ → ℕ → ℕ
bit w b = w / 2 ^ b % 2

-- r is w with bit b set
pub record With (w b r : ℕ) : Type 0 where
  pub there : bit r b ≡ 1
  pub others : (c : ℕ) → (c ≡ b → ⊥) → bit r c ≡ bit w c
