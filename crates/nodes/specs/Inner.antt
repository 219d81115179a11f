-- Inner: no promise of the house rests on what stands here; inner contracts and proofs speak by it.
-- The conditions of soundness as a record, links followed, and tags borne.
use Rattle.std.specs.Prelude.{◌≡◌, Bool, List, [], ◌∷◌, ◌++◌, ℕ, ◌+◌, ◌-◌, ◌*◌, ◌≤◌, ◌<◌, zero, suc, length, eqb}
use Rattle.ground.specs.Lists.{anyb}
use Rattle.kits.specs.Kits.{count, most_units, most_quantity}
use Rattle.nodes.specs.Nodes.{words_per_node, most_nodes, word, parent, child, next, label, depth, tag, tally, size, nodes_of, row_of, tags_under}

------------------------------------------------------------------------
-- The conditions that `nodes_sound` decides, as a record, for a table of a right length; the law `sound_exactly` equates the two

pub record Sized (N : List ℕ) : Type 0 where
  pub whole : length N ≡ size N * words_per_node
  pub some_node : 0 < size N
  pub most : size N ≤ most_nodes

-- a node other than the root that is used: in a sound table its label is not 0
pub record Used (N : List ℕ) (i : ℕ) : Type 0 where
  pub inside : i < size N
  pub named : 0 < label N i

-- a link: none, or to a used node
abbrev pub Live : List ℕ → ℕ → Type 0
Live N i = 0 < i → Used N i

-- all its words are 0
abbrev pub Zero : List ℕ → ℕ → Type 0
Zero N i = (k : ℕ) → k < words_per_node → word N i k ≡ 0

-- i is on the chain of siblings that starts at a link
pub data OnChain (N : List ℕ) : ℕ → ℕ → Type 0 where
  here : {i : ℕ} → OnChain N i i
  later : {h i : ℕ} → 0 < h → OnChain N (next N h) i → OnChain N h i

-- "the root's parent, sibling, label and depth are 0"
pub record Root (N : List ℕ) : Type 0 where
  pub no_parent : parent N 0 ≡ 0
  pub no_next : next N 0 ≡ 0
  pub no_label : label N 0 ≡ 0
  pub no_depth : depth N 0 ≡ 0

-- of "every other used node": "a used parent (the root counts), depth one more than its parent's and at most 64, and a label from 1 to the
-- number of parts, at least its parent's label; no path has more than 15 equal labels"; its next sibling; and it is "found on its parent's
-- chain"
pub record Good (parts : ℕ) (N : List ℕ) (i : ℕ) : Type 0 where
  pub above : Live N (parent N i)
  pub deeper : depth N i ≡ depth N (parent N i) + 1
  pub shallow : depth N i ≤ most_units
  pub place : label N i ≤ parts
  pub rising : label N (parent N i) ≤ label N i
  pub few : count (label N i) (row_of N i) ≤ most_quantity
  pub sibling : Live N (next N i)
  pub same : 0 < next N i → parent N (next N i) ≡ parent N i
  pub greater : 0 < next N i → label N i < label N (next N i)
  pub chained : OnChain N (child N (parent N i)) i

-- of a first child, the root's too: "none or a used node other than the root that names that node as parent"
pub record Head (N : List ℕ) (i : ℕ) : Type 0 where
  pub first : Live N (child N i)
  pub back : 0 < child N i → parent N (child N i) ≡ i

-- All conditions but those on tags: what holds between the steps of an insertion too. A label 0 is that of a free node.
pub record Shape (parts : ℕ) (N : List ℕ) : Type 0 where
  pub sized : Sized N
  pub root : Root N
  pub free : (i : ℕ) → 0 < i → i < size N → label N i ≡ 0 → Zero N i
  pub good : (i : ℕ) → Used N i → Good parts N i
  pub head : (i : ℕ) → i < size N → Head N i

-- With the tags: "a used node without children, other than the root, has a tag; nonzero tags differ"; and with what is counted of them
pub record Sound (parts : ℕ) (N : List ℕ) : Type 0 where
  pub shape : Shape parts N
  pub leaf : (i : ℕ) → Used N i → child N i ≡ 0 → 0 < tag N i
  pub unlike : (i j : ℕ) → i < size N → j < size N → 0 < tag N i → tag N i ≡ tag N j → i ≡ j
  pub tallies : (i : ℕ) → Live N i → tally N i ≡ tags_under N i

------------------------------------------------------------------------
-- Following links: on a table of good shape the walk by first child and next sibling meets every used node once, in listing order

unfoldable pub total : List ℕ → ℕ
total [] = 0
total (x ∷ xs) = x + total xs

-- depth plus label rises along both links, and never comes to this
unfoldable pub reach : List ℕ → ℕ
reach N = suc (most_units + total N)

-- how far the walk from a link can go; "link 0 means none"
unfoldable pub rank : List ℕ → ℕ → ℕ
rank N zero = 0
rank N (suc i) = reach N - (depth N (suc i) + label N (suc i))

-- the nodes of the chain that starts at a link, each followed by those below it, at most n links far
unfoldable pub visit : List ℕ → ℕ → ℕ → List ℕ
visit N zero i = []
visit N (suc n) zero = []
visit N (suc n) (suc i) = suc i ∷ visit N n (child N (suc i)) ++ visit N n (next N (suc i))

unfoldable pub walk : List ℕ → ℕ → List ℕ
walk N i = visit N (reach N) i

-- the root, and all that is below it
unfoldable pub walk_all : List ℕ → List ℕ
walk_all N = 0 ∷ walk N (child N 0)

-- The parent links of used nodes lead a step up each, and end at the root
pub record Climb (N : List ℕ) : Type 0 where
  pub root_inside : 0 < size N
  pub no_parent : parent N 0 ≡ 0
  pub no_label : label N 0 ≡ 0
  pub no_depth : depth N 0 ≡ 0
  pub above : (i : ℕ) → Used N i → Live N (parent N i)
  pub deeper : (i : ℕ) → Used N i → depth N i ≡ depth N (parent N i) + 1
  pub rising : (i : ℕ) → Used N i → label N (parent N i) ≤ label N i

-- The links between siblings lead to used nodes with greater labels
pub record Siblings (N : List ℕ) : Type 0 where
  pub no_label : label N 0 ≡ 0
  pub goes : (j : ℕ) → Used N j → Live N (next N j)
  pub rises : (j : ℕ) → Used N j → 0 < next N j → label N j < label N (next N j)

-- Every link of a used node may be followed
pub record Links (N : List ℕ) : Type 0 where
  pub up : Climb N
  pub along : Siblings N
  pub down : (i : ℕ) → i < size N → Live N (child N i)

------------------------------------------------------------------------
-- Tags borne

unfoldable pub bears : List ℕ → ℕ → ℕ → Bool
bears N t i = eqb (tag N i) t

-- some node bears the tag t
unfoldable pub tag_borne : List ℕ → ℕ → Bool
tag_borne N t = anyb (bears N t) (nodes_of N)
