-- Inner: no promise of the house rests on what stands here; inner contracts and proofs speak by it.
-- What a look over a table tells, and what is asked of a table and a row that is to be entered below a node.
use Rattle.std.specs.Prelude.{◌≡◌, true, false, Option, None, Some, List, ◌++◌, ℕ, ◌≤◌, length}
use Rattle.kits.specs.Kits.{most_place}
use Rattle.kits.specs.Inner.{GoodRow}
use Rattle.nodes.specs.Nodes.{free_nodes, row_of}
use Rattle.nodes.specs.Inner.{Live, Shape, tag_borne}
use Rattle.index_insert.specs.Enter.{lowest_free, lacks}
use Rattle.index_insert.specs.declared.FreeNodes.{FreeNodes}

-- what a look over the table tells of its free nodes
pub record HasFree (N : List ℕ) (f : FreeNodes) : Type 0 where
  pub counted : f.count ≡ length (free_nodes N)
  pub is_lowest : f.lowest ≡ lowest_free N

-- a look over the table for the tag t: None where a node bears it; where none does, what there is of free ones
abbrev pub Surveyed : List ℕ → ℕ → Option FreeNodes → Type 0
Surveyed N t None = tag_borne N t ≡ true
Surveyed N t (Some f) = (tag_borne N t ≡ false) × HasFree N f

-- the labels ls can be entered below node p
pub record Enters (parts : ℕ) (N : List ℕ) (p : ℕ) (ls : List ℕ) : Type 0 where
  pub shape : Shape parts N
  pub live : Live N p
  pub row : GoodRow parts (row_of N p ++ ls)
  pub room : lacks N p ls ≤ length (free_nodes N)

-- and the table has none of them
pub record Grows (N : List ℕ) (p : ℕ) (ls : List ℕ) : Type 0 where
  pub enters : Enters most_place N p ls
  pub missing : lacks N p ls ≡ length ls
