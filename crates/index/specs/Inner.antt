-- Inner: no promise of the house rests on what stands here; inner contracts and proofs speak by it.
-- How far down a table has a row, and find, insert and delete of a row in a sound table.
use Rattle.std.specs.Prelude.{◌≡◌, List, ℕ, Option, None, Some, ◌≤◌, ◌<◌, length, take, drop}
use Rattle.ground.specs.Calls.{Plan, plan}
use Rattle.nodes.specs.Nodes.{depth, row_of}
use Rattle.nodes.specs.Inner.{Live}
use Rattle.nodes.specs.Held.{held, tag_in}
use Rattle.index_links.specs.Links.{node_of}
use Rattle.index_insert.specs.Enter.{enter_below, enter, lacks}
use Rattle.index_delete.specs.Strike.{strike}
use Rattle.index.specs.Index.{entry_refusals, missing_refusals}

------------------------------------------------------------------------
-- How far down a table has a row

-- the way down a row has come to node p, at depth d
pub record Going (N r : List ℕ) (p d : ℕ) : Type 0 where
  pub live : Live N p
  pub deep : depth N p ≡ d
  pub short : d ≤ length r
  pub is : row_of N p ≡ take d r
  pub enters : (t : ℕ) → enter_below N 0 r t ≡ enter_below N p (drop d r) t
  pub lacking : lacks N 0 r ≡ lacks N p (drop d r)
  pub ending : node_of N 0 r ≡ node_of N p (drop d r)

-- p is the deepest node whose row begins r
pub record Deepest (N r : List ℕ) (p : ℕ) : Type 0 where
  pub going : Going N r p (depth N p)
  pub missing : lacks N p (drop (depth N p) r) ≡ length (drop (depth N p) r)

-- a row's tag, None where the row is not held
abbrev pub TagOf : List ℕ → List ℕ → Option ℕ → Type 0
TagOf r N None = tag_in r (held N) ≡ 0
TagOf r N (Some t) = (t ≡ tag_in r (held N)) × (0 < t)

------------------------------------------------------------------------
-- "Insert list and tag: nodes newly taken. Find a list, delete a list: its tag", over a row of units

-- "nodes newly taken"
unfoldable pub inserting_row : List ℕ → ℕ → List ℕ → Plan (List ℕ)
inserting_row r t N = plan (entry_refusals r t N) (lacks N 0 r) (enter N r t)

-- "its tag"
unfoldable pub finding_row : List ℕ → List ℕ → Plan (List ℕ)
finding_row r N = plan (missing_refusals r N) (tag_in r (held N)) N

unfoldable pub deleting_row : List ℕ → List ℕ → Plan (List ℕ)
deleting_row r N = plan (missing_refusals r N) (tag_in r (held N)) (strike N r)
