-- Inner: no promise of the house rests on what stands here; inner contracts and proofs speak by it.
-- Kits entered in listing order into a table that was zeroed: what is known of the table between two of them, and where the next one goes.
use Rattle.std.specs.Prelude.{◌≡◌, false, List, ℕ, ◌-◌, ◌≤◌, ◌<◌, length, get_or}
use Rattle.kits.specs.Kits.{most_place, before}
use Rattle.kits.specs.Inner.{agreed}
use Rattle.nodes.specs.Nodes.{most_nodes, parent, child, next, label, tally, size, row_of}
use Rattle.nodes.specs.Inner.{Used}
use Rattle.index_insert.specs.Inner.{Enters, Grows}

-- the nodes below n are used, and no others
pub record Packed (N : List ℕ) (n : ℕ) : Type 0 where
  pub some : 0 < n
  pub few : n ≤ size N
  pub used : (i : ℕ) → 0 < i → i < n → 0 < label N i
  pub free : (i : ℕ) → n ≤ i → i < size N → label N i ≡ 0

-- no sibling comes behind the node, nor behind one above it
pub data Edge (N : List ℕ) : ℕ → Type 0 where
  top : Edge N 0
  below : {i : ℕ} → Used N i → next N i ≡ 0 → Edge N (parent N i) → Edge N i

-- the row was entered last, and behind all others: its end is the node taken last
pub record LastEntered (N : List ℕ) (n : ℕ) (row : List ℕ) : Type 0 where
  pub packed : Packed N n
  pub edge : Edge N (n - 1)
  pub lone : child N (n - 1) ≡ 0
  pub is : row_of N (n - 1) ≡ row

-- b is p's last child, with a label below l; where b is 0, p has none
pub record LastChild (N : List ℕ) (p b l : ℕ) : Type 0 where
  pub none : b ≡ 0 → child N p ≡ 0
  pub used : 0 < b → Used N b
  pub mine : 0 < b → parent N b ≡ p
  pub last : 0 < b → next N b ≡ 0
  pub less : 0 < b → label N b < l

-- a row can be entered that is not before the one entered last, in a table whose first n nodes are used
pub record Appendable (N : List ℕ) (n : ℕ) (last row : List ℕ) : Type 0 where
  pub enters : Enters most_place N 0 row
  pub entered : LastEntered N n last
  pub order : before row last ≡ false
  pub few : (j : ℕ) → tally N j ≤ most_nodes

-- and agrees with that one in the first k places, not further
pub record Agrees (N : List ℕ) (n : ℕ) (row : List ℕ) (k : ℕ) : Type 0 where
  pub appendable : Appendable N n (row_of N (n - 1)) row
  pub same : k ≡ agreed (row_of N (n - 1)) row
  pub inside : k ≤ length row

-- the labels ls can be entered below p, behind its child b, with the nodes from n on
pub record Appends (N ls : List ℕ) (p b n : ℕ) : Type 0 where
  pub packed : Packed N n
  pub edge : Edge N p
  pub grows : Grows N p ls
  pub behind : LastChild N p b (get_or ls 0 0)
  pub left : 0 < b → 0 < length ls
  pub home : b ≡ 0 → p ≡ n - 1
