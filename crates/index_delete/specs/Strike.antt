-- Document 01, "Deletion clears the tag, then from that node upwards zeroes and unlinks each node but the root that has neither tag nor
-- child, and stops at the first that must stay", word for word.
use Rattle.std.specs.Prelude.{◌&&◌, cond, List, ℕ, zero, suc, set}
use Rattle.ground.specs.Lists.{is_zero}
use Rattle.nodes.specs.Nodes.{at, tag_word, parent, child, depth, tag}
use Rattle.index_links.specs.Links.{node_of, unlink, one_less, recount}

-- [6.4] from node i upwards, k nodes at most: each that has neither tag nor child is zeroed and unlinked; the first that must stay ends
-- it
unfoldable pub prune : List ℕ → ℕ → ℕ → List ℕ
prune N zero i = N
prune N (suc k) i = cond (is_zero (tag N i) && is_zero (child N i)) (prune (unlink N i) k (parent N i)) N

-- [6.5, 6.7] the kit that ends at node i struck out: one less there, and at every node above, the root too; a node at depth k has k nodes but
-- the root from it upwards
unfoldable pub strike_at : List ℕ → ℕ → List ℕ
strike_at N i = prune (set (recount one_less N (depth N i) i) (at i tag_word) 0) (depth N i) i

-- [6.4] the kit with the row r struck out
unfoldable pub strike : List ℕ → List ℕ → List ℕ
strike N r = strike_at N (node_of N 0 r)
