-- Document 01, "Insertion takes missing nodes from shallow to deep, each the lowest numbered free one", word for word.
use Rattle.std.specs.Prelude.{cond, List, [], ◌∷◌, ℕ, length, set}
use Rattle.ground.specs.Lists.{first_or, is_zero}
use Rattle.nodes.specs.Nodes.{at, tag_word, size, nodes_of, is_free}
use Rattle.nodes.specs.Held.{Kit}
use Rattle.index_links.specs.Links.{child_with, node_of, link, one_more, recount}

-- [6.1] the lowest numbered free node; where there is none, the number of nodes
unfoldable pub lowest_free : List ℕ → ℕ
lowest_free N = first_or (size N) (is_free N) (nodes_of N)

-- [6.1] from node p down: the table with the row's missing nodes taken, shallow to deep, and the tag set at its end
unfoldable pub enter_below : List ℕ → ℕ → List ℕ → ℕ → List ℕ
enter_below N p [] t = set N (at p tag_word) t
enter_below N p (l ∷ ls) t =
    let c = child_with N p l in
    let f = lowest_free N in
    enter_below (cond (is_zero c) (link N p l f) N) (cond (is_zero c) f c) ls t

-- [6.3] how many nodes the row lacks below p
unfoldable pub lacks : List ℕ → ℕ → List ℕ → ℕ
lacks N p [] = 0
lacks N p (l ∷ ls) = let c = child_with N p l in cond (is_zero c) (length (l ∷ ls)) (lacks N c ls)

-- [6.7] the kit with the row r and the tag t entered: one more at its end, and at every node above, the root too
unfoldable pub enter : List ℕ → List ℕ → ℕ → List ℕ
enter N r t = let M = enter_below N 0 r t in recount one_more M (length r) (node_of M 0 r)

-- [12.17] kits entered one after the other
unfoldable pub enter_all : List ℕ → List Kit → List ℕ
enter_all N [] = N
enter_all N (k ∷ ks) = enter_all (enter N k.row k.tag) ks
