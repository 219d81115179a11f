-- Inner: no promise of the house rests on what stands here; inner contracts and proofs speak by it.
-- What tells a sound table word for word; "People enter a kit, see that it was wrong, and delete it at once": what that leaves of the table, over
-- a row of units, and where it ends.
use Rattle.std.specs.Prelude.{◌≡◌, true, List, [], ◌∷◌, ℕ, ◌*◌, length, replicate}
use Rattle.ground.specs.Calls.{done, refused, answer, memory}
use Rattle.nodes.specs.Nodes.{words_per_node, row_of}
use Rattle.nodes.specs.Inner.{Used, Sound}
use Rattle.nodes.specs.Sound.{nodes_sound}
use Rattle.nodes.specs.Held.{held}
use Rattle.index_insert.specs.Enter.{enter}
use Rattle.index_delete.specs.Strike.{strike}
use Rattle.index.specs.Inner.{inserting_row, finding_row, deleting_row}

------------------------------------------------------------------------
-- A sound table is told by the kits that it holds and by the nodes at which their rows stand

-- each node of N is one of M too, with the row that it has in N
pub record KeepsRows (N M : List ℕ) : Type 0 where
  pub used : (i : ℕ) → Used N i → Used M i
  pub rows : (i : ℕ) → Used N i → row_of M i ≡ row_of N i

-- two sound tables of one length that hold the same kits, with their rows at the same nodes, are the same in every word. Proof: proofs/Told,
-- `told_by_rows`
abbrev pub ToldByRows : ℕ → List ℕ → List ℕ → Type 0
ToldByRows parts N M = Sound parts N → Sound parts M → KeepsRows N M → held M ≡ held N → length M ≡ length N → M ≡ N

------------------------------------------------------------------------
-- A kit entered and deleted at once

-- entering a row, and then striking it out, gives back the table in every word. Proof: proofs/Undone, `striking_undoes`
abbrev pub StrikingUndoes : List ℕ → List ℕ → ℕ → Type 0
StrikingUndoes N r t = strike (enter N r t) r ≡ N

-- the table after a row was entered, and after it was deleted next
abbrev pub entering : List ℕ → ℕ → List ℕ → List ℕ
entering r t N = memory (inserting_row r t N) N

abbrev pub deleting_next : List ℕ → ℕ → List ℕ → List ℕ
deleting_next r t N = memory (deleting_row r (entering r t N)) (entering r t N)

-- where insertion accepts a row, deleting it next answers its tag and gives back the table, and finding it then answers 11. Proof:
-- proofs/Undone, `deleted_at_once`
abbrev pub DeletedAtOnce : List ℕ → ℕ → List ℕ → Type 0
DeletedAtOnce r t N =
    (n : ℕ) → answer (inserting_row r t N) ≡ done n →
    (answer (deleting_row r (entering r t N)) ≡ done t) × (deleting_next r t N ≡ N) × (answer (finding_row r (deleting_next r t N)) ≡ refused 11 0)

-- the kit (2), with the tag 6, in a table of three nodes, a line for each: at node 2, behind node 1 that another kit had; and at node 1
abbrev pub behind_a_free_node : List ℕ
behind_a_free_node =
    0 ∷ 2 ∷ 0 ∷ 0 ∷ 0 ∷ 0 ∷ 1
    ∷ 0 ∷ 0 ∷ 0 ∷ 0 ∷ 0 ∷ 0 ∷ 0
    ∷ 0 ∷ 0 ∷ 0 ∷ 2 ∷ 1 ∷ 6 ∷ 1 ∷ []

abbrev pub at_the_first : List ℕ
at_the_first =
    0 ∷ 1 ∷ 0 ∷ 0 ∷ 0 ∷ 0 ∷ 1
    ∷ 0 ∷ 0 ∷ 0 ∷ 2 ∷ 1 ∷ 6 ∷ 1
    ∷ 0 ∷ 0 ∷ 0 ∷ 0 ∷ 0 ∷ 0 ∷ 0 ∷ []

-- The converse does not hold: a kit that is struck out and entered again may stand at other nodes. The smallest case: (1) was entered before
-- (2), and struck out. Proof: proofs/Again, `entered_again`
abbrev pub EnteredAgain : Type 0
EnteredAgain =
    (strike (enter (enter (replicate (3 * words_per_node) 0) (1 ∷ []) 5) (2 ∷ []) 6) (1 ∷ []) ≡ behind_a_free_node)
    × (nodes_sound 2 behind_a_free_node ≡ true)
    × (enter (strike behind_a_free_node (2 ∷ [])) (2 ∷ []) 6 ≡ at_the_first)
    × (behind_a_free_node ≡ at_the_first → ⊥)
