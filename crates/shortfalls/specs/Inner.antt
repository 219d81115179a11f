-- Inner: no promise of the house rests on what stands here; inner contracts and proofs speak by it.
-- What the walk for a shortfall keeps, and the shortfall line by line.
use Rattle.std.specs.Prelude.{◌≡◌, Bool, cond, List, [], ◌∷◌, map, ℕ, ◌+◌, ◌-◌, ◌≤◌, ◌<◌, leb, ltb, eqb, get_or}
use Rattle.ground.specs.Laid.{Put}
use Rattle.kits.specs.Kits.{most_place}
use Rattle.kits.specs.Inner.{quantity}
use Rattle.nodes.specs.Nodes.{parent, tag, row_of}
use Rattle.nodes.specs.Inner.{Live, Shape}
use Rattle.questions.specs.Inner.{found_from, found_in}
use Rattle.shortfalls.specs.Shortfalls.{most_short}
use Rattle.shortfalls.specs.declared.Passed.{Passed}

------------------------------------------------------------------------
-- A shortfall line by line

-- of each part of the kit's list the quantity beyond the bin's
unfoldable pub lines_short : List ℕ → List ℕ → ℕ
lines_short bin [] = 0
lines_short bin (p ∷ []) = 0
lines_short bin (p ∷ q ∷ l) = (q - quantity bin p) + lines_short bin l

------------------------------------------------------------------------
-- A shortfall label by label: the bin's quantities by place are Q

-- before any label
abbrev pub none_passed : Passed
none_passed = record { last = 0; left = 0; short = 0 }

-- what the bin has left for a label: what it has left of the last one, or all that it has of another
unfoldable pub left_of : List ℕ → ℕ → ℕ → ℕ → ℕ
left_of Q label last left = cond (eqb label last) left (get_or Q label 0)

-- a label more, of which the bin has so many left
unfoldable pub passing : Passed → ℕ → ℕ → Passed
passing p label left = cond (ltb 0 left)
    (record { last = label; left = left - 1; short = p.short })
    (record { last = label; left = 0; short = p.short + 1 })

abbrev pub after : List ℕ → Passed → ℕ → Passed
after Q p label = passing p label (left_of Q label p.last p.left)

-- the labels of a row, one by one
unfoldable pub along : List ℕ → Passed → List ℕ → Passed
along Q p [] = p
along Q p (x ∷ r) = along Q (after Q p x) r

-- the shortfall of a row
unfoldable pub short_in : List ℕ → List ℕ → ℕ
short_in Q r = (along Q none_passed r).short

unfoldable pub almost : List ℕ → ℕ → List ℕ → Bool
almost Q d r = leb (short_in Q r) d

unfoldable pub short_at : List ℕ → List ℕ → ℕ → ℕ
short_at Q N i = short_in Q (row_of N i)

------------------------------------------------------------------------
-- The walk

-- Words set down in two outputs in step
pub record PutBoth (o p : List ℕ) (n : ℕ) (ts ss : List ℕ) (r : ℕ) (o' p' : List ℕ) : Type 0 where
  pub one : Put o n ts r o'
  pub two : Put p n ss r p'

-- The tags and shortfalls of some nodes set down
abbrev pub PutNodes : List ℕ → List ℕ → List ℕ → List ℕ → ℕ → List ℕ → ℕ → List ℕ → List ℕ → Type 0
PutNodes Q N o p n is r o' p' = PutBoth o p n (map (tag N) is) (map (short_at Q N) is) r o' p'

-- Those found on the chain that starts at a link and below it, from n on; and those of the whole table
abbrev pub PutFrom : List ℕ → ℕ → List ℕ → ℕ → List ℕ → List ℕ → ℕ → ℕ → List ℕ → List ℕ → Type 0
PutFrom Q d N at o p n r o' p' = PutNodes Q N o p n (found_from (almost Q d) N at) r o' p'

abbrev pub PutIn : List ℕ → ℕ → List ℕ → List ℕ → List ℕ → ℕ → List ℕ → List ℕ → Type 0
PutIn Q d N o p r o' p' = PutNodes Q N o p 0 (found_in (almost Q d) N) r o' p'

-- What the walk knows at a link: what the row of the node above has made of the labels, and that its shortfall is at most d. So no link is
-- followed from a node whose row has a greater one.
pub record AtLink (N Q : List ℕ) (d at : ℕ) (p : Passed) : Type 0 where
  pub shape : Shape most_place N
  pub live : Live N at
  pub most : d ≤ most_short
  pub few : p.short ≤ d
  pub passed : 0 < at → p ≡ along Q none_passed (row_of N (parent N at))
