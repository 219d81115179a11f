-- Inner: no promise of the house rests on what stands here; inner contracts and proofs speak by it.
-- What each of the writer's functions sets down.
use Rattle.std.specs.Prelude.{◌≡◌, cond, List, [], ◌∷◌, ◌++◌, map, ℕ, ◌+◌, ◌*◌, ◌<◌, eqb, length, take}
use Rattle.ground.specs.Lists.{keep, from}
use Rattle.register.specs.Register.{number_at, parts_of}
use Rattle.kits.specs.Kits.{most_place, list_of}
use Rattle.nodes.specs.Nodes.{tagged, parent, child}
use Rattle.nodes.specs.Nodes as table
use Rattle.nodes.specs.Inner.{Shape, Used, Live, walk}
use Rattle.nodes.specs.Held.{Kit, kit_at, listed}
use Rattle.sheet.specs.Bytes.{in_bytes, two}
use Rattle.sheet.specs.Sheet.{line_bytes, mark, version, number_items, line_items, record_items}
use Rattle.sheet.specs.declared.Sheet.{Sheet}
use Rattle.sheet_write.specs.declared.EndLine.{EndLine}

-- the label row of node i
abbrev pub node_row : List ℕ → ℕ → List ℕ
node_row N i = table.row_of N i

-- mark, version, part count
unfoldable pub head_items : ℕ → List ℕ
head_items parts = mark ++ (two (version parts) ++ two parts)

-- the numbers in n slots from slot k on
unfoldable pub numbers_from : List ℕ → ℕ → ℕ → List ℕ
numbers_from R k n = number_items (map (number_at R) (from k n))

-- the kits that end at some nodes, in the order of the nodes
unfoldable pub kits_at : List ℕ → List ℕ → List Kit
kits_at N is = map (kit_at N) (keep (tagged N) is)

-- their records, where a place takes w bytes
unfoldable pub records_at : ℕ → List ℕ → List ℕ → List ℕ
records_at w N is = record_items w (kits_at N is)

-- the record of node i's own kit, where one ends there; and those of all nodes that the walk from a link meets
abbrev pub own_record : ℕ → List ℕ → ℕ → List ℕ
own_record w N i = records_at w N (i ∷ [])

abbrev pub records_from : ℕ → List ℕ → ℕ → List ℕ
records_from w N i = records_at w N (walk N i)

-- the records of all kits with a unit: those below the root
abbrev pub all_records : ℕ → List ℕ → List ℕ
all_records w N = records_from w N (child N 0)

-- a sheet's counts are those of a register and a node table
pub record Counted (R N : List ℕ) (s : Sheet) : Type 0 where
  pub parts : s.parts ≡ length (parts_of R)
  pub kits : s.kits ≡ length (listed N)

------------------------------------------------------------------------
-- Lines of a row, unit by unit

abbrev pub end_line : ℕ → ℕ → ℕ → EndLine
end_line a p q = record { at = a; place = p; quantity = q }

-- what the root's row ends in
abbrev pub no_line : EndLine
no_line = end_line 0 0 0

-- the bytes of what a row ends in
abbrev pub end_item : ℕ → EndLine → List ℕ
end_item w e = in_bytes w e.place ++ (e.quantity ∷ [])

-- a unit more: the same line again, or the next
unfoldable pub with_unit : EndLine → ℕ → EndLine
with_unit e x = cond (eqb x e.place)
    (record { at = e.at; place = e.place; quantity = e.quantity + 1 })
    (record { at = e.at + 1; place = x; quantity = 1 })

-- the bytes in front of what a row ends in; and that
pub record Carried : Type 0 where
  pub front : List ℕ
  pub end : EndLine

unfoldable pub carry : ℕ → Carried → ℕ → Carried
carry w s x = record { front = cond (eqb x s.end.place) s.front (s.front ++ end_item w s.end); end = with_unit s.end x }

unfoldable pub carry_all : ℕ → Carried → List ℕ → Carried
carry_all w s [] = s
carry_all w s (x ∷ r) = carry_all w (carry w s x) r

abbrev pub carried : ℕ → List ℕ → Carried
carried w r = carry_all w (record { front = []; end = no_line }) r

-- what a row ends in is the same in any width
unfoldable pub end_from : EndLine → List ℕ → EndLine
end_from e [] = e
end_from e (x ∷ r) = end_from (with_unit e x) r

abbrev pub end_of : List ℕ → EndLine
end_of r = end_from no_line r

-- the lines of 64 units, behind the root's, in the widest places
abbrev pub row_bytes : ℕ
row_bytes = 195

-- the lines of node i's row
abbrev pub row_lines : ℕ → List ℕ → ℕ → List ℕ
row_lines w N i = line_items w (list_of (node_row N i))

------------------------------------------------------------------------
-- The walk

-- Lines that stand from the start on as a row has them, but for what it ends in
pub record Stands (w : ℕ) (lines r : List ℕ) : Type 0 where
  pub wide : length lines ≡ row_bytes
  pub front : take ((end_of r).at * line_bytes w) lines ≡ (carried w r).front

-- What stands in front of a place is as it was
pub record Kept (n : ℕ) (lines later : List ℕ) : Type 0 where
  pub wide : length later ≡ length lines
  pub same : take n later ≡ take n lines

-- What is known at a used node: what the rows of the node above it and of itself end in
pub record EndsIn (N : List ℕ) (i : ℕ) (above end : EndLine) : Type 0 where
  pub shape : Shape most_place N
  pub used : Used N i
  pub above_is : above ≡ end_of (node_row N (parent N i))
  pub end_is : end ≡ end_of (node_row N i)

-- And at a link: what the row of the node above ends in, and that its lines stand
pub record Reached (N : List ℕ) (link : ℕ) (above : EndLine) : Type 0 where
  pub shape : Shape most_place N
  pub live : Live N link
  pub above_is : 0 < link → above ≡ end_of (node_row N (parent N link))

abbrev pub StandsAbove : ℕ → List ℕ → ℕ → List ℕ → Type 0
StandsAbove w N link lines = 0 < link → Stands w lines (node_row N (parent N link))
