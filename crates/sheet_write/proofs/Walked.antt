-- The walk of the writer: what it knows at each node, and takes along to the next.
use mathlib.Core.Path.{◌≡◌, ap, ap₂, sym, ◌∙◌}
use mathlib.Core.List.{List, [], ◌∷◌, ◌++◌}
use Prim.Native.Nat.{ℕ, ◌+◌, ◌-◌, ◌*◌, ◌≤◌, ◌<◌}
use native.Mathlib.Nat.{mul-le-mul_right}
use native.Mathlib.Omega.{arith}
use lib.ListN.{length, take, drop, length-append}
use Rattle.ground.specs.Laid.{laid}
use Rattle.kits.specs.Kits.{most_place, most_units}
use Rattle.kits.specs.Inner.{GoodRow}
use Rattle.nodes.specs.Nodes.{parent, child, next, label, size}
use Rattle.nodes.specs.Inner.{Used, Shape, rank}
use Rattle.nodes.proofs.Rows.{climb, row_root, row_step, row_good}
use Rattle.nodes.proofs.Walk.{root_inside, root_child, child_live, child_less, next_less}
use Rattle.sheet.specs.Sheet.{line_bytes}
use Rattle.sheet.specs.Inner.{Width}
use Rattle.sheet_write.specs.declared.EndLine.{EndLine}
use Rattle.sheet_write.specs.Inner.{node_row, own_record, records_from, no_line, end_item, with_unit, carry_all, end_from, end_of, row_bytes, row_lines}
use Rattle.sheet_write.specs.Inner.{Stands, Kept, EndsIn, Reached, StandsAbove}
use Rattle.sheet_write.proofs.Carried.{start_of, next_line, end_few, end_next, end_on}
use Rattle.sheet_write.proofs.Carried.{above_fits, end_fits, both_stands, both_kept, both_lines, kept_stands}
use Rattle.sheet_write.proofs.Records.{from_none, from_some}

-- A used node: two lines set down make the lines of its row
module _ {N : List ℕ} {i : ℕ} {above end : EndLine} (E : EndsIn N i above end) where
  row_is : node_row N i ≡ node_row N (parent N i) ++ (label N i ∷ [])
  row_is = row_step (climb E.shape) i E.used

  row_fine : GoodRow most_place (node_row N i)
  row_fine = row_good E.shape i (λ _. E.used)

  pub end_most : end.at ≤ most_units
  end_most = rw E.end_is (omega (arith, (end_few (node_row N i)).0, row_fine.short))

  pub further : (w : ℕ) → start_of w above ≤ start_of w end
  further w =
      mul-le-mul_right (line_bytes w) (rw (E.above_is, E.end_is, row_is) (end_on (node_row N (parent N i)) (label N i)).0)

  module _ {w : ℕ} (h : Width w) {lines : List ℕ} (S : Stands w lines (node_row N (parent N i))) where
    pub above_room : (start_of w above + line_bytes w ≤ length lines) × (above.quantity < 256)
    above_room = above_fits h (label N i) row_is E.above_is E.end_is S row_fine.short

    pub end_room : (once : List ℕ) → length once ≡ length lines → (start_of w end + line_bytes w ≤ length once) × (end.quantity < 256)
    end_room once e = rw e (end_fits h (label N i) row_is E.above_is E.end_is S row_fine.short)

    module _ {once twice : List ℕ} (first : once ≡ laid lines (start_of w above) (end_item w above))
        (second : twice ≡ laid once (start_of w end) (end_item w end)) where
      both_are : twice ≡ laid (laid lines (start_of w above) (end_item w above)) (start_of w end) (end_item w end)
      both_are = second ∙ ap (λ (l : List ℕ). laid l (start_of w end) (end_item w end)) first

      pub own_stands : Stands w twice (node_row N i)
      own_stands = rw both_are (both_stands h (label N i) row_is E.above_is E.end_is S row_fine.short)

      pub above_kept : Kept (start_of w above) lines twice
      above_kept = rw both_are (both_kept h (label N i) row_is E.above_is E.end_is S row_fine.short)

      pub own_lines : take ((end.at + 1) * line_bytes w - line_bytes w) (drop (line_bytes w) twice) ≡ row_lines w N i
      own_lines =
          let e : (end.at + 1) * line_bytes w - line_bytes w ≡ start_of w end = omega (arith, next_line w end.at) in
          rw (both_are, e) (both_lines h (label N i) row_is E.above_is E.end_is S row_fine.short row_fine)

-- A link: none, or to a node; the walk along a chain has come to it from another
pub record Along (N : List ℕ) (link i : ℕ) (above : EndLine) : Type 0 where
  pub reached : Reached N i above
  pub later : rank N i ≤ rank N link

pub along_start : {N : List ℕ} {i : ℕ} {above : EndLine} → Reached N i above → Along N i i above
along_start R = record { reached = R; later = omega arith }

pub none_from : (w : ℕ) {N : List ℕ} {i : ℕ} {above : EndLine} → Reached N i above → i ≡ 0 → records_from w N i ≡ []
none_from w {N} R e = ap (records_from w N) e ∙ from_none w N R.shape

module _ {N : List ℕ} {i : ℕ} {above : EndLine} (R : Reached N i above) (n : (i ≡ 0 → ⊥)) where
  there : 0 < i
  there = omega arith

  pub here : Used N i
  here = R.live there

  pub in_table : i < size N
  in_table = here.inside

  above_short : length (node_row N (parent N i)) ≤ most_units
  above_short = (row_good R.shape (parent N i) (R.shape.good i here).above).short

  pub may_add : (above.at ≤ most_units) × (above.quantity ≤ most_units)
  may_add =
      let h = end_few (node_row N (parent N i)) in
      rw (R.above_is there) (omega (arith, h.0, above_short), omega (arith, h.1, above_short))

  to_next : {m : ℕ} → m ≡ next N i → Reached N m above
  to_next e = rw e (record {
    shape = R.shape;
    live = (R.shape.good i here).sibling;
    above_is = λ g. R.above_is there ∙ ap (λ j. end_of (node_row N j)) (sym ((R.shape.good i here).same g));
  })

  pub next_stands : {w m : ℕ} {lines : List ℕ} → m ≡ next N i → Stands w lines (node_row N (parent N i)) → StandsAbove w N m lines
  next_stands e s = rw e (λ g. rw ((R.shape.good i here).same g) s)

  pub still_stands : {w : ℕ} {lines later : List ℕ} → Kept (start_of w above) lines later → Stands w lines (node_row N (parent N i)) →
      Stands w later (node_row N (parent N i))
  still_stands h s = kept_stands (rw (R.above_is there) at h) s

  pub above_stands : {w : ℕ} {lines : List ℕ} → StandsAbove w N i lines → Stands w lines (node_row N (parent N i))
  above_stands s = s there

  -- what is below it and what is behind it
  pub child_falls : {k : ℕ} → k ≡ child N i → rank N k < rank N i
  child_falls e = rw e (child_less R.shape i here)

  pub next_falls : {m : ℕ} → m ≡ next N i → rank N m < rank N i
  next_falls e = rw e (next_less R.shape i here)

  module _ (w : ℕ) {k m : ℕ} (k-is : k ≡ child N i) (m-is : m ≡ next N i) where
    pub parts_are : records_from w N i ≡ own_record w N i ++ (records_from w N k ++ records_from w N m)
    parts_are = rw (k-is, m-is) (from_some w N R.shape i here)

    pub parts_long : length (records_from w N i) ≡ length (own_record w N i) + (length (records_from w N k) + length (records_from w N m))
    parts_long =
        omega (
          arith,
          ap length parts_are,
          length-append (own_record w N i) (records_from w N k ++ records_from w N m),
          length-append (records_from w N k) (records_from w N m),
        )

  -- with its label
  module _ {l : ℕ} {end : EndLine} (l_is : l ≡ label N i) (e-is : end ≡ with_unit above l) where
    pub ends : EndsIn N i above end
    ends = record {
      shape = R.shape;
      used = here;
      above_is = R.above_is there;
      end_is =
          e-is ∙ ap₂ with_unit (R.above_is there) l_is ∙ sym (end_next (node_row N (parent N i)) (label N i))
          ∙ ap end_of (sym (row_step (climb R.shape) i here));
    }

    pub to_child : {k : ℕ} → k ≡ child N i → Reached N k end
    to_child e = rw e (record {
      shape = R.shape;
      live = child_live R.shape i in_table;
      above_is = λ g. ends.end_is ∙ ap (λ j. end_of (node_row N j)) (sym ((R.shape.head i in_table).back g));
    })

    pub child_stands : {w k : ℕ} {lines : List ℕ} → k ≡ child N i → Stands w lines (node_row N i) → StandsAbove w N k lines
    child_stands e s = rw e (λ g. rw ((R.shape.head i in_table).back g) s)

-- the next on the chain
pub along_next : {N : List ℕ} {link i m : ℕ} {above : EndLine} (A : Along N link i above) → (i ≡ 0 → ⊥) → m ≡ next N i → Along N link m above
along_next A n e = record { reached = to_next A.reached n e; later = omega (arith, A.later, next_falls A.reached n e) }

-- The root
module _ {N : List ℕ} (S : Shape most_place N) where
  root_row : node_row N 0 ≡ []
  root_row = row_root (climb S)

  root_end : {e : EndLine} → e ≡ no_line → e ≡ end_of (node_row N 0)
  unfolding end_from
  root_end e = e ∙ ap end_of (sym root_row)

  pub root_reached : {k : ℕ} {e : EndLine} → k ≡ child N 0 → e ≡ no_line → Reached N k e
  root_reached k-is e = rw k-is (record {
    shape = S;
    live = root_child S;
    above_is = λ g. root_end e ∙ ap (λ j. end_of (node_row N j)) (sym ((S.head 0 (root_inside S)).back g));
  })

  pub root_stands : {w k : ℕ} {lines : List ℕ} → k ≡ child N 0 → length lines ≡ row_bytes → StandsAbove w N k lines
  unfolding carry_all end_from
  root_stands {w} {k} {lines} k-is e =
      let z : 0 * line_bytes w ≡ 0 = omega arith in
      rw k-is (λ g. rw ((S.head 0 (root_inside S)).back g, root_row) (record { wide = e; front = ap (λ (n : ℕ). take n lines) z }))
