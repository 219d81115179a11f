-- Laws of the records of nodes and of the numbers in slots.
use mathlib.Core.Path.{◌≡◌, refl, ap, sym, ◌∙◌}
use mathlib.Core.List.{List, [], ◌∷◌, ◌++◌, map, append_assoc, append-nil}
use Prim.Native.Nat.{ℕ, ◌+◌, ◌-◌, ◌*◌, ◌/◌, ◌≤◌, ◌<◌}
use native.Mathlib.Omega.{arith}
use lib.ListN.{length}
use borrow.Author.Tests.{eq-eqb, ne_eqb}
use Rattle.ground.specs.Limits.{byte_limit}
use Rattle.ground.specs.Lists.{keep, concat}
use Rattle.ground.proofs.Laws.{from_step, from_end, map_append}
use Rattle.kits.specs.Kits.{most_units, most_place}
use Rattle.register.specs.Register.{number_at}
use Rattle.nodes.specs.Nodes.{tag, child, next, tagged}
use Rattle.nodes.specs.Inner.{Shape, Used, walk}
use Rattle.nodes.specs.Held.{Kit, kit_at}
use Rattle.nodes.proofs.Sorted.{keep_append}
use Rattle.nodes.proofs.Walk.{walk_none, walk_some}
use Rattle.nodes.proofs.Rows.{row_good}
use Rattle.sheet.specs.Sheet.{line_bytes, lines_at, number_item, number_items, record_item, record_items}
use Rattle.sheet.specs.Inner.{Width, most_record, kit_of, record_bytes}
use Rattle.sheet.proofs.Lines.{record_bytes_lem, record_long}
use Rattle.sheet.proofs.Widths.{lines_most, lines_over}
use Rattle.sheet_write.specs.Inner.{node_row, numbers_from, kits_at, records_at, own_record, records_from, end_of, row_lines}
use Rattle.sheet_write.proofs.Carried.{lines_long, end_few}

-- records one behind the other
records_both : (w : ℕ) (a b : List Kit) → record_items w (a ++ b) ≡ record_items w a ++ record_items w b
unfolding record_items concat
records_both w [] b = refl
records_both w (k ∷ a) b = rw (append_assoc) (ap (λ (x : List ℕ). record_item w k ++ x) (records_both w a b))

module _ (w : ℕ) (N : List ℕ) where
  pub records_append : (a b : List ℕ) → records_at w N (a ++ b) ≡ records_at w N a ++ records_at w N b
  unfolding records_at kits_at
  records_append a b =
      rw (keep_append (tagged N) a b, map_append (kit_at N) (keep (tagged N) a) (keep (tagged N) b))
      (records_both w (map (kit_at N) (keep (tagged N) a)) (map (kit_at N) (keep (tagged N) b)))

  pub records_none : records_at w N [] ≡ []
  unfolding records_at kits_at record_items keep concat
  records_none = refl

  pub own_none : (i : ℕ) → tag N i ≡ 0 → own_record w N i ≡ []
  unfolding records_at kits_at record_items keep concat tagged
  own_none i e = rw (eq-eqb (tag N i) 0 e)

  pub own_some : (i : ℕ) → (tag N i ≡ 0 → ⊥) → own_record w N i ≡ record_item w (kit_of (node_row N i) (tag N i))
  unfolding records_at kits_at record_items keep concat tagged kit_at
  own_some i f = rw (ne_eqb (tag N i) 0 f) (append-nil (record_item w (kit_of (node_row N i) (tag N i))))

  module _ (S : Shape most_place N) where
    pub from_none : records_from w N 0 ≡ []
    from_none = ap (records_at w N) (walk_none S) ∙ records_none

    pub from_some : (i : ℕ) → Used N i → records_from w N i ≡ own_record w N i ++ (records_from w N (child N i) ++ records_from w N (next N i))
    from_some i u =
        ap (records_at w N) (walk_some S i u) ∙ records_append (i ∷ []) (walk N (child N i) ++ walk N (next N i))
        ∙ ap (λ (x : List ℕ). own_record w N i ++ x) (records_append (walk N (child N i)) (walk N (next N i)))

-- the numbers in slots
pub numbers_step : (R : List ℕ) (n k : ℕ) → k < n →
    numbers_from R k (n - k) ≡ number_item (number_at R k) ++ numbers_from R (k + 1) (n - (k + 1))
unfolding numbers_from number_items concat
numbers_step R n k h = rw (from_step n k h)

pub numbers_end : (R : List ℕ) (n k : ℕ) → n ≤ k → numbers_from R k (n - k) ≡ []
unfolding numbers_from number_items concat
numbers_end R n k h = rw (from_end n k h)

pub number_size : (n : List ℕ) → length (number_item n) ≡ 1 + length n
unfolding number_item
number_size n = omega arith

-- a node's own record, of the tag that was read
module _ (N : List ℕ) (S : Shape most_place N) (i : ℕ) (u : Used N i) where
  pub row_few : (end_of (node_row N i)).at ≤ most_units
  row_few = omega (arith, (end_few (node_row N i)).0, (row_good S i (λ _. u)).short)

  module _ {w : ℕ} (h : Width w) where
    pub own_record_lem : (t : ℕ) → t ≡ tag N i → (t ≡ 0 → ⊥) → record_bytes w t (row_lines w N i) ≡ own_record w N i
    own_record_lem t e f = rw e (record_bytes_lem w (node_row N i) (tag N i) (row_good S i (λ _. u)) h ∙ sym (own_some w N i (λ z. f (e ∙ z))))

    pub row_long : length (row_lines w N i) ≡ (end_of (node_row N i)).at * line_bytes w
    row_long = lines_long w (node_row N i) (row_good S i (λ _. u))

    -- whose lines are as many as its row has
    pub row_count : {ls : List ℕ} → ls ≡ row_lines w N i → length ls / line_bytes w < byte_limit
    row_count {ls} e =
        let n : length ls / line_bytes w ≡ (end_of (node_row N i)).at =
        ap (λ (n : ℕ). n / line_bytes w) (ap length e ∙ row_long) ∙ lines_over h (end_of (node_row N i)).at in
        omega (arith, n, row_few)

    pub row_most : lines_at + (end_of (node_row N i)).at * line_bytes w ≤ most_record
    row_most = omega (arith, lines_most h (end_of (node_row N i)).at most_units row_few)

    pub own_length : (t : ℕ) → t ≡ tag N i → (t ≡ 0 → ⊥) → length (own_record w N i) ≡ lines_at + (end_of (node_row N i)).at * line_bytes w
    own_length t e f =
        omega (arith, ap length (own_record_lem t e f), record_long w t (row_lines w N i), row_long)
