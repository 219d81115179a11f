-- Up from the end of the row entered last: where the new row leaves it.
use mathlib.Core.Path.{◌≡◌, refl, sym, ap, ap₂, subst, ◌∙◌}
use mathlib.Core.Logic.{⊎_elim, ◌≢◌}
use mathlib.Core.Bool.{false, false≢true, ◌&&◌}
use mathlib.Core.List.{List, [], ◌∷◌, ◌++◌, append_assoc, append-nil}
use Prim.Native.Nat.{ℕ, suc, ◌+◌, ◌-◌, ◌≤◌, ◌<◌}
use native.Mathlib.Omega.{arith}
use lib.ListN.{length, get_or, take, drop, length-drop, drop_of_length-le, take-append-drop}
use lib.Seq.{get_or-drop, drop-cons, take-append_seam}
use native.Mathlib.Nat.{add-zero}
use lib.Dec.{ltb, eqb}
use borrow.Author.Tests.{eq-eqb, ltb-false}
use Rattle.ground.proofs.Laws.{or_left, le_or}
use Rattle.kits.specs.Kits.{most_place, before}
use Rattle.kits.specs.Inner.{GoodRow, agreed}
use Rattle.kits.proofs.Order.{before_along, agreed_same}
use Rattle.kits.proofs.Rows.{agreed_left, agreed_right}
use Rattle.nodes.specs.Nodes.{parent, child, next, label, depth, size, row_of}
use Rattle.nodes.specs.Inner.{Used, Live, Shape}
use Rattle.nodes.proofs.Rows.{climb, live_inside, row_root, row_step, row_length}
use Rattle.index_insert.specs.Enter.{enter_below, lacks}
use Rattle.index_insert.proofs.Entered.{lacks_new, lacks_none}
use Rattle.index_append.specs.Inner.{Edge, top, below, LastEntered, LastChild, Appendable, Agrees, Appends}
use Rattle.index_append.proofs.Places.{behind_new, enter_down, lacks_down, edge_live}

-- a row that is not before another and does not go on as it does has a greater label
departed_greater : (rest under tail : List ℕ) (y : ℕ) → before rest under ≡ false → under ≡ y ∷ tail →
    ((ls : List ℕ) → rest ≡ y ∷ ls → ⊥) → (0 < length rest) × (y < get_or rest 0 0)
unfolding before
departed_greater [] under tail y e u n = absurd (false≢true (sym e ∙ ap (before []) u))
departed_greater (l ∷ ls) under tail y e u n =
    let h : y ≤ l = ltb-false l y (or_left (ltb l y) (eqb l y && before ls tail) (ap (before (l ∷ ls)) (sym u) ∙ e)) in
    let d : l ≢ y = λ q. n ls (ap (λ (x : ℕ). x ∷ ls) q) in
    (omega arith, omega arith)

-- a common beginning counts whole
agreed_common : (m a b : List ℕ) → agreed (m ++ a) (m ++ b) ≡ length m + agreed a b
unfolding agreed
agreed_common [] a b = omega arith
agreed_common (x ∷ m) a b = rw (eq-eqb x x refl) (omega (arith, agreed_common m a b))

agreed_more : (y : ℕ) (a b : List ℕ) → 0 < agreed (y ∷ a) (y ∷ b)
unfolding agreed
agreed_more y a b = rw (eq-eqb y y refl) (omega arith)

-- b is the node of the last path that the row has not
record Turn (N : List ℕ) (p b : ℕ) (under : List ℕ) : Type 0 where
  used : Used N b
  mine : parent N b ≡ p
  last : next N b ≡ 0
  tail : List ℕ
  is : under ≡ label N b ∷ tail

-- up the path of e as far as p, which is at depth k or deeper; b is the node below p
pub record Climbing (N : List ℕ) (e k p b : ℕ) : Type 0 where
  pub edge : Edge N p
  pub high : k ≤ depth N p
  under : List ℕ
  last_row : row_of N e ≡ row_of N p ++ under
  whole : b ≡ 0 → p ≡ e
  turn : 0 < b → Turn N p b under

record EdgeStep (N : List ℕ) (i : ℕ) : Type 0 where
  used : Used N i
  last : next N i ≡ 0
  edge : Edge N (parent N i)

edge_step : {N : List ℕ} {i : ℕ} → Edge N i → (i ≡ 0 → ⊥) → EdgeStep N i
edge_step top h = absurd (h refl)
edge_step (below u z e) h = record { used = u; last = z; edge = e }

module _ {N row : List ℕ} {n k : ℕ} (R : Agrees N n row k) where
  abbrev A : Appendable N n (row_of N (n - 1)) row
  A = R.appendable

  abbrev S : Shape most_place N
  S = A.enters.shape

  pub climb_start : Climbing N (n - 1) k (n - 1) 0
  climb_start = record {
    edge = A.entered.edge;
    high =
        omega (
          arith,
          R.same,
          agreed_left (row_of N (n - 1)) row,
          row_length (climb S) (n - 1) (edge_live S A.entered.edge),
        );
    under = [];
    last_row = sym (append-nil (row_of N (n - 1)));
    whole = λ _. refl;
    turn = λ g. absurd (omega arith);
  }

  module _ {p b : ℕ} (C : Climbing N (n - 1) k p b) where
    p_live : Live N p
    p_live = edge_live S C.edge

    pub climb_home : p < size N
    climb_home = live_inside (climb S) p p_live

    module _ (h : k < depth N p) where
      below_root : p ≡ 0 → ⊥
      below_root z = omega (arith, ap (depth N) z, S.root.no_depth)

      abbrev up : EdgeStep N p
      up = edge_step C.edge below_root

      pub climb_on : {q : ℕ} → q ≡ parent N p → Climbing N (n - 1) k q p
      climb_on e = rw e (record {
        edge = up.edge;
        high = omega (arith, (S.good p up.used).deeper);
        under = label N p ∷ C.under;
        last_row =
            C.last_row ∙ ap (λ (r : List ℕ). r ++ C.under) (row_step (climb S) p up.used)
            ∙ append_assoc (row_of N (parent N p)) (label N p ∷ []) C.under;
        whole = λ z. absurd (below_root z);
        turn = λ _. record { used = up.used; mine = refl; last = up.last; tail = C.under; is = refl };
      })

    module _ (h : depth N p ≤ k) where
      long : length (row_of N p) ≡ k
      long = row_length (climb S) p p_live ∙ omega (arith, C.high)

      fork_is : row_of N p ++ drop k row ≡ row
      fork_is =
          let a : row_of N p ≡ take k (row_of N (n - 1)) =
          sym (take-append_seam (row_of N p) C.under) ∙ ap₂ take long (sym C.last_row) in
          let s : take k (row_of N (n - 1)) ≡ take k row = rw R.same (agreed_same (row_of N (n - 1)) row) in
          ap (λ (r : List ℕ). r ++ drop k row) (a ∙ s) ∙ take-append-drop k row

      after : before (drop k row) C.under ≡ false
      after =
          sym (before_along (row_of N p) (drop k row) C.under) ∙ ap₂ before fork_is (sym C.last_row) ∙ A.order

      -- the row does not go on as the last one
      other : (y : ℕ) (tail ls : List ℕ) → C.under ≡ y ∷ tail → drop k row ≡ y ∷ ls → ⊥
      other y tail ls u e =
          let a : agreed (row_of N (n - 1)) row ≡ length (row_of N p) + agreed (y ∷ tail) (y ∷ ls) =
          ap₂ agreed (C.last_row ∙ ap (λ (r : List ℕ). row_of N p ++ r) u) (sym fork_is ∙ ap (λ (r : List ℕ). row_of N p ++ r) e)
          ∙ agreed_common (row_of N p) (y ∷ tail) (y ∷ ls) in
          omega (arith, a, R.same, long, agreed_more y tail ls)

      greater : 0 < b → (k < length row) × (label N b < get_or row k 0)
      greater g =
          let T : Turn N p b C.under = C.turn g in
          let w = departed_greater (drop k row) C.under T.tail (label N b) after T.is (λ ls. other (label N b) T.tail ls T.is) in
          let i : k < length row = omega (arith, w.0, length-drop k row) in
          let c : get_or (drop k row) 0 0 ≡ get_or row k 0 = ap (λ (r : List ℕ). get_or r 0 0) (drop-cons row k 0 i) in
          (i, omega (arith, w.1, c))

      -- the labels left, from the first one on
      first_left : get_or (drop k row) 0 0 ≡ get_or row k 0
      first_left = get_or-drop k row 0 0 ∙ ap (λ (j : ℕ). get_or row j 0) (add-zero k)

      is_behind : LastChild N p b (get_or row k 0)
      is_behind = record {
        none = λ z. ap (child N) (C.whole z) ∙ A.entered.lone;
        used = λ g. (C.turn g).used;
        mine = λ g. (C.turn g).mine;
        last = λ g. (C.turn g).last;
        less = λ g. (greater g).1;
      }

      lacking : lacks N p (drop k row) ≡ length (drop k row)
      lacking = ⊎_elim
          (λ (i : length row ≤ k). rw (drop_of_length-le row i) (lacks_none N p))
          (λ (i : k < length row). rw (drop-cons row k 0 i)
          (lacks_new N p (get_or row k 0) (drop (suc k) row) (behind_new S climb_home is_behind)))
          (le_or (length row) k)

      pub climb_appends : Appends N (drop k row) p b n
      climb_appends = record {
        packed = A.entered.packed;
        edge = C.edge;
        grows = record {
          enters = record {
            shape = S;
            live = p_live;
            row = subst (GoodRow most_place) (ap (λ (r : List ℕ). r ++ row) (row_root (climb S)) ∙ sym fork_is) A.enters.row;
            room = omega (arith, A.enters.room, lacks_down S p p_live (drop k row), ap (lacks N 0) fork_is);
          };
          missing = lacking;
        };
        behind = rw first_left is_behind;
        left = λ g. omega (arith, (greater g).0, length-drop k row);
        home = C.whole;
      }

      pub climb_enters : {M : List ℕ} (t : ℕ) → M ≡ enter_below N p (drop k row) t → M ≡ enter_below N 0 row t
      climb_enters t m = m ∙ sym (enter_down S t p p_live (drop k row)) ∙ ap (λ (r : List ℕ). enter_below N 0 r t) fork_is

      pub climb_last : {M : List ℕ} {r : ℕ} → LastEntered M r (row_of N p ++ drop k row) → LastEntered M r row
      climb_last L = rw fork_is at L

-- the row entered last, by its own name
pub agrees_own : {N last row : List ℕ} {n k : ℕ} → Appendable N n last row → k ≡ agreed last row → Agrees N n row k
agrees_own {N} {last} {row} {n} A e =
    let i : last ≡ row_of N (n - 1) = sym A.entered.is in
    record {
      appendable = subst (λ (l : List ℕ). Appendable N n l row) i A;
      same = e ∙ ap (λ (l : List ℕ). agreed l row) i;
      inside = omega (arith, e, agreed_right last row);
    }
