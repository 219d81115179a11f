-- The lines of a row, carried unit by unit: they are those of its list, and what a unit changes of them.
use mathlib.Core.Path.{◌≡◌, refl, ap, sym, ◌∙◌}
use mathlib.Core.Bool.{Bool, true, false, cond}
use mathlib.Core.List.{List, [], ◌∷◌, ◌++◌, append_assoc}
use Prim.Native.Nat.{ℕ, suc, ◌+◌, ◌*◌, ◌≤◌, ◌<◌}
use native.Mathlib.Nat.{suc-mul, mul-le-mul_right}
use native.Mathlib.Numerals.{add-one}
use native.Mathlib.Omega.{arith}
use lib.Dec.{eqb}
use lib.ListN.{length, take, drop, get_or, length-append}
use lib.Seq.{take_at, take_all, take-take, take-add, drop_at, length-take-le}
use borrow.Author.Tests.{eq-eqb, ne_eqb}
use Rattle.ground.specs.Laid.{laid}
use Rattle.ground.proofs.Laid.{length_laid, take_laid}
use Rattle.kits.specs.Kits.{most_units, lines_from, list_of}
use Rattle.kits.specs.Inner.{GoodRow}
use Rattle.sheet.specs.Bytes.{in_bytes}
use Rattle.sheet.specs.Sheet.{line_bytes, line_items}
use Rattle.sheet.specs.Inner.{Width}
use Rattle.sheet.proofs.Numbers.{in_length}
use Rattle.sheet.proofs.Widths.{lines_most}
use Rattle.sheet_write.specs.declared.EndLine.{EndLine}
use Rattle.sheet_write.specs.Inner.{no_line, end_item, with_unit, Carried, carry, carry_all, carried, end_from, end_of, row_bytes, Stands, Kept}

-- What a unit makes of a line
module _ (e : EndLine) (x : ℕ) where
  pub unit_again : x ≡ e.place → record { at = e.at; place = e.place; quantity = e.quantity + 1 } ≡ with_unit e x
  unfolding with_unit
  unit_again h = rw (eq-eqb x e.place h)

  pub unit_new : (x ≡ e.place → ⊥) → record { at = e.at + 1; place = x; quantity = 1 } ≡ with_unit e x
  unfolding with_unit
  unit_new h = rw (ne_eqb x e.place h)

  unit_on : (e.at ≤ (with_unit e x).at) × ((with_unit e x).at ≤ e.at + 1) × ((with_unit e x).quantity ≤ e.quantity + 1)
  unfolding with_unit
  unit_on = go (eqb x e.place)
    where
      go : (b : Bool) →
          let u : EndLine = cond b (record { at = e.at; place = e.place; quantity = e.quantity + 1 }) (record { at = e.at + 1; place = x; quantity = 1 }) in
          (e.at ≤ u.at) × (u.at ≤ e.at + 1) × (u.quantity ≤ e.quantity + 1)
      go true = (omega arith, omega arith, omega arith)
      go false = (omega arith, omega arith, omega arith)

-- What a row ends in
end_few_from : (e : EndLine) (r : List ℕ) → ((end_from e r).at ≤ e.at + length r) × ((end_from e r).quantity ≤ e.quantity + length r)
unfolding end_from
end_few_from e [] = (omega arith, omega arith)
end_few_from e (x ∷ r) =
    let h = end_few_from (with_unit e x) r in
    let u = unit_on e x in
    (omega (arith, h.0, u.1), omega (arith, h.1, u.2))

end_append : (e : EndLine) (a b : List ℕ) → end_from e (a ++ b) ≡ end_from (end_from e a) b
unfolding end_from
end_append e [] b = refl
end_append e (x ∷ a) b = end_append (with_unit e x) a b

pub end_few : (r : List ℕ) → ((end_of r).at ≤ length r) × ((end_of r).quantity ≤ length r)
end_few r = let h = end_few_from no_line r in (omega (arith, h.0), omega (arith, h.1))

module _ (r : List ℕ) (x : ℕ) where
  pub end_next : end_of (r ++ (x ∷ [])) ≡ with_unit (end_of r) x
  unfolding end_from
  end_next = end_append no_line r (x ∷ [])

  pub end_on : ((end_of r).at ≤ (end_of (r ++ (x ∷ []))).at) × ((end_of (r ++ (x ∷ []))).at ≤ (end_of r).at + 1)
  end_on = let u = unit_on (end_of r) x in rw end_next (u.0, u.1)

-- behind some bytes come the others
behind : (l p ls : List ℕ) (k n : ℕ) → k ≤ length l → length p ≡ k → take (k + n) l ≡ p ++ ls → take n (drop k l) ≡ ls
behind l p ls k n h g e =
    sym (drop_at (take k l) (take n (drop k l)) k (length-take-le k l h)) ∙ ap (drop k) (sym (take-add k n l) ∙ e) ∙ drop_at p ls k g

-- Where a place takes w bytes
module _ (w : ℕ) where
  -- where a line begins among those of its row
  abbrev pub start_of : EndLine → ℕ
  start_of e = e.at * line_bytes w

  pub next_line : (n : ℕ) → (n + 1) * line_bytes w ≡ n * line_bytes w + line_bytes w
  next_line n = omega (arith, suc-mul n (line_bytes w))

  -- the lines of a row, and the root's in front of them, have room
  pub line_room : Width w → (n : ℕ) → n ≤ most_units → n * line_bytes w + line_bytes w ≤ row_bytes
  line_room h n k = omega (arith, next_line n, lines_most h (n + 1) 65 (omega arith))

  pub item_long : (e : EndLine) → length (end_item w e) ≡ line_bytes w
  item_long e = length-append (in_bytes w e.place) (e.quantity ∷ []) ∙ (omega (arith, in_length w e.place))

  -- A unit more of all that is carried, whose front is as long as its end says
  module _ (s : Carried) (x : ℕ) (h : length s.front ≡ start_of s.end) where
    step_long : length (carry w s x).front ≡ start_of (with_unit s.end x)
    unfolding carry with_unit
    step_long = go (eqb x s.end.place)
      where
        go : (b : Bool) → length (cond b s.front (s.front ++ end_item w s.end))
            ≡ (let u : EndLine = cond b (record { at = s.end.at; place = s.end.place; quantity = s.end.quantity + 1 })
            (record { at = s.end.at + 1; place = x; quantity = 1 }) in start_of u)
        go true = h
        go false = length-append s.front (end_item w s.end) ∙ (omega (arith, h, item_long s.end, next_line s.end.at))

    -- its front is cut off what was carried
    step_front : (carry w s x).front ≡ take (start_of (with_unit s.end x)) (s.front ++ end_item w s.end)
    unfolding carry with_unit
    step_front = go (eqb x s.end.place)
      where
        go : (b : Bool) → cond b s.front (s.front ++ end_item w s.end) ≡ take
            (let u : EndLine = cond b (record { at = s.end.at; place = s.end.place; quantity = s.end.quantity + 1 })
            (record { at = s.end.at + 1; place = x; quantity = 1 }) in start_of u) (s.front ++ end_item w s.end)
        go true = sym (take_at s.front (end_item w s.end) (start_of s.end) h)
        go false = sym (take_all ((s.end.at + 1) * line_bytes w) (s.front ++ end_item w s.end)
            (omega (arith, h, length-append s.front (end_item w s.end), item_long s.end, next_line s.end.at)))

  all_end : (s : Carried) (r : List ℕ) → (carry_all w s r).end ≡ end_from s.end r
  unfolding carry_all carry end_from
  all_end s [] = refl
  all_end s (x ∷ r) = all_end (carry w s x) r

  all_long : (s : Carried) (r : List ℕ) → length s.front ≡ start_of s.end → length (carry_all w s r).front ≡ start_of (end_from s.end r)
  unfolding carry_all carry end_from
  all_long s [] h = h
  all_long s (x ∷ r) h = all_long (carry w s x) r (step_long s x h)

  all_append : (s : Carried) (a b : List ℕ) → carry_all w s (a ++ b) ≡ carry_all w (carry_all w s a) b
  unfolding carry_all
  all_append s [] b = refl
  all_append s (x ∷ a) b = all_append (carry w s x) a b

  -- front and end together are the bytes of the lines
  step_bytes : (s : Carried) (x : ℕ) (r : List ℕ) →
      (carry w s x).front ++ line_items w (lines_from (carry w s x).end.place (carry w s x).end.quantity r)
      ≡ s.front ++ line_items w (lines_from s.end.place s.end.quantity (x ∷ r))
  unfolding carry with_unit lines_from line_items
  step_bytes s x r = go (eqb x s.end.place)
    where
      go : (b : Bool) →
          let p = s.end.place in
          let q = s.end.quantity in
          let u : EndLine = cond b (record { at = s.end.at; place = p; quantity = q + 1 }) (record { at = s.end.at + 1; place = x; quantity = 1 }) in
          cond b s.front (s.front ++ end_item w s.end) ++ line_items w (lines_from u.place u.quantity r)
          ≡ s.front ++ line_items w (cond b (lines_from p (suc q) r) (p ∷ q ∷ lines_from x 1 r))
      go true = rw (add-one s.end.quantity) refl
      go false = rw (append_assoc, append_assoc) refl

  all_bytes : (s : Carried) (r : List ℕ) →
      (carry_all w s r).front ++ end_item w (end_from s.end r) ≡ s.front ++ line_items w (lines_from s.end.place s.end.quantity r)
  unfolding carry_all carry end_from lines_from line_items
  all_bytes s [] = refl
  all_bytes s (x ∷ r) = all_bytes (carry w s x) r ∙ step_bytes s x r

  -- behind the root's line they are those of the row's list
  root_line : (r : List ℕ) → ((i : ℕ) → i < length r → 0 < get_or r i 0) →
      line_items w (lines_from 0 0 r) ≡ end_item w no_line ++ line_items w (list_of r)
  unfolding lines_from list_of line_items
  root_line [] f = sym (append_assoc (in_bytes w 0) (0 ∷ []) [])
  root_line (x ∷ r) f =
      rw (ne_eqb x 0 (λ e. omega (arith, f 0 (omega arith)))) (sym (append_assoc (in_bytes w 0) (0 ∷ []) (line_items w (lines_from x 1 r))))

  -- Of a row
  module _ (r : List ℕ) where
    front_end : (carried w r).end ≡ end_of r
    front_end = all_end (record { front = []; end = no_line }) r

    pub front_long : length (carried w r).front ≡ start_of (end_of r)
    front_long = all_long (record { front = []; end = no_line }) r (omega arith)

    module _ {n : ℕ} (g : GoodRow n r) where
      bytes_are : (carried w r).front ++ end_item w (end_of r) ≡ end_item w no_line ++ line_items w (list_of r)
      bytes_are = all_bytes (record { front = []; end = no_line }) r ∙ root_line r g.some_place

      pub lines_long : length (line_items w (list_of r)) ≡ start_of (end_of r)
      lines_long =
          omega (
            arith,
            ap length bytes_are,
            length-append (carried w r).front (end_item w (end_of r)),
            length-append (end_item w no_line) (line_items w (list_of r)),
            item_long (end_of r),
            item_long no_line,
            front_long,
          )

  -- Of a row with a unit more
  module _ (r : List ℕ) (x : ℕ) where
    next_is : carried w (r ++ (x ∷ [])) ≡ carry w (carried w r) x
    unfolding carry_all
    next_is = all_append (record { front = []; end = no_line }) r (x ∷ [])

    front_next : (carried w (r ++ (x ∷ []))).front ≡ take (start_of (end_of (r ++ (x ∷ [])))) ((carried w r).front ++ end_item w (end_of r))
    front_next =
        let long : length (carried w r).front ≡ start_of (carried w r).end = front_long r ∙ ap start_of (sym (front_end r)) in
        ap (λ (s : Carried). s.front) next_is ∙ step_front (carried w r) x long
        ∙ ap (λ (e : EndLine). take (start_of (with_unit e x)) ((carried w r).front ++ end_item w e)) (front_end r)
        ∙ ap (λ (e : EndLine). take (start_of e) ((carried w r).front ++ end_item w (end_of r))) (sym (end_next r x))

    start_on : (start_of (end_of r) ≤ start_of (end_of (r ++ (x ∷ [])))) × (start_of (end_of (r ++ (x ∷ []))) ≤ start_of (end_of r) + line_bytes w)
    start_on =
        let a : (end_of (r ++ (x ∷ []))).at * line_bytes w ≤ ((end_of r).at + 1) * line_bytes w = mul-le-mul_right (line_bytes w) (end_on r x).1 in
        (mul-le-mul_right (line_bytes w) (end_on r x).0, omega (arith, a, next_line (end_of r).at))

-- Two lines set down where those of a row stand but for its end: its end, and that of the row with a unit more
module _ {w : ℕ} (h : Width w) (lines r : List ℕ) (x : ℕ) (S : Stands w lines r) (k : length (r ++ (x ∷ [])) ≤ most_units) where
  abbrev next : List ℕ
  next = r ++ (x ∷ [])

  abbrev from : ℕ
  from = start_of w (end_of r)

  abbrev to : ℕ
  to = start_of w (end_of next)

  abbrev once : List ℕ
  once = laid lines from (end_item w (end_of r))

  abbrev twice : List ℕ
  twice = laid once to (end_item w (end_of next))

  once_room : from + length (end_item w (end_of r)) ≤ length lines
  once_room = omega (arith, item_long w (end_of r), line_room w h (end_of r).at (omega (arith, (end_few r).0, length-append r (x ∷ []))), S.wide)

  twice_room : to + length (end_item w (end_of next)) ≤ length once
  twice_room =
      omega (
        arith,
        item_long w (end_of next),
        line_room w h (end_of next).at (omega (arith, (end_few next).0)),
        S.wide,
        length_laid lines from (end_item w (end_of r)),
      )

  once_is : take (from + line_bytes w) once ≡ (carried w r).front ++ end_item w (end_of r)
  once_is = rw (item_long w (end_of r), S.front) at (take_laid lines from (end_item w (end_of r)) once_room)

  once_front : take to once ≡ (carried w next).front
  once_front =
      sym (take-take to (from + line_bytes w) once (start_on w r x).1) ∙ ap (take to) once_is ∙ sym (front_next w r x)

  twice_is : take (to + line_bytes w) twice ≡ (carried w next).front ++ end_item w (end_of next)
  twice_is = rw (item_long w (end_of next), once_front) at (take_laid once to (end_item w (end_of next)) twice_room)

  twice_front : take to twice ≡ (carried w next).front
  twice_front =
      sym (take-take to (to + line_bytes w) twice (omega arith)) ∙ ap (take to) twice_is
      ∙ take_at (carried w next).front (end_item w (end_of next)) to (front_long w next)

  twice_wide : length twice ≡ length lines
  twice_wide = length_laid once to (end_item w (end_of next)) ∙ length_laid lines from (end_item w (end_of r))

  twice_stands : Stands w twice next
  twice_stands = record { wide = twice_wide ∙ S.wide; front = twice_front }

  twice_kept : Kept from lines twice
  twice_kept = record {
    wide = twice_wide;
    same =
        sym (take-take from to twice (start_on w r x).0) ∙ ap (take from) (twice_front ∙ front_next w r x)
        ∙ take-take from to ((carried w r).front ++ end_item w (end_of r)) (start_on w r x).0
        ∙ take_at (carried w r).front (end_item w (end_of r)) from (front_long w r) ∙ sym S.front;
  }

  twice_lines : {n : ℕ} → GoodRow n next → take to (drop (line_bytes w) twice) ≡ line_items w (list_of next)
  twice_lines g =
      let e : line_bytes w + to ≡ to + line_bytes w = omega arith in
      behind twice (end_item w no_line) (line_items w (list_of next)) (line_bytes w) to
      (omega (arith, twice_wide, S.wide, h.few_bytes)) (item_long w no_line) (ap (λ (n : ℕ). take n twice) e ∙ twice_is ∙ bytes_are w next g)

-- The same of the ends that are told
module _ {w : ℕ} (h : Width w) {lines r next : List ℕ} (x : ℕ) {above end : EndLine} (n-is : next ≡ r ++ (x ∷ [])) (a-is : above ≡ end_of r)
    (e-is : end ≡ end_of next) (S : Stands w lines r) (k : length next ≤ most_units) where
  abbrev both : List ℕ
  both = laid (laid lines (start_of w above) (end_item w above)) (start_of w end) (end_item w end)

  pub above_fits : (start_of w above + line_bytes w ≤ length lines) × (above.quantity < 256)
  above_fits = rw a-is (
    omega (arith, once_room h lines r x S (rw (← n-is) k), item_long w (end_of r)),
    omega (arith, (end_few r).1, k, ap length n-is, length-append r (x ∷ [])),
  )

  pub end_fits : (start_of w end + line_bytes w ≤ length lines) × (end.quantity < 256)
  end_fits = rw e-is (
    omega (arith, line_room w h (end_of next).at (omega (arith, (end_few next).0, k)), S.wide),
    omega (arith, (end_few next).1, k),
  )

  pub both_stands : Stands w both next
  both_stands = rw (a-is, e-is, n-is) (twice_stands h lines r x S (rw (← n-is) k))

  pub both_kept : Kept (start_of w above) lines both
  both_kept = rw (a-is, e-is, n-is) (twice_kept h lines r x S (rw (← n-is) k))

  pub both_lines : {n : ℕ} → GoodRow n next → take (start_of w end) (drop (line_bytes w) both) ≡ line_items w (list_of next)
  both_lines {n} g = rw (a-is, e-is, n-is) (twice_lines h lines r x S (rw (← n-is) k) {n = n} (rw (← n-is) g))

-- Lines that are kept still stand
pub kept_on : {a b : ℕ} {l m n : List ℕ} → Kept a l m → Kept b m n → a ≤ b → Kept a l n
kept_on {a} {b} {l} {m} {n} h g le = record {
  wide = g.wide ∙ h.wide;
  same = sym (take-take a b n le) ∙ ap (take a) g.same ∙ take-take a b m le ∙ h.same;
}

pub kept_stands : {w : ℕ} {r l m : List ℕ} → Kept (start_of w (end_of r)) l m → Stands w l r → Stands w m r
kept_stands h S = record { wide = h.wide ∙ S.wide; front = h.same ∙ S.front }
