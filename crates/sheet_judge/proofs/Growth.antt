-- For kits in listing order, the number of different nonempty beginnings is the sum of what each adds to the one before it.
use mathlib.Core.Path.{◌≡◌, refl, ap, sym, subst, ◌∙◌}
use mathlib.Core.Logic.{◌≢◌}
use mathlib.Core.Logic.{⊎_elim, ◌⊎◌, inl, inr}
use mathlib.Core.Bool.{Bool, true, false, ◌&&◌, ◌||◌, cond}
use mathlib.Core.List.Memᴰ
use mathlib.Core.List.{List, [], ◌∷◌, ◌++◌, Memᴰ}
use mathlib.Core.List.{map}
use Prim.Native.Nat.{ℕ, zero, suc, ◌+◌, ◌-◌, ◌≤◌, ◌<◌}
use native.Mathlib.Omega.{arith}
use lib.ListN.{length, take, length-append, length-take}
use lib.Dec.{ltb, eqb}
use lib.Seq.{take-take}
use borrow.Author.Tests.{ltb-true, eqb-true, eq-eqb}
use Rattle.ground.specs.Lists.{from}
use Rattle.ground.proofs.Laws.{and_left, below_or, length_map_from}
use Rattle.kits.specs.Kits.{before}
use Rattle.kits.specs.Inner.{agreed}
use Rattle.kits.proofs.Rows.{agreed_left, agreed_right, agreed_none}
use Rattle.kits.proofs.Order.{agreed_same}
use Rattle.nodes.specs.Held.{Kit, all_beginnings}
use Rattle.nodes.proofs.Sorted.{Rising, every_mem, mem_every, rising_append, rising_refine, rising_mapped, rising_from, from_mem, mem_from, no_longer}
use Rattle.nodes.proofs.Beginnings.{Part, Begun, beginnings_differ, beginnings_begun, begun_beginnings}
use Rattle.sheet.specs.Inner.{rising}
use Rattle.sheet.proofs.Fits.{rising_tail, rising_before}
use Rattle.sheet_judge.specs.Inner.{growth}

-- what two rows share, a row between them shares
between : (j : ℕ) (x y z : List ℕ) → before x y ≡ true → before y z ≡ true → j ≤ length x → take j x ≡ take j z → j ≤ agreed x y
unfolding before agreed
between zero x y z a b l e = omega arith
between (suc j) [] y z a b l e = absurd (omega arith)
between (suc j) (p ∷ x) [] z a b l e = absurd (let w : ◌≡◌ {A = Bool} false true = a in let v : ◌≡◌ {A = ℕ} 0 1 = cc in omega arith)
between (suc j) (p ∷ x) (q ∷ y) [] a b l e = absurd (let v : ◌≡◌ {A = ℕ} 0 1 = cc in omega arith)
between (suc j) (p ∷ x) (q ∷ y) (r ∷ z) a b l e =
    go (ltb p q) refl (eqb p q) refl (ltb q r) refl (eqb q r) refl a b (λ f g. between j x y z f g (omega arith) rest)
  where
    pr : p ≡ r
    pr = cc

    rest : take j x ≡ take j z
    rest = cc

    go : (c1 : Bool) → ltb p q ≡ c1 → (d1 : Bool) → eqb p q ≡ d1 → (c2 : Bool) → ltb q r ≡ c2 → (d2 : Bool) → eqb q r ≡ d2 →
        (c1 || (d1 && before x y)) ≡ true → (c2 || (d2 && before y z)) ≡ true → (before x y ≡ true → before y z ≡ true → j ≤ agreed x y) →
        suc j ≤ cond d1 (suc (agreed x y)) 0
    go true u1 true v1 c2 u2 d2 v2 f g i = absurd (omega (arith, ltb-true p q u1, eqb-true p q v1))
    go false u1 true v1 true u2 d2 v2 f g i = absurd (omega (arith, eqb-true p q v1, ltb-true q r u2, pr))
    go false u1 true v1 false u2 true v2 f g i = let k : j ≤ agreed x y = i f g in omega arith
    go false u1 true v1 false u2 false v2 f g i = absurd (let v : ◌≡◌ {A = ℕ} 0 1 = cc in omega arith)
    go true u1 false v1 true u2 d2 v2 f g i = absurd (omega (arith, ltb-true p q u1, ltb-true q r u2, pr))
    go true u1 false v1 false u2 true v2 f g i = absurd (omega (arith, ltb-true p q u1, eqb-true q r v2, pr))
    go true u1 false v1 false u2 false v2 f g i = absurd (let v : ◌≡◌ {A = ℕ} 0 1 = cc in omega arith)
    go false u1 false v1 c2 u2 d2 v2 f g i = absurd (let v : ◌≡◌ {A = ℕ} 0 1 = cc in omega arith)

-- what two rows have alike at their front, they agree in
share : (i : ℕ) (x y : List ℕ) → i ≤ length x → i ≤ length y → take i x ≡ take i y → i ≤ agreed x y
unfolding agreed
share zero x y a b e = omega arith
share (suc i) [] y a b e = absurd (omega arith)
share (suc i) (p ∷ x) [] a b e = absurd (omega arith)
share (suc i) (p ∷ x) (q ∷ y) a b e =
    let pq : p ≡ q = cc in
    let rest : take i x ≡ take i y = cc in
    rw (eq-eqb p q pq) (let k = share i x y (omega arith) (omega arith) rest in omega arith)

-- the first row of some kits
unfoldable pub first_row : List Kit → List ℕ
first_row [] = []
first_row (k ∷ ks) = k.row

-- the beginnings of r of more than a units
abbrev longer : List ℕ → ℕ → List (List ℕ)
longer r a = map (λ (i : ℕ). take i r) (from (suc a) (length r - a))

module _ (r : List ℕ) (a : ℕ) (h : a ≤ length r) where
  long_mem : (b : List ℕ) → Memᴰ b (longer r a) → (i : ℕ) × (a < i) × (i ≤ length r) × (b ≡ take i r)
  long_mem b m =
      let k = Memᴰ.of_map (λ (i : ℕ). take i r) (from (suc a) (length r - a)) m in
      let j = from_mem (length r - a) (suc a) k.0 k.1 in
      (k.0, omega (arith, j.0), omega (arith, j.1), sym k.2)

  mem_long : (i : ℕ) → a < i → i ≤ length r → Memᴰ (take i r) (longer r a)
  mem_long i l u = Memᴰ.map (λ (j : ℕ). take j r) (mem_from (length r - a) (suc a) i (omega arith) (omega arith))

  long_differ : Rising ◌≢◌ (longer r a)
  long_differ = rising_mapped (λ (i : ℕ). take i r)
      (rising_refine {P = λ (i : ℕ). i ≤ length r} {R = ◌<◌} (λ i j p q l e. omega (arith, ap length e, length-take i r, length-take j r))
      (mem_every (from (suc a) (length r - a)) (λ i m. omega (arith, (from_mem (length r - a) (suc a) i m).1)))
      (rising_from (length r - a) (suc a)))

mem_left : {A : Type 0} {x : A} {xs : List A} (ys : List A) → Memᴰ x xs → Memᴰ x (xs ++ ys)
mem_left {xs = []} ys m = absurd (Memᴰ.not-nil m)
mem_left {xs = z ∷ xs} ys m = ⊎_elim (λ e. Memᴰ.head e) (λ k. Memᴰ.tail (mem_left ys k)) (Memᴰ.cases_cons m)

mem_right : {A : Type 0} {x : A} (xs : List A) {ys : List A} → Memᴰ x ys → Memᴰ x (xs ++ ys)
mem_right [] m = m
mem_right (z ∷ xs) m = Memᴰ.tail (mem_right xs m)

-- how far r agrees with a later kit, it agrees with the first
shares : (r : List ℕ) (h : Kit) (t : List Kit) → before r h.row ≡ true → rising (h ∷ t) ≡ true → (i : ℕ) → i ≤ length r → (w : Kit) →
    Memᴰ w (h ∷ t) → i ≤ length w.row → take i r ≡ take i w.row → i ≤ agreed r h.row
shares r h t b s i u w m v e = ⊎_elim
    (λ (q : w ≡ h). share i r h.row u (rw (← q) v) (rw (← q) e))
    (λ j. between i r h.row w.row b (every_mem (rising_before h t s) j) u e)
    (Memᴰ.cases_cons m)

nearest : (k : Kit) (ks : List Kit) → rising (k ∷ ks) ≡ true → (i : ℕ) → i ≤ length k.row → (w : Kit) → Memᴰ w ks →
    i ≤ length w.row → take i k.row ≡ take i w.row → i ≤ agreed k.row (first_row ks)
unfolding rising first_row
nearest k [] s i u w m v e = absurd (Memᴰ.not-nil m)
nearest k (h ∷ t) s i u w m v e =
    shares k.row h t (and_left (before k.row h.row) (rising (h ∷ t)) s) (rising_tail k (h ∷ t) s) i u w m v e

first_begun : (r : List ℕ) (ks : List Kit) (i : ℕ) → 0 < i → i ≤ agreed r (first_row ks) → Begun ks (take i r)
unfolding first_row
first_begun r [] i l u = absurd (omega (arith, agreed_none r))
first_begun r (h ∷ t) i l u =
    let a = agreed r h.row in
    let e : take i r ≡ take i h.row = sym (take-take i a r u) ∙ ap (take i) (agreed_same r h.row) ∙ take-take i a h.row u in
    record {
      whole = h;
      there = Memᴰ.head refl;
      part =
          record { long = i; some_unit_lem = l; most = omega (arith, agreed_right r h.row); is = e };
    }

module _ (k : Kit) (ks : List Kit) (s : rising (k ∷ ks) ≡ true) where
  abbrev shared : ℕ
  shared = agreed k.row (first_row ks)

  abbrev split : List (List ℕ)
  split = longer k.row shared ++ all_beginnings ks

  fits : shared ≤ length k.row
  fits = agreed_left k.row (first_row ks)

  in_split : (b : List ℕ) → Memᴰ b (all_beginnings (k ∷ ks)) → Memᴰ b split
  in_split b m = go (beginnings_begun (k ∷ ks) b m)
    where
      own : (p : Part k.row b) → (shared < p.long) ⊎ (p.long ≤ shared) → Memᴰ b split
      own p (inl l) = mem_left (all_beginnings ks) (Memᴰ.cast p.is (mem_long k.row shared fits p.long l p.most))
      own p (inr l) =
          mem_right (longer k.row shared)
          (begun_beginnings ks b (subst (Begun ks) (sym p.is) (first_begun k.row ks p.long p.some_unit_lem l)))

      go : Begun (k ∷ ks) b → Memᴰ b split
      go g = ⊎_elim
          (λ (e : g.whole ≡ k). own (subst (λ (w : Kit). Part w.row b) e g.part)
          (below_or shared (subst (λ (w : Kit). Part w.row b) e g.part).long))
          (λ j. mem_right (longer k.row shared) (begun_beginnings ks b (record { whole = g.whole; there = j; part = g.part })))
          (Memᴰ.cases_cons g.there)

  of_split : (b : List ℕ) → Memᴰ b split → Memᴰ b (all_beginnings (k ∷ ks))
  of_split b m = ⊎_elim
      (λ j. let q = long_mem k.row shared fits b j in
      begun_beginnings (k ∷ ks) b
      (record {
        whole = k;
        there = Memᴰ.head refl;
        part =
            record { long = q.0; some_unit_lem = omega (arith, q.1); most = q.2; is = q.3 };
      }))
      (λ j. let g = beginnings_begun ks b j in begun_beginnings (k ∷ ks) b
      (record { whole = g.whole; there = Memᴰ.tail g.there; part = g.part }))
      (Memᴰ.append_cases (longer k.row shared) m)

  apart : (x y : List ℕ) → Memᴰ x (longer k.row shared) → Memᴰ y (all_beginnings ks) → x ≢ y
  apart x y m n e =
      let q = long_mem k.row shared fits x m in
      let g = beginnings_begun ks y n in
      let p = g.part in
      let i = q.0 in
      let l : i ≡ p.long = omega (
        arith,
        ap length e,
        ap length q.3,
        ap length p.is,
        length-take i k.row,
        length-take p.long g.whole.row,
        q.2,
        p.most,
      ) in
      let f : take i k.row ≡ take i g.whole.row = sym q.3 ∙ e ∙ p.is ∙ ap (λ (d : ℕ). take d g.whole.row) (sym l) in
      omega (arith, q.1, nearest k ks s i q.2 g.whole g.there (omega (arith, p.most)) f)

  split_differ : Rising ◌≢◌ split
  split_differ =
      rising_append (long_differ k.row shared fits) (beginnings_differ ks)
      (mem_every (longer k.row shared) (λ x m. mem_every (all_beginnings ks) (λ y n. apart x y m n)))

  grows : length (all_beginnings (k ∷ ks)) ≡ (length k.row - shared) + length (all_beginnings ks)
  grows =
      let a = no_longer (all_beginnings (k ∷ ks)) split (beginnings_differ (k ∷ ks)) in_split in
      let b = no_longer split (all_beginnings (k ∷ ks)) split_differ of_split in
      omega (
        arith,
        a,
        b,
        length-append (longer k.row shared) (all_beginnings ks),
        length_map_from (λ (i : ℕ). take i k.row)
            (suc shared) (length k.row - shared),
      )

none_begun : length (all_beginnings []) ≡ 0
unfolding all_beginnings
none_begun = refl

grown : (r : List ℕ) (ks : List Kit) → rising ks ≡ true → growth r ks + agreed r (first_row ks) ≡ length (all_beginnings ks)
unfolding growth first_row
grown r [] s = omega (arith, agreed_none r, none_begun)
grown r (k ∷ ks) s =
    omega (arith, grows k ks s, grown k.row ks (rising_tail k ks s), agreed_right r k.row, agreed_left k.row (first_row ks))

agreed_start : (r : List ℕ) → agreed [] r ≡ 0
unfolding agreed
agreed_start r = refl

-- the nodes that kits in listing order need, but for the root
pub growth_beginnings : (ks : List Kit) → rising ks ≡ true → growth [] ks ≡ length (all_beginnings ks)
growth_beginnings ks s = omega (arith, grown [] ks s, agreed_start (first_row ks))

-- one kit more, behind the last
unfoldable pub last_row_of : List ℕ → List Kit → List ℕ
last_row_of r [] = r
last_row_of r (k ∷ ks) = last_row_of k.row ks

pub growth_last : (r : List ℕ) (ks : List Kit) (k : Kit) →
    growth r (ks ++ (k ∷ [])) ≡ growth r ks + (length k.row - agreed (last_row_of r ks) k.row)
unfolding growth last_row_of
growth_last r [] k = omega arith
growth_last r (h ∷ ks) k = omega (arith, growth_last h.row ks k)

pub last_row : (r : List ℕ) (ks : List Kit) (k : Kit) → last_row_of r (ks ++ (k ∷ [])) ≡ k.row
unfolding last_row_of
last_row r [] k = refl
last_row r (h ∷ ks) k = last_row h.row ks k
