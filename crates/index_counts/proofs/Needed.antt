-- How many nodes a row lacks: the beginnings that it adds to those of the kits held, whether there is room for them or not.
use mathlib.Core.Path.{◌≡◌, sym, ap, subst, ◌∙◌}
use mathlib.Core.Logic.{⊎_elim, ◌≢◌}
use mathlib.Core.Bool.{false}
use mathlib.Core.List.{List, ◌++◌, map, Memᴰ}
use Prim.Native.Nat.{ℕ, suc, ◌-◌, ◌≤◌, ◌<◌}
use native.Mathlib.Omega.{arith}
use lib.ListN.{length, take, length-append, length-take}
use lib.Seq.{take-take, length-take-le}
use Rattle.ground.specs.Lists.{from}
use Rattle.ground.specs.Calls.{number_of, answer}
use Rattle.ground.proofs.Laws.{length_map_from, le_or}
use Rattle.nodes.specs.Nodes.{depth, row_of, free_nodes}
use Rattle.nodes.specs.Inner.{Used, Shape, Sound}
use Rattle.nodes.specs.Held.{Kit, comes_before, put_kit, held, tag_in, all_beginnings}
use Rattle.nodes.proofs.Lists.{same_or}
use Rattle.nodes.proofs.Sorted.{Rising, mem_every, rising_append, rising_from, rising_refine, rising_mapped, from_mem, mem_from, same_length}
use Rattle.nodes.proofs.Rows.{climb, row_length, deep_used, Ancestor, ancestor}
use Rattle.nodes.proofs.Ordered.{put_mem, put_new, put_old}
use Rattle.nodes.proofs.Held.{kit}
use Rattle.nodes.proofs.Beginnings.{Part, Begun, beginnings_differ, beginnings_begun, begun_beginnings, used_begun, begun_used}
use Rattle.index_insert.specs.Enter.{lacks}
use Rattle.index.specs.Index.{tag_taken}
use Rattle.index.specs.Inner.{inserting_row, Deepest}
use Rattle.index_counts.specs.Inner.{AddsWhatItLacks, NoRoomExactly}
use Rattle.index.proofs.Way.{Way, way, deep_lacks, none_longer}
use Rattle.index.proofs.Answers.{inserting_19, inserting_12, inserting_done}

module _ {parts : ℕ} {N : List ℕ} (So : Sound parts N) (r : List ℕ) (t : ℕ) where
  abbrev S : Shape parts N
  S = So.shape

  w : Way N r
  w = way S

  abbrev D : Deepest N r w.node
  D = w.deepest

  abbrev d : ℕ
  d = depth N w.node

  abbrev B : List (List ℕ)
  B = all_beginnings (held N)

  front : ℕ → List ℕ
  front k = take k r

  -- the beginnings of the row that the table has not
  L : List (List ℕ)
  L = map front (from (suc d) (length r - d))

  short : d ≤ length r
  short = D.going.short

  record Longer (a : List ℕ) : Type 0 where
    long : ℕ
    more : d < long
    most : long ≤ length r
    is : a ≡ take long r

  longer : (a : List ℕ) → Memᴰ a L → Longer a
  unfolding L front
  longer a m =
      let k = mathlib.Core.List.Memᴰ.of_map front (from (suc d) (length r - d)) m in
      let j = from_mem (length r - d) (suc d) k.0 k.1 in
      record { long = k.0; more = omega (arith, j.0); most = omega (arith, j.1, short); is = sym k.2 }

  longer_in : (k : ℕ) → d < k → k ≤ length r → Memᴰ (take k r) L
  unfolding L front
  longer_in k h g = mathlib.Core.List.Memᴰ.map front (mem_from (length r - d) (suc d) k h (omega (arith, short)))

  fronts_differ : Rising ◌≢◌ L
  unfolding L front
  fronts_differ = rising_mapped front (rising_refine {P = λ (i : ℕ). i ≤ length r} {R = ◌<◌}
      (λ i j p q h e. omega (arith, ap length e, length-take-le i r p, length-take-le j r q))
      (mem_every (from (suc d) (length r - d)) (λ i m. omega (arith, (from_mem (length r - d) (suc d) i m).1, short)))
      (rising_from (length r - d) (suc d)))

  -- none of them begins a kit held
  not_begun : (a : List ℕ) → Longer a → Memᴰ a B → ⊥
  not_begun a k m =
      let u = begun_used So a (beginnings_begun (held N) a m) in
      none_longer S D u.0 (λ _. u.1) k.long k.more k.most (u.2 ∙ k.is)

  all_differ : Rising ◌≢◌ (L ++ B)
  all_differ = rising_append fronts_differ (beginnings_differ (held N))
      (mem_every L (λ a m. mem_every B (λ b n e. not_begun a (longer a m) (mathlib.Core.List.Memᴰ.cast e n))))

  -- a beginning that is not longer than what the table has is the row of a node
  short_begun : (a : List ℕ) (p : Part r a) → p.long ≤ d → Memᴰ a B
  short_begun a p h =
      let x : Ancestor N w.node p.long = ancestor (climb S) w.node D.going.live p.long h in
      let e : row_of N x.node ≡ a = x.is ∙ ap (take p.long) D.going.is ∙ take-take p.long d r h ∙ sym p.is in
      let len : length a ≡ p.long = ap length p.is ∙ simp length-take (omega (arith, p.most)) in
      let u : Used N x.node = deep_used (climb S) x.node x.live
      (omega (arith, p.some_unit_lem, ap length e, row_length (climb S) x.node x.live)) in
      begun_beginnings (held N) a (subst (Begun (held N)) e (used_begun So x.node u))

  to : (a : List ℕ) → Memᴰ a (L ++ B) → Memᴰ a (all_beginnings (put_kit (kit r t) (held N)))
  to a m = begun_beginnings (put_kit (kit r t) (held N)) a (⊎_elim
      (λ (k : Memᴰ a L). let j = longer a k in
      record {
        whole = kit r t;
        there = put_new comes_before (kit r t) (held N);
        part =
            record { long = j.long; some_unit_lem = omega (arith, j.more); most = j.most; is = j.is };
      })
      (λ (k : Memᴰ a B). let b = beginnings_begun (held N) a k in
      record { whole = b.whole; there = put_old comes_before (kit r t) b.whole (held N) b.there; part = b.part })
      (mathlib.Core.List.Memᴰ.append_cases L m))

  from_row : (a : List ℕ) → Part r a → Memᴰ a (L ++ B)
  from_row a p = ⊎_elim
      (λ (h : p.long ≤ d). mathlib.Core.List.Memᴰ.append_right L (short_begun a p h))
      (λ (h : d < p.long). mathlib.Core.List.Memᴰ.append_left B (mathlib.Core.List.Memᴰ.cast p.is (longer_in p.long h p.most)))
      (le_or p.long d)

  back : (a : List ℕ) → Memᴰ a (all_beginnings (put_kit (kit r t) (held N))) → Memᴰ a (L ++ B)
  back a m =
      let b : Begun (put_kit (kit r t) (held N)) a = beginnings_begun (put_kit (kit r t) (held N)) a m in
      ⊎_elim
      (λ (e : b.whole ≡ kit r t). from_row a (subst (λ (k : Kit). Part k.row a) e b.part))
      (λ k. mathlib.Core.List.Memᴰ.append_right L (begun_beginnings (held N) a (record { whole = b.whole; there = k; part = b.part })))
      (put_mem comes_before (kit r t) b.whole (held N) b.there)

  long_is : length L ≡ length r - d
  unfolding L
  long_is = length_map_from front (suc d) (length r - d)

  -- The law: what a row lacks is what it adds to the beginnings.
  pub nodes_needed_lem : AddsWhatItLacks N r t
  nodes_needed_lem =
      sym (same_length (L ++ B) (all_beginnings (put_kit (kit r t) (held N))) all_differ (beginnings_differ (put_kit (kit r t) (held N))) to
      back)
      ∙ omega (arith, length-append L B, long_is, deep_lacks S D)

  -- 12 exactly when the beginnings that the row would add are more than the free nodes
  module _ (z : tag_in r (held N) ≡ 0) (b : tag_taken N t ≡ false) where
    -- with room it is done, or 19 where the row has no unit
    roomy : lacks N 0 r ≤ length (free_nodes N) → number_of (answer (inserting_row r t N)) ≢ 12
    roomy h e = ⊎_elim
        (λ (i : length r ≡ 0). omega (arith, ap number_of (inserting_19 r N t i)))
        (λ (u : length r ≢ 0). omega (arith, ap number_of (inserting_done r N t u z b h)))
        (same_or (length r) 0)

    pub no_room_exactly : NoRoomExactly N r t
    no_room_exactly = (
      λ e. ⊎_elim
          (λ (h : lacks N 0 r ≤ length (free_nodes N)). absurd (roomy h (ap number_of e)))
          (λ (h : length (free_nodes N) < lacks N 0 r). omega (arith, nodes_needed_lem))
          (le_or (lacks N 0 r) (length (free_nodes N))),
      λ h.
          let more : length (free_nodes N) < lacks N 0 r = omega (arith, nodes_needed_lem) in
          inserting_12 r N t (λ i. omega (arith, deep_lacks S D)) z b more,
    )
