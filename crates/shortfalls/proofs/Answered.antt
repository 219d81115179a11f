-- What the walk finds are the kits listed whose shortfall is at most d, with their shortfalls; and what is promised of both outputs.
use mathlib.Core.Path.{◌≡◌, refl, sym, ap, ◌∙◌}
use mathlib.Core.Bool.{true}
use mathlib.Core.List.{List, [], ◌∷◌, map, Memᴰ}
use Prim.Native.Nat.{ℕ, ◌≤◌, ◌<◌, min}
use native.Mathlib.Omega.{arith}
use lib.ListN.{length, get_or}
use lib.Dec.{leb}
use Rattle.ground.specs.Calls.{done, refused, Promise, both, set_both}
use Rattle.ground.proofs.Calls.{set_both_full, set_both_done}
use Rattle.kits.specs.Kits.{most_place, good_list, units}
use Rattle.kits.specs.Inner.{quantities}
use Rattle.kits.proofs.Along.{quantities_count}
use Rattle.kits.proofs.Good.{good_lines_lem}
use Rattle.kits.proofs.Inclusion.{rises_none}
use Rattle.kits.proofs.Units.{units_rise, row_rises, row_upto}
use Rattle.nodes.specs.Nodes.{tag, row_of}
use Rattle.nodes.specs.Inner.{Shape}
use Rattle.nodes.specs.Held.{Kit, tags_of, kit_at, listed}
use Rattle.nodes.proofs.Sorted.{map_same}
use Rattle.nodes.proofs.Units.{listed_good}
use Rattle.questions.specs.Questions.{fitting, all_of}
use Rattle.questions.specs.Inner.{found_in}
use Rattle.questions.proofs.Found.{kits_found, tags_at}
use Rattle.questions.proofs.Meaning.{fitting_exactly}
use Rattle.shortfalls.specs.Shortfalls.{short_of, is_almost, almost_tags, almost_shorts, shorts_of}
use Rattle.shortfalls.specs.Inner.{short_in, almost, short_at, PutBoth}
use Rattle.shortfalls.proofs.Along.{short_along}

row_short : List ℕ → Kit → ℕ
row_short Q k = short_in Q k.row

shorts_at : (Q N xs : List ℕ) → map (row_short Q) (map (kit_at N) xs) ≡ map (short_at Q N) xs
unfolding row_short kit_at short_at
shorts_at Q N [] = refl
shorts_at Q N (x ∷ xs) = ap (◌∷◌ (short_in Q (row_of N x))) (shorts_at Q N xs)

-- no part has place 0
none_at_zero : (l : List ℕ) → good_list most_place l ≡ true → get_or (quantities l) 0 0 ≡ 0
none_at_zero l g = quantities_count l g 0 ∙ rises_none (units_rise (good_lines_lem most_place l g)) 0 (omega arith)

-- For a good list with the quantities Q by place
module _ (d : ℕ) {N Q : List ℕ} (l : List ℕ) (S : Shape most_place N) (g : good_list most_place l ≡ true) (e : Q ≡ quantities l) where
  kit_short : (k : Kit) → Memᴰ k (listed N) → short_of (units l) k ≡ short_in Q k.row
  unfolding short_of
  kit_short k m =
      rw e (let G = listed_good S k m in sym
      (short_along (quantities l) (units l) (quantities_count l g) k.row (none_at_zero l g) (row_rises G) (row_upto G)))

  kits_are : fitting (is_almost d) l N ≡ map (kit_at N) (found_in (almost Q d) N)
  unfolding fitting is_almost almost
  kits_are = kits_found S (almost Q d) (is_almost d (units l)) (λ k m. ap (λ s. leb s d) (kit_short k m))

  pub tags_are : almost_tags d l N ≡ map (tag N) (found_in (almost Q d) N)
  unfolding all_of
  tags_are = ap tags_of kits_are ∙ tags_at N (found_in (almost Q d) N)

  pub shorts_are : almost_shorts d l N ≡ map (short_at Q N) (found_in (almost Q d) N)
  unfolding shorts_of row_short
  shorts_are =
      map_same (short_of (units l)) (row_short Q) (fitting (is_almost d) l N) (λ k m. kit_short k ((fitting_exactly (is_almost d) l N k).0 m).0)
      ∙ ap (map (row_short Q)) kits_are ∙ shorts_at Q N (found_in (almost Q d) N)

-- o and z are as they were lent, m and w as they are now; p' and q' are what else was written to count
module _ {xs ys ts ss : List ℕ} (a : xs ≡ ts) (b : ys ≡ ss) (o z : List ℕ) {room : ℕ} (e : room ≡ min (length o) (length z))
    {p p' q q' : List ℕ} {need : ℕ} (counted : PutBoth p q 0 ts ss need p' q') where
  many : need ≡ length xs
  many = omega (arith, counted.one.behind, ap length a)

  pub all_refused : {m w : List ℕ} → m ≡ o → w ≡ z → room < need →
      Promise (set_both [] xs ys (both o z)) (both o z) (refused 12 need) (both m w)
  all_refused i j h = rw (many, i, j) (set_both_full xs ys (both o z) (omega (arith, many, e)))

  pub all_done : {m w o' z' : List ℕ} {r : ℕ} → m ≡ o → w ≡ z → need ≤ room → PutBoth m w 0 ts ss r o' z' →
      Promise (set_both [] xs ys (both o z)) (both o z) (done need) (both o' z')
  all_done i j h k =
      rw (many, k.one.lies, k.two.lies, ← a, ← b, i, j) (set_both_done xs ys (both o z) (omega (arith, many, e)))
