-- What is promised, in the request's words: which kits answer, when those are the kits within the bin, how they grow with d, and that the
-- two outputs are in step.
use mathlib.Core.Path.{◌≡◌, refl, sym}
use mathlib.Core.Logic.{◌↔◌}
use mathlib.Core.Bool.{true}
use mathlib.Core.List.{List, [], ◌∷◌, map, Memᴰ}
use Prim.Native.Nat.{ℕ, zero, suc, ◌≤◌, ◌<◌}
use native.Mathlib.Omega.{arith}
use lib.ListN.{length, get_or, replicate}
use borrow.Author.Tests.{leb-true, le-leb}
use Rattle.ground.specs.Lists.{keep}
use Rattle.ground.proofs.Laws.{same_cases}
use Rattle.kits.specs.Kits.{most_place, Within}
use Rattle.kits.specs.Inner.{GoodRow}
use Rattle.kits.proofs.Inclusion.{includes_within, within_includes}
use Rattle.kits.proofs.Units.{row_rises, row_upto}
use Rattle.nodes.specs.Held.{Kit, tags_of}
use Rattle.nodes.proofs.Sorted.{keep_same, keep_all, keep_twice, keep_mem}
use Rattle.questions.specs.Questions.{is_within}
use Rattle.shortfalls.specs.Shortfalls.{most_short, shortfall, short_of, is_almost, shorts_of, OfOne}
use Rattle.shortfalls.proofs.Sums.{short_within, within_short}
use Rattle.shortfalls.proofs.Along.{short_few}

------------------------------------------------------------------------
-- One kit

-- "whose shortfall is at most d"
pub almost_asks : (d : ℕ) (bin : List ℕ) (k : Kit) → (is_almost d bin k ≡ true) ↔ (shortfall bin k.row ≤ d)
unfolding is_almost short_of
almost_asks d bin k = (leb-true (shortfall bin k.row) d, le-leb (shortfall bin k.row) d)

-- no shortfall exactly when it is within the bin
pub nothing_short : (bin : List ℕ) (k : Kit) → GoodRow most_place k.row → (short_of bin k ≡ 0) ↔ Within k.row bin
unfolding short_of
nothing_short bin k G = (short_within bin k.row (row_upto G), within_short bin k.row)

------------------------------------------------------------------------
-- A list of kits with good rows, asked of a bin

module _ (bin : List ℕ) (ks : List Kit) where
  -- what is listed for d is what of the listing for e is at most d
  pub almost_grows : (d e : ℕ) → d ≤ e → keep (is_almost d bin) ks ≡ keep (is_almost d bin) (keep (is_almost e bin) ks)
  almost_grows d e h =
      sym (keep_twice (is_almost d bin) (is_almost e bin) (λ k t. (almost_asks e bin k).1 (omega (arith, (almost_asks d bin k).0 t))) ks)

  -- d = 0: every shortfall is 0
  pub zero_shorts : shorts_of bin (keep (is_almost 0 bin) ks) ≡ replicate (length (keep (is_almost 0 bin) ks)) 0
  unfolding shorts_of short_of
  zero_shorts = go (keep (is_almost 0 bin) ks) (λ k m. omega (arith, (almost_asks 0 bin k).0 (keep_mem (is_almost 0 bin) k ks m).1))
    where
      go : (js : List Kit) → ((k : Kit) → Memᴰ k js → short_of bin k ≡ 0) → map (short_of bin) js ≡ replicate (length js) 0
      go [] f = refl
      go (k ∷ js) f =
          let e = f k (Memᴰ.head refl) in
          let r = go js (λ j m. f j (Memᴰ.tail m)) in
          rw (e, r)

  module _ (good : (k : Kit) → Memᴰ k ks → GoodRow most_place k.row) where
    -- and the kits are those within the bin
    pub zero_is_within : keep (is_almost 0 bin) ks ≡ keep (is_within bin) ks
    unfolding short_of is_within
    zero_is_within = keep_same (is_almost 0 bin) (is_within bin) ks (λ k m.
        let n = nothing_short bin k (good k m) in
        let a = almost_asks 0 bin k in
        same_cases (is_almost 0 bin k) (is_within bin k)
        (λ h. within_includes bin k.row (n.0 (omega (arith, a.0 h))))
        (λ h. a.1 (omega (arith, n.1 (includes_within bin k.row h)))))

    -- d = 64: all
    pub most_is_all : keep (is_almost most_short bin) ks ≡ ks
    most_is_all = keep_all (is_almost most_short bin) ks (λ k m.
        let G = good k m in
        (almost_asks most_short bin k).1 (omega (arith, short_few bin (row_rises G) (row_upto G), G.short)))

------------------------------------------------------------------------
-- "with the shortfall of each": place by place, of the same kit

pub in_step : (bin : List ℕ) (ks : List Kit) (i : ℕ) → i < length ks → OfOne bin ks (get_or (tags_of ks) i 0) (get_or (shorts_of bin ks) i 0)
unfolding tags_of shorts_of short_of
in_step bin [] i h = absurd (omega arith)
in_step bin (k ∷ ks) zero h = record { kit = k; in_list = Memᴰ.head refl; bears = refl; lacks = refl }
in_step bin (k ∷ ks) (suc i) h =
    let r = in_step bin ks i (omega arith) in
    record { kit = r.kit; in_list = Memᴰ.tail r.in_list; bears = r.bears; lacks = r.lacks }
