-- A node's row, laid from behind over zeros: what is still to come, laid in front of what is down, makes the whole.
use mathlib.Core.Path.{◌≡◌, sym, ap, ◌∙◌}
use mathlib.Core.List.{List, [], ◌∷◌, ◌++◌, append_assoc}
use Prim.Native.Nat.{ℕ, suc, ◌-◌, ◌≤◌, ◌<◌}
use native.Mathlib.Omega.{arith}
use lib.ListN.{length, take, drop, set, replicate, length-set, length-replicate}
use lib.Seq.{set_split, drop_at, length-take-le}
use Rattle.ground.specs.Laid.{laid}
use Rattle.ground.proofs.Laid.{laid_nil, laid_front}
use Rattle.ground.proofs.Laws.{empty_list}
use Rattle.kits.specs.Kits.{most_units, fixed_row}
use Rattle.kits.proofs.Lists.{laid_zeros}
use Rattle.nodes.specs.Nodes.{parent, label, depth, row_of}
use Rattle.nodes.specs.Inner.{Used, Live, Shape}
use Rattle.nodes.proofs.Rows.{climb, parent_live, row_step, row_length, row_good, deep_used, length_snoc}

-- one element set, and what stands before it laid in front of it
laid_before : (l bs : List ℕ) (b : ℕ) → length bs < length l → laid (set l (length bs) b) 0 bs ≡ laid l 0 (bs ++ (b ∷ []))
laid_before l bs b h =
    let n = length bs in
    let k : n ≤ length (set l n b) = rw (length-set l n b) (omega arith) in
    let t : length (take n l) ≡ n = length-take-le n l (omega arith) in
    let m : length (bs ++ (b ∷ [])) ≤ length l = omega (arith, length_snoc bs b) in
    let behind : drop n (set l n b) ≡ b ∷ drop (suc n) l = ap (drop n) (set_split l n b h) ∙ drop_at (take n l) (b ∷ drop (suc n) l) n t in
    let e : length (bs ++ (b ∷ [])) ≡ suc n = omega (arith, length_snoc bs b) in
    laid_front (set l n b) bs k ∙ ap (λ r. bs ++ r) behind
    ∙ sym (laid_front l (bs ++ (b ∷ [])) m ∙ append_assoc bs (b ∷ []) (drop (length (bs ++ (b ∷ []))) l) ∙ ap (λ j. bs ++ (b ∷ drop j l)) e)

-- The walk up from node i has come to a node of depth d: its row laid over the places is the whole
pub record WalkedUp (N : List ℕ) (i : ℕ) (places : List ℕ) (at d : ℕ) : Type 0 where
  pub live : Live N at
  pub deep : d ≡ depth N at
  pub short : d ≤ most_units
  pub wide : length places ≡ most_units
  pub lies : laid places 0 (row_of N at) ≡ (fixed_row (row_of N i)).places

module _ {parts : ℕ} {N : List ℕ} (S : Shape parts N) where
  pub up_start : {i d : ℕ} → Used N i → d ≡ depth N i → WalkedUp N i (replicate most_units 0) i d
  up_start {i} {d} u e =
      let short : length (row_of N i) ≤ most_units = (row_good S i (λ _. u)).short in
      record {
        live = λ _. u;
        deep = e;
        short = omega (arith, e, row_length (climb S) i (λ _. u), short);
        wide = length-replicate {A = ℕ} most_units 0;
        lies = laid_zeros (row_of N i) short;
      }

  module _ {i : ℕ} {places : List ℕ} {at d : ℕ} (U : WalkedUp N i places at d) where
    pub up_step : {x p e : ℕ} → (d ≡ 0 → ⊥) → e ≡ d - 1 → x ≡ label N at → p ≡ parent N at → WalkedUp N i (set places e x) p e
    up_step {x} {p} {e} n k f g =
        let u : Used N at = deep_used (climb S) at U.live (omega (arith, U.deep)) in
        let l : Live N (parent N at) = parent_live (climb S) at U.live in
        let w : length (row_of N (parent N at)) ≡ e =
        row_length (climb S) (parent N at) l ∙ omega (arith, U.deep, (S.good at u).deeper) in
        rw (f, g, ← w) (record {
          live = l;
          deep = row_length (climb S) (parent N at) l;
          short = omega (arith, U.short);
          wide = length-set places (length (row_of N (parent N at))) (label N at) ∙ U.wide;
          lies =
              laid_before places (row_of N (parent N at)) (label N at) (omega (arith, U.short, U.wide))
              ∙ ap (laid places 0) (sym (row_step (climb S) at u)) ∙ U.lies;
        })

    pub up_end : {n : ℕ} → d ≡ 0 → Used N i → n ≡ depth N i → record { places = places; len = n } ≡ fixed_row (row_of N i)
    up_end {n} z u e =
        let none : row_of N at ≡ [] = empty_list (row_of N at) (row_length (climb S) at U.live ∙ sym U.deep ∙ z) in
        let p : places ≡ (fixed_row (row_of N i)).places = sym (laid_nil places 0) ∙ ap (laid places 0) (sym none) ∙ U.lies in
        let m : n ≡ length (row_of N i) = e ∙ sym (row_length (climb S) i (λ _. u)) in
        λ t. record { places = p t; len = m t }
