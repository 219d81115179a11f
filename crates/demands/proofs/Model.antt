-- Lists of kits as accepted calls leave them, in any order: how they stand to the same kits in listing order.
use mathlib.Core.Path.{◌≡◌, sym, ap, subst, ◌∙◌}
use mathlib.Core.Logic.{⊎_elim, ◌≢◌}
use mathlib.Core.List.Memᴰ
use mathlib.Core.List.{List, [], ◌∷◌, Memᴰ}
use Prim.Native.Nat.{ℕ, ◌<◌}
use native.Mathlib.Omega.{arith}
use Rattle.ground.specs.Lists.{eq_list}
use Rattle.ground.proofs.Laws.{by_cond, eq_list_refl, eq_list_true}
use Rattle.nodes.specs.Held.{Kit, comes_before, kits_in_order, drop_kit, tag_in}
use Rattle.nodes.proofs.Lists.{never, zero_or}
use Rattle.nodes.proofs.Sorted.{Every, Rising, none, also, ahead, every_mem, rising_weaken}
use Rattle.nodes.proofs.Listing.{Earlier, OtherRow, listing_same, earlier_other, order_rises, drop_rises}
use Rattle.nodes.proofs.Ordered.{mem_order, order_mem}
use Rattle.nodes.proofs.Listing.{drop_mem, drop_keep, tag_in_lem, tag_from}

-- kits in listing order have different rows
pub apart : {ks : List Kit} → Rising Earlier ks → Rising OtherRow ks
apart s = rising_weaken earlier_other s

-- Taking a kit out of a list in any order
module _ (r : List ℕ) where
  every_dropped : {P : Kit → Type 0} (ks : List Kit) → Every P ks → Every P (drop_kit r ks)
  unfolding drop_kit
  every_dropped [] none = none
  every_dropped {P} (k ∷ ks) (also q s) =
      by_cond (Every P) (eq_list r k.row) ks (k ∷ drop_kit r ks) (λ _. s) (λ _. also q (every_dropped ks s))

  pub dropped_apart : (ks : List Kit) → Rising OtherRow ks → Rising OtherRow (drop_kit r ks)
  unfolding drop_kit
  dropped_apart [] none = none
  dropped_apart (k ∷ ks) (ahead q s) =
      by_cond (Rising OtherRow) (eq_list r k.row) ks (k ∷ drop_kit r ks) (λ _. s) (λ _. ahead (every_dropped ks q) (dropped_apart ks s))

  dropped_mem : (a : Kit) (ks : List Kit) → Rising OtherRow ks → Memᴰ a (drop_kit r ks) → Memᴰ a ks × (r ≢ a.row)
  unfolding drop_kit
  dropped_mem a [] s m = absurd (Memᴰ.not-nil m)
  dropped_mem a (k ∷ ks) (ahead q s) m =
      by_cond (λ (L : List Kit). Memᴰ a L → Memᴰ a (k ∷ ks) × (r ≢ a.row)) (eq_list r k.row) ks (k ∷ drop_kit r ks)
      (λ e m. (Memᴰ.tail m, λ z. every_mem q m (sym (eq_list_true r k.row e) ∙ z)))
      (λ e m. ⊎_elim
      (λ (w : a ≡ k). (Memᴰ.head w, λ z. never (sym (eq_list_refl r) ∙ ap (eq_list r) (z ∙ ap (λ (p : Kit). p.row) w) ∙ e)))
      (λ j. let i = dropped_mem a ks s j in (Memᴰ.tail i.0, i.1))
      (Memᴰ.cases_cons m)) m

  pub order_dropped : (ks : List Kit) → Rising OtherRow ks → kits_in_order (drop_kit r ks) ≡ drop_kit r (kits_in_order ks)
  order_dropped ks s =
      let o = order_rises s in
      listing_same (order_rises (dropped_apart ks s)) (drop_rises r (kits_in_order ks) o)
      (λ k m. let i = dropped_mem k ks s (order_mem comes_before k (drop_kit r ks) m) in drop_keep r k (kits_in_order ks) i.1 (mem_order comes_before k ks i.0))
      (λ k m. let i = drop_mem r k (kits_in_order ks) o m in mem_order comes_before k (drop_kit r ks) (drop_keep r k ks i.1 (order_mem comes_before k ks i.0)))

-- the tag of a row does not depend on the order
pub tag_order : (r : List ℕ) (ks : List Kit) → Rising OtherRow ks → tag_in r (kits_in_order ks) ≡ tag_in r ks
tag_order r ks s = ⊎_elim absent present (zero_or (tag_in r ks))
  where
    o : Rising OtherRow (kits_in_order ks)
    o = apart (order_rises s)

    present : 0 < tag_in r ks → tag_in r (kits_in_order ks) ≡ tag_in r ks
    present h =
        let f = tag_from r ks (λ z. omega arith) in
        let t = tag_in_lem f.0 (kits_in_order ks) o (mem_order comes_before f.0 ks f.1) in
        ap (λ q. tag_in q (kits_in_order ks)) (sym f.2) ∙ t ∙ f.3

    absent : tag_in r ks ≡ 0 → tag_in r (kits_in_order ks) ≡ tag_in r ks
    absent h = ⊎_elim (λ z. z ∙ sym h) other (zero_or (tag_in r (kits_in_order ks)))
      where
        other : 0 < tag_in r (kits_in_order ks) → tag_in r (kits_in_order ks) ≡ tag_in r ks
        other g =
            let f = tag_from r (kits_in_order ks) (λ z. omega arith) in
            let t = tag_in_lem f.0 ks s (order_mem comes_before f.0 ks f.1) in
            sym f.3 ∙ sym t ∙ ap (λ q. tag_in q ks) f.2

-- Kits in listing order, each with a tag, are determined by the tag of each row
abbrev pub HasTag : Kit → Type 0
HasTag k = 0 < k.tag

same_kit : (k j : Kit) → j.row ≡ k.row → j.tag ≡ k.tag → k ≡ j
same_kit k j e f = sym (ap (λ r. a_kit r j.tag) e ∙ ap (a_kit k.row) f)
  where
    a_kit : List ℕ → ℕ → Kit
    a_kit r t = record { row = r; tag = t }

there : (ks js : List Kit) → Rising OtherRow ks → Every HasTag ks → ((r : List ℕ) → tag_in r ks ≡ tag_in r js) → (k : Kit) → Memᴰ k ks →
    Memᴰ k js
there ks js s t h k m =
    let e = sym (tag_in_lem k ks s m) ∙ h k.row in
    let g = every_mem t m in
    let f = tag_from k.row js (λ z. omega arith) in
    subst (λ (x : Kit). Memᴰ x js) (sym (same_kit k f.0 f.2 (f.3 ∙ sym e))) f.1

pub tags_determine : (ks js : List Kit) → Rising Earlier ks → Rising Earlier js → Every HasTag ks → Every HasTag js →
    ((r : List ℕ) → tag_in r ks ≡ tag_in r js) → ks ≡ js
tags_determine ks js s o t u h = listing_same s o (there ks js (apart s) t h) (there js ks (apart o) u (λ r. sym (h r)))
