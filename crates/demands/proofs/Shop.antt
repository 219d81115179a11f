-- A shop: of every call of it, and that its catalogue is as without what stands beside.
use mathlib.Core.Path.{◌≡◌, refl, sym, ap, ◌∙◌}
use mathlib.Core.List.{List, [], ◌∷◌}
use Rattle.ground.specs.Tables.{Tables}
use Rattle.ground.specs.Calls.{Plan, plan, answer, logs, memory, runs}
use Rattle.ground.proofs.Calls as calls
use Prim.Native.Nat.{ℕ}
use Rattle.makers.specs.Calls.{MakerCall, beside, plan_of_maker}
use Rattle.catalogue.specs.Calls.{Call, plan_of}
use Rattle.demands.specs.Model.{log, run}
use Rattle.demands.specs.Shop.{CatalogueApart, LeftAlone, ShopMemory, ShopPinned, ShopRefusalKeeps, ShopRefusedExactly, catalogue_calls, catalogue_log}
use Rattle.demands.specs.Shop.{beside_of, of_catalogue, of_makers, plan_of_shop, shop_memory}

pub shop_refused_exactly : ShopRefusedExactly
shop_refused_exactly c S n v = calls.refused_exactly (plan_of_shop c S) n v

pub shop_refusal_keeps : ShopRefusalKeeps
shop_refusal_keeps c S n v e = calls.refusal_keeps (plan_of_shop c S) S n v e

pub shop_pinned : ShopPinned
shop_pinned c S U W r s p q = calls.pinned p q

-- a call leaves in its own tables what it leaves there alone, and the others as they were
module _ {A : Type 0} (f : A → ShopMemory) (p : Plan A) (old : A) where
  part_left : memory (plan p.cases p.value (f p.after)) (f old) ≡ f (memory p old)
  part_left = sym (calls.promise_part f p old (answer p) (memory p old) (record { answers = refl; lent = refl })).lent

pub catalogue_step : (c : Call) (T : Tables) (M : List ℕ) →
    memory (plan_of_shop (of_catalogue c) (shop_memory T M)) (shop_memory T M) ≡ shop_memory (memory (plan_of c T) T) M
unfolding plan_of_shop
catalogue_step c T M = part_left (λ U. shop_memory U M) (plan_of c T) T

pub makers_step : (c : MakerCall) (T : Tables) (M : List ℕ) →
    memory (plan_of_shop (of_makers c) (shop_memory T M)) (shop_memory T M) ≡ shop_memory T (memory (plan_of_maker c (beside T.register M)) M)
unfolding plan_of_shop
makers_step c T M = part_left (shop_memory T) (plan_of_maker c (beside T.register M)) M

pub left_alone : LeftAlone
left_alone c S = ap (λ (U : ShopMemory). U.makers) (catalogue_step c S.catalogue S.makers)

-- The catalogue in a shop is the catalogue alone.

pub catalogue_apart : CatalogueApart
unfolding run log runs logs answer plan_of_shop catalogue_calls catalogue_log
catalogue_apart [] S = (refl, refl)
catalogue_apart (of_catalogue c ∷ cs) S =
    let T = S.catalogue in
    let s = catalogue_step c T S.makers in
    let h = catalogue_apart cs (shop_memory (memory (plan_of c T) T) S.makers) in (
      ap (λ (U : ShopMemory). (runs plan_of_shop cs U).catalogue) s ∙ h.0,
      ap (◌∷◌ (c, answer (plan_of c T))) (ap (λ (U : ShopMemory). catalogue_log (logs plan_of_shop cs U)) s ∙ h.1),
    )
catalogue_apart (of_makers c ∷ cs) S =
    let s = makers_step c S.catalogue S.makers in
    let h = catalogue_apart cs (shop_memory S.catalogue (memory (plan_of_maker c (beside_of S)) S.makers)) in (
      ap (λ (U : ShopMemory). (runs plan_of_shop cs U).catalogue) s ∙ h.0,
      ap (λ (U : ShopMemory). catalogue_log (logs plan_of_shop cs U)) s ∙ h.1,
    )
