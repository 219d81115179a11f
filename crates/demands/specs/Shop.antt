-- A SHOP: a catalogue and what stands beside it, with the calls of all of them in any order. What the demands say of a catalogue alone they say of it in
-- a shop, since nothing beside it is ever read by its calls. The file and the law that prove a statement stand behind "Proof", in
-- crates/demands/proofs.
use Rattle.std.specs.Prelude.{◌≡◌, ◌↔◌, List, [], ◌∷◌, ◌*◌, ℕ, replicate}
use Rattle.ground.specs.Calls.{Given, Plan, Promise, Reply, answer, logs, memory, plan, refused, runs}
use Rattle.ground.specs.Tables.{Tables}
use Rattle.register.specs.Register.{slot_bytes}
use Rattle.makers.specs.Calls.{Beside, MakerCall, beside, plan_of_maker}
use Rattle.catalogue.specs.Calls.{Call, plan_of}
use Rattle.demands.specs.Model.{Catalogue, begun, log, run}

------------------------------------------------------------------------
-- All calls, on all that they are lent, one after the other as they come

-- all that is lent in it: both tables of the catalogue, and the maker's
pub record ShopMemory : Type 0 where
  pub catalogue : Tables
  pub makers : List ℕ

abbrev pub shop_memory : Tables → List ℕ → ShopMemory
shop_memory T M = record { catalogue = T; makers = M }

-- [9.8] what a call of the maker's table is lent of them
abbrev pub beside_of : ShopMemory → Beside
beside_of S = beside S.catalogue.register S.makers

pub data ShopCall : Type 0 where
  of_catalogue : Call → ShopCall
  of_makers : MakerCall → ShopCall

-- each leaves what it is not lent to write: emptying and reading leave the maker's table, too
unfoldable pub plan_of_shop : ShopCall → ShopMemory → Plan ShopMemory
plan_of_shop (of_catalogue c) S = let p = plan_of c S.catalogue in plan p.cases p.value (shop_memory p.after S.makers)
plan_of_shop (of_makers c) S = let p = plan_of_maker c (beside_of S) in plan p.cases p.value (shop_memory S.catalogue p.after)

-- begun empty, and brought on by its calls, refused ones among them
pub record Shop : Type 0 where
  pub slots : ℕ
  pub room : ℕ
  pub calls : List ShopCall

unfoldable pub catalogue_calls : List ShopCall → List Call
catalogue_calls [] = []
catalogue_calls (of_catalogue c ∷ cs) = c ∷ catalogue_calls cs
catalogue_calls (of_makers c ∷ cs) = catalogue_calls cs

unfoldable pub catalogue_log : List (ShopCall × Reply) → List (Call × Reply)
catalogue_log [] = []
catalogue_log ((of_catalogue c, r) ∷ xs) = (c, r) ∷ catalogue_log xs
catalogue_log ((of_makers c, r) ∷ xs) = catalogue_log xs

-- the catalogue of a shop, alone
abbrev pub catalogue_of : Shop → Catalogue
catalogue_of a = record { slots = a.slots; room = a.room; calls = catalogue_calls a.calls }

abbrev pub begun_shop : Shop → ShopMemory
begun_shop a = shop_memory (begun (catalogue_of a)) (replicate (a.slots * slot_bytes) 0)

-- what its calls leave
unfoldable pub memory_of : Shop → ShopMemory
memory_of a = runs plan_of_shop a.calls (begun_shop a)

-- [14.52] "Demands 2 and 3 don't read it": whatever stands in the maker's table and whatever its calls do, both tables are what the calls of the
-- catalogue leave without it, and these answer the same. So questions, sheets, cards and pages, which are read off both tables, are the same.
-- Proof: Shop, `catalogue_apart`
abbrev pub CatalogueApart : Type 0
CatalogueApart =
    (cs : List ShopCall) (S : ShopMemory) →
    ((runs plan_of_shop cs S).catalogue ≡ run (catalogue_calls cs) S.catalogue)
    × (catalogue_log (logs plan_of_shop cs S) ≡ log (catalogue_calls cs) S.catalogue)

------------------------------------------------------------------------
-- Demand 1, of every call of a shop

-- [14.4] as of the catalogue's. Proof: Shop, `shop_refused_exactly`, `shop_refusal_keeps`
abbrev pub ShopRefusedExactly : Type 0
ShopRefusedExactly = (c : ShopCall) (S : ShopMemory) (n v : ℕ) → (answer (plan_of_shop c S) ≡ refused n v) ↔ Given n v (plan_of_shop c S).cases

-- [14.4] "A refusal leaves every byte of both"
abbrev pub ShopRefusalKeeps : Type 0
ShopRefusalKeeps = (c : ShopCall) (S : ShopMemory) (n v : ℕ) → answer (plan_of_shop c S) ≡ refused n v → memory (plan_of_shop c S) S ≡ S

-- [14.14] Proof: Shop, `shop_pinned`
abbrev pub ShopPinned : Type 0
ShopPinned =
    (c : ShopCall) (S U W : ShopMemory) (r s : Reply) → Promise (plan_of_shop c S) S r U → Promise (plan_of_shop c S) S s W → (r ≡ s) × (U ≡ W)

-- [14.57] "Emptying the catalogue or reading a sheet leaves it as it is", and so does every call of the catalogue; it may then be unsound until it is
-- zeroed (`left_behind`). Proof: Shop, `left_alone`
abbrev pub LeftAlone : Type 0
LeftAlone = (c : Call) (S : ShopMemory) → (memory (plan_of_shop (of_catalogue c) S) S).makers ≡ S.makers
