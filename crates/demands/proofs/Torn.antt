-- Request 6: 16 on registration, whether the number is held or not; whatever is held is found and shown.
use mathlib.Core.Path.{◌≡◌, sym, ap, ◌∙◌}
use mathlib.Core.Bool.{true}
use mathlib.Core.List.{List, []}
use Prim.Native.Nat.{ℕ, ◌-◌, ◌≤◌, ◌<◌}
use native.Mathlib.Omega.{arith}
use lib.ListN.{length, get_or}
use Rattle.ground.specs.Calls.{decide, answer}
use Rattle.register.specs.Number.{good_number}
use Rattle.register.specs.Register.{parts_of}
use Rattle.register.proofs.Answers.{showing_done}
use Rattle.register.proofs.Places.{number_good}
use Rattle.register.proofs.Laws.{look_up_exactly}
use Rattle.catalogue.specs.Calls.{register_part, plan_of}
use Rattle.demands.specs.Model.{entered, tables_of}
use Rattle.demands.specs.Demand1.{told}
use Rattle.demands.specs.Torn.{TornRefused, HeldFound}
use Rattle.demands.proofs.Brought.{brought}
use Rattle.demands.proofs.Told.{told_exactly}

pub torn_refused : TornRefused
unfolding told decide
torn_refused a n h good torn = told_exactly a (register_part n) h ∙ rw (good, torn)

pub held_found : HeldFound
unfolding plan_of answer
held_found a p h some held =
    let b = brought a h in
    let R = (tables_of a).register in
    let e : parts_of R ≡ (entered a).parts = b.parts in
    let inside : p ≤ length (parts_of R) = rw e held in
    let placed : p - 1 < length (parts_of R) = omega arith in
    let n = get_or (entered a).parts (p - 1) [] in
    let here : get_or (parts_of R) (p - 1) [] ≡ n = ap (λ (ps : List (List ℕ)). get_or ps (p - 1) []) e in
    let good : good_number n ≡ true = ap good_number (sym here) ∙ number_good R b.both.ready (p - 1) placed in
    ((look_up_exactly n R p b.both.ready good some).1 (inside, here), showing_done R b.both.ready p some inside)
