-- Demand 2, what `show` shows: the number of that place, and nothing where it is refused.
use mathlib.Core.Path.{sym, ap, ◌∙◌}
use mathlib.Core.List.{List, []}
use Prim.Native.Nat.{ℕ, ◌+◌, ◌-◌, ◌*◌, ◌≤◌, ◌<◌}
use native.Mathlib.Omega.{arith}
use lib.ListN.{length, get_or}
use Rattle.ground.specs.Calls.{answer}
use Rattle.ground.proofs.Calls.{leaves_done, refused_leaves}
use Rattle.register.specs.Number.{longest_number}
use Rattle.register.specs.Register.{slot_bytes, parts_of}
use Rattle.register.specs.Calls.{showing, stretch_from, stretch_size}
use Rattle.register.proofs.Slots.{number_read}
use Rattle.register.proofs.Sound.{Holds, ready_holds, holds_short}
use Rattle.register.proofs.Places.{number_placed}
use Rattle.register.proofs.Answers.{shows}
use Rattle.catalogue.specs.Calls.{plan_of}
use Rattle.demands.specs.Model.{tables_of}
use Rattle.demands.specs.Demand2.{ShowsNumber, ShowsNothing, ShowsEntered}
use Rattle.demands.proofs.Brought.{brought}

pub shows_number : ShowsNumber
unfolding stretch_from stretch_size
shows_number R p e =
    let k = p - 1 in
    let m = length (parts_of R) in
    let S = shows R p 0 e in
    let H : Holds R m = ready_holds R S.ready in
    let g : k < m = omega (arith, S.some, S.held) in
    let short : get_or R (k * slot_bytes) 0 ≤ longest_number = (holds_short R m H).short k g in
    let n = leaves_done (answer (showing p R)) 0 0 (get_or R (k * slot_bytes) 0) e in
    let f = leaves_done (answer (showing p R)) 0 0 (k * slot_bytes + 1) e in
    rw (n, f) (sym (number_read R k short) ∙ sym (number_placed R S.ready k g))

pub shows_nothing : ShowsNothing
unfolding stretch_size
shows_nothing R p e = refused_leaves (answer (showing p R)) 0 (get_or R ((p - 1) * slot_bytes) 0) e

pub shows_entered : ShowsEntered
unfolding plan_of answer
shows_entered a p h e =
    shows_number (tables_of a).register p e ∙ ap (λ (ps : List (List ℕ)). get_or ps (p - 1) []) (brought a h).parts
