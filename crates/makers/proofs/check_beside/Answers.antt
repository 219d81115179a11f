-- Right lengths let soundness be asked; a sound register tells the parts that the maker's table is judged by.
use mathlib.Core.Path.{◌≡◌, sym, ap, ◌∙◌}
use mathlib.Core.Bool.{true}
use native.Mathlib.Omega.{arith}
use lib.ListN.{length}
use Rattle.ground.specs.Calls.{is_refused}
use Rattle.answers.proofs.Answers.{refuses, handed_check}
use Rattle.register.specs.Register.{parts_of, register_length}
use Rattle.register.specs.Inner.{Ready}
use Rattle.register.proofs.Sound.{ready_holds}
use Rattle.makers.specs.Makers.{makers_length, makers_sound}
use Rattle.makers.proofs.Answers.{as_many_slots, beside_good, beside_makers, beside_refused, beside_register, length_allowed, sizes_passed}
use Rattle.makers.proofs.check_beside.Goals as goal
use Rattle.makers.proofs.check_beside.Goals.{In_ok-check_sizes, Else-not-register_sound, After-makers_sound}

-- the lengths passed, and then the register
sized : (c : In_ok-check_sizes) →
    (register_length c.args.reg.now ≡ true) × (makers_length c.args.reg.now c.args.makers.now ≡ true)
sized c = sizes_passed _ _ (ap is_refused (sym c.in_ok-check_sizes.ensures))

ready : (c : Else-not-register_sound) → Ready c.args.reg.now
ready c = record {
  fits = (sized (goal.at.Else-not-register_sound c).In_ok-check_sizes).0;
  sound = sym c.if-not-register_sound.ensures;
}

-- what the maker's table was found to be
told : (c : After-makers_sound) → c.makers_sound.result ≡ makers_sound (length (parts_of c.args.reg.now)) c.args.makers.now
told c = c.makers_sound.ensures ∙ ap (λ n. makers_sound n c.args.makers.now) c.count_parts.ensures.fact_1

pub returns-in_err-check_sizes : goal.returns-in_err-check_sizes
returns-in_err-check_sizes c =
    handed_check _ _ c.from_residual.ensures.1
    ∙ beside_refused c.args.reg.now c.args.makers.now _ c.in_err-check_sizes.ensures (refuses _)

pub register_sound-requires : goal.register_sound-requires
register_sound-requires c = (sized c).0

pub returns-then-not-register_sound : goal.returns-then-not-register_sound
returns-then-not-register_sound c =
    let s = sized (goal.at.returns-then-not-register_sound c).In_ok-check_sizes in
    sym (beside_register _ _ s.0 s.1 (sym c.if-not-register_sound.ensures))

pub count_parts-requires : goal.count_parts-requires
count_parts-requires c = ready c

pub makers_sound-requires : goal.makers_sound-requires
makers_sound-requires c =
    let R = c.args.reg.now in
    let M = c.args.makers.now in
    let s = sized (goal.at.makers_sound-requires c).In_ok-check_sizes in
    let H = ready_holds R (ready (goal.at.makers_sound-requires c).Else-not-register_sound) in
    record {
      sized = length_allowed R M s.1;
      within = omega (arith, c.count_parts.ensures.fact_1, H.inside, as_many_slots R M s.1);
    }

pub returns-then-not-makers_sound : goal.returns-then-not-makers_sound
returns-then-not-makers_sound c =
    let s = sized (goal.at.returns-then-not-makers_sound c).In_ok-check_sizes in
    let tells = told (goal.at.returns-then-not-makers_sound c).After-makers_sound in
    sym (beside_makers _ _ s.0 s.1 (sym c.if-not-register_sound.ensures) (sym tells ∙ c.if-not-makers_sound.true))

pub returns : goal.returns
returns c =
    let s = sized (goal.at.returns c).In_ok-check_sizes in
    let tells = told (goal.at.returns c).After-makers_sound in
    sym (beside_good _ _ s.0 s.1 (sym c.if-not-register_sound.ensures) (sym tells ∙ c.if-not-makers_sound.false))
