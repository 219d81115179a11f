-- Of the numbers at the offsets, none stands twice just when none does in the slots.
use mathlib.Core.Path.{◌∙◌}
use native.Mathlib.Omega.{arith}
use Rattle.register.proofs.Offsets.{slots_inside, slots_same}
use Rattle.register.proofs.none_twice.Goals as goal

pub none_repeats-requires : goal.none_repeats-requires
none_repeats-requires c =
    slots_inside c.args.reg.now _ _ c.args.m c.loop-k.invariant (omega arith) c.requires.short c.requires.few

pub returns : goal.returns
returns c =
    c.none_repeats.ensures ∙ slots_same c.args.reg.now _ _ c.args.m c.loop-k.invariant (omega arith) c.requires.short
