-- `listing_steps::take_step` meets its contract: the first number decides between lay and lift; the numbers of the step are all there.
-- Assumes nothing.
use native.Mathlib.Omega.{arith}
use Prim.Native.Nat.{◌+◌}
use Rattle.listing_end.specs.Ending.{panel_with}
use Rattle.listing_steps.proofs.Walking.{three, four, at-lay, at-lift, took-lay, took-lift}
use Rattle.listing_steps.proofs.take_step.Goals as goal

pub bounds-numbers-p : goal.bounds-numbers-p
bounds-numbers-p c = omega (arith, three c.args.numbers.now c.args.p c.requires.1 c.requires.0.whole)

pub bounds-numbers-p-2 : goal.bounds-numbers-p-2
bounds-numbers-p-2 c = omega (arith, three c.args.numbers.now c.args.p c.requires.1 c.requires.0.whole)

pub place-there-requires : goal.place-there-requires
place-there-requires c = (c.requires.0.small (c.args.p + 1), c.requires.0.small (c.args.p + 2))

pub bounds-numbers-p-then-numbers-p-eq1 : goal.bounds-numbers-p-then-numbers-p-eq1
bounds-numbers-p-then-numbers-p-eq1 c = omega (arith, four c.args.numbers.now c.args.p c.requires.1 c.requires.0.whole c.if-numbers-p-eq1.true)

pub returns-then-numbers-p-eq1 : goal.returns-then-numbers-p-eq1
unfolding panel_with
returns-then-numbers-p-eq1 c = took-lay _ _ _ _ _ _ _ (at-lay _ _ c.requires.1 c.requires.0.whole c.if-numbers-p-eq1.true) c.place-there.ensures c.lay.ensures

pub returns-else-numbers-p-eq1 : goal.returns-else-numbers-p-eq1
unfolding panel_with
returns-else-numbers-p-eq1 c = took-lift _ _ _ _ _ _ (at-lift _ _ c.requires.1 c.requires.0.whole c.if-numbers-p-eq1.false) c.place-there.ensures c.lift.ensures
