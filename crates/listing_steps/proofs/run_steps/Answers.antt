-- `listing_steps::run_steps` meets its contract. The loop's invariant: the planes and the page keep their lengths, and what is left to do comes
-- to the whole.
-- Assumes nothing.
use mathlib.Core.Path.{◌∙◌}
use native.Mathlib.Omega.{arith}
use Rattle.listing_job.proofs.Forming.{goes_on}
use Rattle.listing_steps.proofs.Walking.{running_none, running-turn, running-end, running-on}
use borrow.Author.Rules.{rules}
use Rattle.listing_steps.proofs.run_steps.Goals as goal

pub loop-p-init : goal.loop-p-init
loop-p-init c = (search rules, search rules, search rules, search rules, running_none _ _ _ _ _ _ _ c.requires)

pub step-q-requires : goal.step-q-requires
step-q-requires c = (c.loop-p.invariant.4.walks, c.loop-p-test.true)

pub step_end-p-requires : goal.step_end-p-requires
step_end-p-requires c = c.loop-p-test.true

pub loop-p-smaller : goal.loop-p-smaller
loop-p-smaller c = omega (arith, c.step_end-p.ensures, goes_on c.args.numbers.now c.loop-p.p c.loop-p-test.true)

pub loop-p-preserved : goal.loop-p-preserved
loop-p-preserved c = (c.step-q.auto.pieces ∙ c.loop-p.invariant.0, c.step-q.auto.weights ∙ c.loop-p.invariant.1, c.step-q.auto.counts ∙ c.loop-p.invariant.2, c.step-q.auto.out ∙ c.loop-p.invariant.3, running-on _ _ _ _ _ _ _ c.step_end-p.ensures (running-turn _ _ _ _ _ _ _ c.loop-p.invariant.4 c.loop-p-test.true c.step-q.ensures))

pub shape_of-pieces : goal.shape_of-pieces
shape_of-pieces c = c.loop-p.invariant.0

pub shape_of-weights : goal.shape_of-weights
shape_of-weights c = c.loop-p.invariant.1

pub shape_of-counts : goal.shape_of-counts
shape_of-counts c = c.loop-p.invariant.2

pub shape_of-out : goal.shape_of-out
shape_of-out c = c.loop-p.invariant.3

pub returns : goal.returns
returns c = running-end _ _ _ _ _ _ _ c.loop-p.invariant.4 c.loop-p-test.false
