-- `listing_job::job::are_steps` meets its contract. The loop's invariant: what is left is whole exactly if all of it is. Assumes nothing.
use mathlib.Core.Path.{◌∙◌, ap}
use native.Mathlib.Omega.{arith}
use Rattle.listing_job.proofs.Forming.{whole_from, whole_is, whole-on, whole-end, goes_on}
use Rattle.listing_job.proofs.job.are_steps.Goals as goal

pub loop-p-init : goal.loop-p-init
loop-p-init c = whole_is _ _ c.requires

pub step_end-p-requires : goal.step_end-p-requires
step_end-p-requires c = c.loop-p-test.true

pub loop-p-smaller : goal.loop-p-smaller
loop-p-smaller c = omega (arith, c.step_end-p.ensures, goes_on c.args.numbers.now c.loop-p.p c.loop-p-test.true)

pub loop-p-preserved : goal.loop-p-preserved
loop-p-preserved c = ap (whole_from _) c.step_end-p.ensures ∙ whole-on _ _ c.loop-p-test.true ∙ c.loop-p.invariant

pub returns : goal.returns
returns c = whole-end _ _ c.loop-p-test.false ∙ c.loop-p.invariant
