-- `probability_normal::largest` meets its contract. The loop's invariant: folding what is left from here gives the whole. Assumes nothing.
use mathlib.Core.Path.{refl, sym, ◌∙◌}
use lib.Ieee.{nan}
use Rattle.base.proofs.Tabled.{fold_step, fold_done}
use Rattle.rules.specs.Probabilities.{larger, largest_of}
use Rattle.probability_normal.proofs.largest.Goals as goal

pub loop-p-init : goal.loop-p-init
unfolding largest_of
loop-p-init c = refl

pub loop-p-preserved : goal.loop-p-preserved
loop-p-preserved c =
    rw c.larger-most.ensures (sym (fold_step larger c.args.ps.now c.loop-p.p-index nan c.loop-p.most c.loop-p-test.true) ∙ c.loop-p.invariant)

pub returns : goal.returns
returns c = sym (fold_done larger c.args.ps.now c.loop-p.p-index c.loop-p.most c.loop-p-test.false) ∙ c.loop-p.invariant
