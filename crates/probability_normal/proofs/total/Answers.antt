-- `probability_normal::total` meets its contract. The loop's invariant: folding what is left from here gives the whole. Assumes nothing.
use mathlib.Core.Path.{refl, sym, ◌∙◌}
use lib.Ieee.{nan}
use Rattle.base.proofs.Tabled.{fold_step, fold_done}
use Rattle.rules.specs.Probabilities.{plus_share, total_of}
use Rattle.probability_normal.proofs.total.Goals as goal

pub loop-p-init : goal.loop-p-init
unfolding total_of
loop-p-init c = refl

pub loop-p-preserved : goal.loop-p-preserved
loop-p-preserved c =
    sym (fold_step (plus_share c.args.most) c.args.ps.now c.loop-p.p-index nan c.loop-p.sum c.loop-p-test.true) ∙ c.loop-p.invariant

pub returns : goal.returns
returns c = sym (fold_done (plus_share c.args.most) c.args.ps.now c.loop-p.p-index c.loop-p.sum c.loop-p-test.false) ∙ c.loop-p.invariant
