-- `probability_influence::Product` meets the contract of `change_row`: a sweep. Assumes nothing.
use Prim.Native.Nat.{◌<◌}
use mathlib.Core.Path.{ap, ◌∙◌}
use lib.ListN.{length, get_or}
use lib.Ieee.{Float, nan}
use Rattle.base.proofs.Sweep.{sweep-none, sweep-turn, sweep-all, sweep-old}
use native.Mathlib.Nat.{le_refl}
use Rattle.rules.specs.Floats.{times}
use Rattle.probability_influence.specs.Step.{multiplied_by}
use borrow.Author.Rules.{rules}
use Rattle.probability_influence.proofs.ProductChange.change_row.Goals as goal

pub loop-j-init : goal.loop-j-init
loop-j-init c = sweep-none

pub loop-j-preserved : goal.loop-j-preserved
unfolding multiplied_by
loop-j-preserved c = let s = c.args in
    let h : c.loop-j.j < length s.row.now = search rules in
    sweep-turn c.loop-j.invariant h
    (ap (λ (p : Float). times p c.factor.result) (sweep-old c.loop-j.invariant c.loop-j.j (le_refl _) h)
    ∙ ap (λ (x : Float). times (get_or s.row.now c.loop-j.j nan) x) c.factor.ensures)

pub returns : goal.returns
returns c = sweep-all c.loop-j.invariant (search rules)
