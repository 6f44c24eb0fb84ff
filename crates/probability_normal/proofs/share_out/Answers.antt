-- `probability_normal::share_out` meets its contract: a sweep. Assumes nothing.
use Prim.Native.Nat.{◌<◌}
use lib.ListN.{length}
use borrow.Author.Rules.{rules}
use mathlib.Core.Path.{ap, ◌∙◌}
use lib.Ieee.{Float, nan}
use Rattle.base.proofs.Sweep.{sweep-none, sweep-turn, sweep-all, sweep-old}
use native.Mathlib.Nat.{le_refl}
use Rattle.rules.specs.Floats.{over}
use Rattle.probability_normal.proofs.Normal.{map-tab}
use Rattle.probability_normal.proofs.share_out.Goals as goal

pub loop-p-init : goal.loop-p-init
loop-p-init c = sweep-none

pub loop-p-preserved : goal.loop-p-preserved
loop-p-preserved c = let s = c.args in
    let h : c.loop-p.p-index < length s.ps.now = search rules in
    sweep-turn c.loop-p.invariant h (ap (λ (p : Float). over (over p s.most) s.sum) (sweep-old c.loop-p.invariant c.loop-p.p-index (le_refl _) h))

pub returns : goal.returns
returns c = let s = c.args in
    sweep-all c.loop-p.invariant (search rules) ∙ map-tab (λ (p : Float). over (over p s.most) s.sum) s.ps.now nan nan
