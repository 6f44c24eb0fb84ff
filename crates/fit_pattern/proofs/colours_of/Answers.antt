-- `fit_pattern::colours_of` meets its contract. The loop's invariant: the places passed hold what the definition says of them, where what is
-- read is what it says. Assumes nothing.
use Prim.Native.Nat.{ℕ}
use mathlib.Core.Path.{◌∙◌, ap}
use native.Mathlib.Omega.{arith}
use lib.ListN.{length-replicate}
use Rattle.base.specs.Tables.{tab}
use Rattle.base.proofs.Swept.{swept_none, swept-turn, swept_all}
use Rattle.fit_pattern.proofs.colours_of.Goals as goal

pub loop-i-init : goal.loop-i-init
loop-i-init g c = λ f h. swept_none 0 _ _

pub loop-i-preserved : goal.loop-i-preserved
loop-i-preserved g c = λ f h. swept-turn 0 c.loop-i.cell-items _ c.loop-i.i f c.colour.result (omega (arith, c.loop-i-test.true, length-replicate {A = ℕ})) (c.loop-i.invariant f h) (h _ _ c.loop-i-test.true c.colour.ensures)

pub returns : goal.returns
returns g c = λ f h. c.loop-i.invariant f h ∙ swept_all 0 c.loop-i.i f _ (omega (arith, c.loop-i-test.false, length-replicate {A = ℕ})) ∙ ap (λ (n : ℕ). tab n f) (length-replicate g.row.N 0)
