-- `fit_windows::window_colours` meets its contract. The loop's invariant: missing are the colours that no tile passed serves. Assumes nothing.
use Rattle.fit_windows.proofs.Kept.{keeps-le}
use Rattle.fit_windows.proofs.Lists.{missing-first, missing-turn, missing-end, missing-none}
use Rattle.fit_windows.proofs.window_colours.Goals as goal

pub loop-n-init : goal.loop-n-init
loop-n-init c = missing-first _ _ _

pub returns-then-missing-eq0 : goal.returns-then-missing-eq0
returns-then-missing-eq0 c = let l = c.loop-n in missing-none _ _ _ l.auto.n-end l.invariant c.if-missing-eq0.true

pub loop-n-preserved : goal.loop-n-preserved
loop-n-preserved c = missing-turn _ _ _ _ c.loop-n.invariant c.missing_past-missing.ensures

pub overflow_sub-result : goal.overflow_sub-result
overflow_sub-result c = keeps-le c.requires.left_bound c.loop-n.invariant

pub returns : goal.returns
returns c = let l = c.loop-n in missing-end _ _ _ l.auto.n-end c.loop-n-test.false l.invariant
