-- `check_contents::all_pass` meets its contract. The loop's invariant: the answer so far is the test of every entry passed, whatever function
-- the test's answers are of. Assumes nothing.
use mathlib.Core.Path.{refl, ◌∙◌, ap}
use Rattle.std.proofs.lemmas.List.{get_or_default}
use Rattle.base.specs.Counting.{every}
use Rattle.base.proofs.Counted.{every-done}
use Rattle.check_contents.proofs.Turn.{every-turn}
use Rattle.check_contents.proofs.all_pass.Goals as goal

pub loop-x-init : goal.loop-x-init
unfolding every
loop-x-init g c = λ f none h. refl

pub loop-x-preserved : goal.loop-x-preserved
loop-x-preserved g c = λ f none h. every-turn _ (c.loop-x.invariant f none h) (h _ _ c.test-fine.ensures ∙ ap f (c.x-item.is ∙ get_or_default _ _ _ _ c.loop-x-test.true)) refl

pub returns : goal.returns
returns g c = λ f none h. every-done _ c.loop-x.auto.x-index-end c.loop-x-test.false (c.loop-x.invariant f none h)
