-- `fit_pattern::mask_for` meets its contract: the test for 0 picks the mask. Assumes nothing.
use mathlib.Core.Path.{sym}
use borrow.Author.Tests.{eq-eqb, ne_eqb}
use Rattle.base.proofs.Bools.{pick_yes, pick_no}
use Rattle.fit_pattern.proofs.mask_for.Goals as goal

pub returns-then-colour-eq0 : goal.returns-then-colour-eq0
returns-then-colour-eq0 c = sym (pick_yes _ _ _ (eq-eqb _ _ c.if-colour-eq0.true))

pub returns-else-colour-eq0 : goal.returns-else-colour-eq0
returns-else-colour-eq0 c = sym (pick_no _ _ _ (ne_eqb _ _ c.if-colour-eq0.false))
