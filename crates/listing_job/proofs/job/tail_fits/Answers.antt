-- `listing_job::job::tail_fits` meets its contract: each test is asked only where the one before it passed. Assumes nothing.
use mathlib.Core.Path.{refl, sym, ◌∙◌}
use borrow.Author.Tests.{le-leb, lt-leb}
use Rattle.listing_job.specs.Form.{tail_fits}
use Rattle.base.proofs.Bools.{and-go, and-halt, never}
use Rattle.listing_job.proofs.Forming.{sides-are}
use Rattle.listing_job.proofs.job.tail_fits.Goals as goal
use Rattle.listing_job.proofs.job.tail_fits.Goals.{then-cells-numbers, else-cells-numbers}

pub returns-then-sides_up_to : goal.returns-then-sides_up_to
unfolding tail_fits
returns-then-sides_up_to c =
    elim c.if-cells-numbers.branch [
      | then-cells-numbers w ↦ and-go _ _ (le-leb _ _ w.if-cells-numbers.true) (and-go _ _ (sides-are _ w.number.ensures w.number-then-cells-numbers.ensures w.sides_up_to.ensures (sym w.value-is ∙ c.if-sides_up_to.true)) c.are_steps.ensures)
      | else-cells-numbers w ↦ never _ c.if-sides_up_to.true (w.value-is ∙ lt-leb _ _ w.if-cells-numbers.false)
    ]

pub returns-else-sides_up_to : goal.returns-else-sides_up_to
unfolding tail_fits
returns-else-sides_up_to c =
    elim c.if-cells-numbers.branch [
      | then-cells-numbers w ↦ and-go _ _ (le-leb _ _ w.if-cells-numbers.true) (and-halt _ _ (w.value-is ∙ sym (sides-are _ w.number.ensures w.number-then-cells-numbers.ensures w.sides_up_to.ensures refl)) c.if-sides_up_to.false)
      | else-cells-numbers w ↦ and-halt _ _ w.value-is c.if-sides_up_to.false
    ]
