-- `listing_job::job::head_fits` meets its contract: each test is asked only where the one before it passed. Assumes nothing.
use mathlib.Core.Path.{refl, sym, ◌∙◌, ap}
use Prim.Native.Nat.{ℕ}
use lib.Dec.{leb}
use Rattle.listing_job.specs.Form.{head_fits}
use Rattle.base.proofs.Bools.{and-go, and-halt, never}
use Rattle.listing_job.proofs.Forming.{sides-are, option_is}
use Rattle.listing_job.proofs.job.head_fits.Goals as goal
use Rattle.listing_job.proofs.job.head_fits.Goals.{then-sides_up_to, else-sides_up_to}

pub returns-then-number-le1 : goal.returns-then-number-le1
unfolding head_fits
returns-then-number-le1 c =
    elim c.if-sides_up_to.branch [
      | then-sides_up_to w ↦ and-go _ _ (sides-are _ c.number.ensures c.number-2.ensures c.sides_up_to.ensures w.if-sides_up_to.true) (and-go _ _ (option_is w.number-then-sides_up_to.ensures (sym w.value-is ∙ c.if-number-le1.true)) (ap (λ (n : ℕ). leb n 1) c.number-then-number-le1.ensures))
      | else-sides_up_to w ↦ never _ c.if-number-le1.true (w.value-is ∙ w.if-sides_up_to.false)
    ]

pub returns-else-number-le1 : goal.returns-else-number-le1
unfolding head_fits
returns-else-number-le1 c =
    elim c.if-sides_up_to.branch [
      | then-sides_up_to w ↦ and-go _ _ (sides-are _ c.number.ensures c.number-2.ensures c.sides_up_to.ensures w.if-sides_up_to.true) (and-halt _ _ (w.value-is ∙ ap (λ (n : ℕ). leb n 1) w.number-then-sides_up_to.ensures) c.if-number-le1.false)
      | else-sides_up_to w ↦ and-halt _ _ (w.value-is ∙ sym (sides-are _ c.number.ensures c.number-2.ensures c.sides_up_to.ensures refl)) c.if-number-le1.false
    ]
