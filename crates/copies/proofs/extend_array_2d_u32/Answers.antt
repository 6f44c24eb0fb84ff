-- `copies::extend_array_2d_u32` meets its contract: a refusal leaves the target as it was, else it is filled and the rows are laid in it.
-- Assumes nothing.
use mathlib.Core.Path.{refl}
use Rattle.rules.specs.Tests.{has_length}
use Rattle.rules.proofs.Answered.{handed_to, caught, refused, done}
use Rattle.copies.proofs.Calls.{sides-passed, still-sized, rows-copied}
use Rattle.copies.proofs.extend_array_2d_u32.Goals as goal

pub returns-in_err-check_copy : goal.returns-in_err-check_copy
unfolding has_length
returns-in_err-check_copy c =
    rw (handed_to c.from_residual.ensures refl) (refused _ _ _ _ (caught _ _ c.check_copy.ensures c.in_err-check_copy.was))

pub lay_rows-requires : goal.lay_rows-requires
lay_rows-requires c = still-sized _ _ _ _ _ c.check_copy.ensures c.in_ok-check_copy.was c.fill.ensures.len

pub returns : goal.returns
unfolding has_length
returns c =
    done _ tt _ _ (sides-passed _ _ _ _ _ c.check_copy.ensures c.in_ok-check_copy.was) refl
    (rows-copied 0 1 _ _ _ _ (still-sized _ _ _ _ _ c.check_copy.ensures c.in_ok-check_copy.was refl) (c.fill.ensures.after (λ y e. e)) (c.lay_rows.ensures 0))
