-- `copies::extend_array_2d_f64` meets its contract: a refusal leaves the target as it was, else it is filled and the rows are laid in it.
-- Assumes nothing.
use mathlib.Core.Path.{refl}
use lib.Ieee.{nan}
use Rattle.base.proofs.Chain.{chain}
use Rattle.rules.specs.Floats.{one64}
use Rattle.rules.specs.Tests.{has_length}
use Rattle.rules.proofs.Answered.{answers, handed_to, caught, stopped, refused, done}
use Rattle.copies.proofs.Calls.{sides-passed, still-sized, rows-copied}
use Rattle.copies.proofs.extend_array_2d_f64.Goals as goal

pub returns-in_err-check_copy : goal.returns-in_err-check_copy
unfolding has_length
returns-in_err-check_copy c =
    rw (handed_to c.from_residual.ensures refl) (refused _ _ _ _ (stopped _ _ (caught _ _ c.check_copy.ensures c.in_err-check_copy.was)))

pub returns-then-not-all_numbers : goal.returns-then-not-all_numbers
unfolding has_length
returns-then-not-all_numbers c =
    search (chain, answers, sides-passed _ _ _ _ _ c.check_copy.ensures c.in_ok-check_copy.was) depth 20 fits 5000

pub lay_rows-requires : goal.lay_rows-requires
lay_rows-requires c = still-sized _ _ _ _ _ c.check_copy.ensures c.in_ok-check_copy.was c.fill.ensures.len

pub returns : goal.returns
unfolding has_length
returns c =
    done _ tt _ _ (search (chain, sides-passed _ _ _ _ _ c.check_copy.ensures c.in_ok-check_copy.was) depth 20 fits 5000) refl
    (rows-copied nan one64 _ _ _ _ (still-sized _ _ _ _ _ c.check_copy.ensures c.in_ok-check_copy.was refl) (c.fill.ensures.after (λ y e. e)) (c.lay_rows.ensures nan))
