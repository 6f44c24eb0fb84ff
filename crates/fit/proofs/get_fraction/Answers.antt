-- `fit::get_fraction` meets its contract: the checks, then the division. Assumes nothing.
use mathlib.Core.Path.{sym}
use native.Mathlib.Omega.{arith}
use Rattle.base.proofs.Chain.{chain}
use Rattle.rules.specs.Scores.{fraction_at}
use Rattle.rules.proofs.Answered.{answers, handed_to, passed}
use Rattle.fit.proofs.Accepted.{Counted, accepted-counted}
use Rattle.fit.proofs.get_fraction.Goals.{In_ok-check_fraction}
use Rattle.fit.proofs.get_fraction.Goals as goal

pub returns-in_err-check_fraction : goal.returns-in_err-check_fraction
unfolding fraction_at
returns-in_err-check_fraction c = handed_to c.from_residual.ensures (search (chain, answers, c.in_err-check_fraction.was) depth 20 fits 5000)

-- past the checks
counted : (c : In_ok-check_fraction) → let a = c.args in Counted a.counts.now a.rows a.cols a.tiles a.cell
counted c = accepted-counted _ _ _ _ _ (sym (passed _ _ c.check_fraction.ensures c.in_ok-check_fraction.was))

pub overflow_mul-cell : goal.overflow_mul-cell
overflow_mul-cell c = let k = counted (goal.at.overflow_mul-cell c).In_ok-check_fraction in record { fits = omega arith }

pub overflow_add-cell : goal.overflow_add-cell
overflow_add-cell c = let k = counted (goal.at.overflow_add-cell c).In_ok-check_fraction in record { fits = omega arith }

pub fraction_of-requires : goal.fraction_of-requires
fraction_of-requires c = let k = counted (goal.at.fraction_of-requires c).In_ok-check_fraction in (omega arith, k.few)

pub returns : goal.returns
unfolding fraction_at
returns c = search (chain, answers, passed _ _ c.check_fraction.ensures c.in_ok-check_fraction.was) depth 20 fits 5000
