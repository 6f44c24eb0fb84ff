-- `fit_scan::check_for_contradiction` meets its contract: the checks, then the scan of what was accepted. Assumes nothing.
use mathlib.Core.Path.{sym}
use Rattle.base.proofs.Chain.{chain}
use Rattle.rules.proofs.Answered.{answers, handed_to, passed, tells}
use Rattle.rules.specs.Forced.{dead_end}
use Rattle.fit_scan.specs.Scanned.{found_by, scanned}
use Rattle.fit_scan.proofs.Accepted.{scannable}
use Rattle.fit_scan.proofs.check_for_contradiction.Goals as goal

pub returns-in_err-check_scan : goal.returns-in_err-check_scan
unfolding dead_end
returns-in_err-check_scan c = handed_to c.from_residual.ensures (search (chain, answers, c.in_err-check_scan.was) depth 20 fits 5000)

pub first_dead_end-requires : goal.first_dead_end-requires
first_dead_end-requires c = scannable _ _ _ _ _ _ (sym (passed _ _ c.check_scan.ensures c.in_ok-check_scan.was))

pub returns : goal.returns
unfolding dead_end scanned found_by
returns c = tells _ (passed _ _ c.check_scan.ensures c.in_ok-check_scan.was) c.first_dead_end.ensures
