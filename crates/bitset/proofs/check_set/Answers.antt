-- `bitset::check_set` meets its contract: each exit is one check of the chain. Assumes nothing.
use Rattle.base.proofs.Chain.{chain}
use Rattle.rules.proofs.Answered.{answers, handed_to, passed}
use Rattle.bitset.proofs.Calls.{counted}
use Rattle.bitset.proofs.check_set.Goals as goal

pub returns-in_err-check_size : goal.returns-in_err-check_size
returns-in_err-check_size c = handed_to c.from_residual.ensures (search (chain, answers, c.in_err-check_size.was) depth 20 fits 5000)

pub marks_within-requires : goal.marks_within-requires
marks_within-requires c = counted c.args.set.size (passed _ _ c.check_size.ensures c.in_ok-check_size.was)

pub returns-then-not-marks_within : goal.returns-then-not-marks_within
returns-then-not-marks_within c = let h = passed _ _ c.check_size.ensures c.in_ok-check_size.was in search (chain, answers) depth 20 fits 5000

pub returns : goal.returns
returns c = let h = passed _ _ c.check_size.ensures c.in_ok-check_size.was in search (chain, answers) depth 20 fits 5000
