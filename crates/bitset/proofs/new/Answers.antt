-- `bitset::new` meets its contract: the one check, then the set. Assumes nothing.
use Rattle.base.proofs.Chain.{chain}
use Rattle.rules.specs.Sets.{empty_set}
use Rattle.rules.proofs.Answered.{answers, handed_to, passed}
use Rattle.bitset_colours.proofs.Digits.{none_is}
use Rattle.bitset_colours.proofs.Calls.{of-bits}
use Rattle.bitset.proofs.new.Goals as goal

pub returns-in_err-check_size : goal.returns-in_err-check_size
unfolding empty_set
returns-in_err-check_size c = handed_to c.from_residual.ensures (search (chain, answers, c.in_err-check_size.was) depth 20 fits 5000)

pub returns : goal.returns
unfolding empty_set
returns c = let h = passed _ _ c.check_size.ensures c.in_ok-check_size.was in search (chain, answers, of-bits, none_is) depth 20 fits 5000
