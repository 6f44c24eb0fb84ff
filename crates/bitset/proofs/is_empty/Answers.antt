-- `bitset::is_empty` meets its contract: a refusal, or whether no bit is set. Assumes nothing.
use Rattle.base.proofs.Chain.{chain}
use Rattle.rules.proofs.Answered.{answers, handed_to, passed}
use Rattle.rules.specs.Sets.{emptiness}
use Rattle.bitset.proofs.Calls.{marked}
use Rattle.bitset.proofs.is_empty.Goals as goal

pub returns-in_err-check_set : goal.returns-in_err-check_set
unfolding emptiness
returns-in_err-check_set c = handed_to c.from_residual.ensures (search (chain, answers, c.in_err-check_set.was) depth 20 fits 5000)

pub returns : goal.returns
unfolding emptiness
returns c = let h = passed _ _ c.check_set.ensures c.in_ok-check_set.was in search (chain, answers, marked, c.no_colour.ensures) depth 20 fits 5000
