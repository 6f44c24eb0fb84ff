-- `bitset::to_vec` meets its contract: a refusal, or the members. Assumes nothing.
use Rattle.base.proofs.Chain.{chain}
use Rattle.rules.proofs.Answered.{answers, handed_to, passed}
use Rattle.rules.specs.Sets.{members_listed}
use Rattle.bitset.proofs.Calls.{few}
use Rattle.bitset.proofs.to_vec.Goals as goal

pub returns-in_err-check_set : goal.returns-in_err-check_set
unfolding members_listed
returns-in_err-check_set c = handed_to c.from_residual.ensures (search (chain, answers, c.in_err-check_set.was) depth 20 fits 5000)

pub members-requires : goal.members-requires
members-requires c = few c.args.set (passed _ _ c.check_set.ensures c.in_ok-check_set.was)

pub returns : goal.returns
unfolding members_listed
returns c = let h = passed _ _ c.check_set.ensures c.in_ok-check_set.was in search (chain, answers) depth 20 fits 5000
