-- `bitset::intersection` meets its contract: a refusal, or the common bits. Assumes nothing.
use Rattle.base.proofs.Chain.{chain}
use Rattle.rules.proofs.Answered.{answers, handed_to, passed}
use Rattle.rules.specs.Sets.{intersected}
use Rattle.bitset_colours.proofs.Calls.{of-bits}
use Rattle.bitset.proofs.Calls.{first-marked}
use Rattle.bitset.proofs.intersection.Goals as goal

pub returns-in_err-check_sets : goal.returns-in_err-check_sets
unfolding intersected
returns-in_err-check_sets c = handed_to c.from_residual.ensures (search (chain, answers, c.in_err-check_sets.was) depth 20 fits 5000)

pub returns : goal.returns
unfolding intersected
returns c =
    let a = c.args in
    let h = passed _ _ c.check_sets.ensures c.in_ok-check_sets.was in
    let held = first-marked a.set a.other h in
    search (chain, answers, of-bits, c.common_colours-bits.ensures) depth 20 fits 5000
