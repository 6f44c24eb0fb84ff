-- `bitset::check_size` meets its contract: each exit is one check of the chain. Assumes nothing.
use Rattle.base.proofs.Chain.{chain}
use Rattle.rules.proofs.Answered.{answers}
use Rattle.bitset.proofs.check_size.Goals as goal

pub returns-then-not-colour_count : goal.returns-then-not-colour_count
returns-then-not-colour_count c = search (chain, answers) depth 20 fits 5000

pub returns : goal.returns
returns c = search (chain, answers) depth 20 fits 5000
