-- `check_sizes::has_length` meets its contract: what it compares is what the test says. Assumes nothing.
use Rattle.rules.specs.Tests.{has_length}
use borrow.Author.Rules.{rules}
use Rattle.check_sizes.proofs.has_length.Goals as goal

pub returns : goal.returns
unfolding has_length
returns g c = search rules
