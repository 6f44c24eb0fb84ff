-- `check_contents::all_finite` meets its contract: what its test answers of each entry is what the definition says of it. Assumes nothing.
use lib.Ieee.{nan}
use borrow.Author.Rules.{rules}
use Rattle.rules.specs.Floats.{is_finite, all_are}
use Rattle.check_contents.proofs.all_finite.Goals as goal

pub returns : goal.returns
unfolding all_are
returns c = c.all_pass.ensures is_finite nan (λ x r e. search rules)
