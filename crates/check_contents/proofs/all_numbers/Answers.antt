-- `check_contents::all_numbers` meets its contract: what its test answers of each entry is what the definition says of it. Assumes nothing.
use lib.Ieee.{nan}
use borrow.Author.Rules.{rules}
use Rattle.rules.specs.Floats.{is_number, all_are}
use Rattle.check_contents.proofs.all_numbers.Goals as goal

pub returns : goal.returns
unfolding all_are
returns c = c.all_pass.ensures is_number nan (λ x r e. search rules)
