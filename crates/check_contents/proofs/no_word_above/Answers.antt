-- `check_contents::no_word_above` meets its contract: what its test answers of each cell is what the definition says of it. Assumes nothing.
use lib.Dec.{leb}
use borrow.Author.Rules.{rules}
use Rattle.rules.specs.Tests.{none_above}
use Rattle.check_contents.proofs.no_word_above.Goals as goal

pub returns : goal.returns
unfolding none_above
returns c = c.all_pass.ensures (λ x. leb x c.args.most) 0 (λ x r e. search rules)
