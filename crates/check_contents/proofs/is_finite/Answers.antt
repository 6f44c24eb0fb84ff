-- `check_contents::is_finite` meets its contract: the two comparisons are the definition's, and the pattern that stands for infinity is no NaN.
-- Assumes nothing.
use lib.Ieee.{nan_bits}
use borrow.Author.Rules.{rules}
use Rattle.check_contents.proofs.is_finite.Goals as goal

pub float_from_bits-result : goal.float_from_bits-result
unfolding nan_bits
float_from_bits-result c = search rules
