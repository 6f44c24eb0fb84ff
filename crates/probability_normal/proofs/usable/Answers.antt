-- `probability_normal::usable` meets its contract: the pattern that stands for infinity is no NaN. Assumes nothing.
use lib.Ieee.{nan_bits}
use borrow.Author.Rules.{rules}
use Rattle.probability_normal.proofs.usable.Goals as goal

pub float_from_bits-result : goal.float_from_bits-result
unfolding nan_bits
float_from_bits-result c = search rules
