-- `bitset_colours::common_colours` meets its contract: `and_is`. Assumes nothing.
use Rattle.bitset_colours.proofs.Words.{and_is}
use Rattle.bitset_colours.proofs.common_colours.Goals as goal

pub returns : goal.returns
returns c = λ n l. and_is n c.args.bits c.args.others l
