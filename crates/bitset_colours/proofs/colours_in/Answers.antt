-- `bitset_colours::colours_in` meets its contract: `colours-ones`. Assumes nothing.
use Rattle.bitset_colours.proofs.Colours.{colours-ones}
use Rattle.bitset_colours.proofs.colours_in.Goals as goal

pub returns : goal.returns
returns c = λ n l. colours-ones n c.args.bits l
