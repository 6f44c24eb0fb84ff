-- `bitset_colours::no_colour` meets its contract: `colours-empty`. Assumes nothing.
use Rattle.bitset_colours.proofs.Colours.{colours-empty}
use Rattle.bitset_colours.proofs.no_colour.Goals as goal

pub returns : goal.returns
returns c = λ n l. colours-empty n c.args.bits l
