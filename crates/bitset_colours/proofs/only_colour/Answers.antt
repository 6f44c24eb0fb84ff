-- `bitset_colours::only_colour` meets its contract: `only-is` where one bit is set, else `only-not`. Assumes nothing.
use Rattle.bitset_colours.proofs.Colours.{only-not, only-is}
use Rattle.bitset_colours.proofs.only_colour.Goals as goal

pub returns-then-bits-ne1 : goal.returns-then-bits-ne1
returns-then-bits-ne1 c = λ n l. only-not 32 n c.args.bits l c.if-bits-ne1.true

pub returns : goal.returns
returns c = λ n l. only-is 32 n c.args.bits l c.ranges.bits.fits c.if-bits-ne1.false
