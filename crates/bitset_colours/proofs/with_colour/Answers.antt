-- `bitset_colours::with_colour` meets its contract: `or_is`. Assumes nothing.
use mathlib.Core.Path.{◌∙◌, ap}
use lib.Bits.{bit_or}
use Rattle.bitset_colours.proofs.Words.{or_is}
use Rattle.bitset_colours.proofs.with_colour.Goals as goal

pub returns : goal.returns
returns c = λ n l m. ap (bit_or c.args.bits) c.colour_bit.ensures ∙ or_is n c.args.bits c.args.t l m
