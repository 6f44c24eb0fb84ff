-- `bitset::marks_within` meets its contract: the power of two fits 32 bits. Assumes nothing.
use mathlib.Core.Path.{ap}
use native.Mathlib.Omega.{arith}
use lib.Dec.{ltb}
use Rattle.rules.specs.Sets.{marks_within}
use Rattle.bitset_colours.proofs.Words.{shl_one}
use Rattle.check_sizes.proofs.Sides.{count_most}
use Rattle.bitset.proofs.marks_within.Goals as goal

pub overflow_shl-result : goal.overflow_shl-result
overflow_shl-result c = omega (arith, count_most c.args.set.size c.requires)

pub returns : goal.returns
unfolding marks_within
returns c =
    let s = c.args.set in
    ap (ltb s.bits) (shl_one 32 s.size (omega (arith, count_most s.size c.requires)))
